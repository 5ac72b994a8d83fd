-- What a check knows of its assemblies and of the proof file that it leaves, once it has answered.
use Rattle.std.specs.Prelude.{◌≢◌, ◌≤◌, ℕ, List, [], ◌∷◌, IfSome, Option, Some, None, is_some, Result, IfOk}
use Rattle.std.specs.List.{AllByRecursion}
use Rattle.asm_image.specs.Faults.{FirstBroken}
use Rattle.asm_image.specs.declared.fault.AsmFault.{AsmFault}
use Rattle.answer_lines.specs.declared.interrupt.Interrupt.{Interrupt}
use Rattle.check_driver.specs.Asked.{check_keys}
use Rattle.check_driver.specs.CacheMet.{CallMet, cache_entries}
use Rattle.assembly_reports.specs.Reportable.{AreRunnable, CanRun}
use Rattle.check_driver.specs.LinkedReports.{RefusedFile, first_refused}
use Rattle.check_driver.specs.Met.{contents, first_missing}
use Rattle.command_words.specs.Words.{command_of, file_indexes, words_at}
use Rattle.command_words.specs.declared.check_words.CheckWords.{CheckWords}
use Rattle.command_words.specs.declared.command.Command.{Command}
use Rattle.command_words.specs.declared.command.Command.TheVariants as commands
use Rattle.unit_builder.specs.Linked.{linked_entries}
use Rattle.unit_verdicts.specs.Asked.{distinct}
use Rattle.unit_verdicts.specs.Picks.{pick_of}
use Rattle.unit_verdicts.specs.ProofLeft.{IsProofLeft}
use Rattle.unit_verdicts.specs.declared.source.Source.TheVariants.{Cache as OfCache}

-- The units of an assembly whose file has this first fault, or none, can be run, and so can the others. One that is
-- refused ends the check.
abbrev pub RunnableBefore : List ℕ → Option AsmFault → Type 0 → Type 0
RunnableBefore bytes (Some fault) Others = Unit {0}
RunnableBefore bytes None Others = AreRunnable bytes × Others

-- The units of each assembly that a check of these files reports can be run.
abbrev pub AreAllRunnable : List (List ℕ) → Type 0
AreAllRunnable [] = Unit {0}
AreAllRunnable (bytes ∷ files) = RunnableBefore bytes (FirstBroken bytes) (AreAllRunnable files)

-- What is known of a check that ended with this status, by what was met under the name of its cache, and by the bytes
-- of its files.
pub record KnowsCheck (check : CheckWords) (cache : Option (List ℕ)) (files : List (List ℕ)) (status : ℕ) : Type 0 where
  pub runnable : AreAllRunnable files
  pub left : status ≤ 1 → IfSome check.proof (λ _. IsProofLeft (OfCache (cache_entries cache))
      (distinct (check_keys (is_some check.infer) (pick_of (cache_entries cache)) files)))

-- Where one of linked files is refused, or where none is.
abbrev pub RunnableUnless : Option RefusedFile → Type 0 → Type 0
RunnableUnless (Some refused) Runnable = Unit {0}
RunnableUnless None Runnable = Runnable

-- The units of linked files can be run, unless one of these is refused.
unfoldable pub AreLinkedRunnable : List (List ℕ) → Type 0
AreLinkedRunnable files = RunnableUnless (first_refused files) (AllByRecursion CanRun (linked_entries files))

-- What is known of a command that ended so, by what was met under the name of its cache, and by the bytes of its files.
abbrev pub Knows : Command → Option (List ℕ) → List (List ℕ) → ℕ → Type 0
Knows (commands.Check check) cache files status = KnowsCheck check cache files status
Knows (commands.Linked linked) cache files status = AreLinkedRunnable files
Knows _ cache files status = Unit {0}

-- Where the first file that is missing has this name, or where none is.
abbrev pub known_unless : Option (List ℕ) → Type 0 → Type 0
known_unless (Some name) Known = Unit {0}
known_unless None Known = Known

-- The same by what the call met.
abbrev pub FilesKnown : Command → List (List ℕ) → CallMet → ℕ → Type 0
FilesKnown command words met status =
    known_unless (first_missing (words_at words (file_indexes command)) met.files)
    (Knows command met.cache (contents met.files) status)

-- An answer that came knows this, unless a file was not read.
abbrev pub AnswerKnows : Command → List (List ℕ) → CallMet → Result ℕ Interrupt → Type 0
AnswerKnows command words met result = IfOk result (λ status. status ≢ 4 → FilesKnown command words met status)

abbrev pub WordsKnow : List (List ℕ) → CallMet → Result ℕ Interrupt → Type 0
WordsKnow words met result = IfSome (command_of words) (λ command. AnswerKnows command words met result)
