-- What is known of the files that were read is known of what is met.
use Rattle.std.proofs.Common.{◌≡◌, ℕ, List, [], ◌∷◌, Vec, Global, Option, Some, None, is_some, Result, Ok, Err, refl, sym, subst, ◌∙◌, inl, inr}
use Rattle.std.specs.Prelude.{IfOk, IfSome}
use Rattle.std.specs.List.{AllByRecursion}
use Rattle.asm_image.specs.Faults.{FirstBroken}
use Rattle.asm_image.specs.declared.fault.AsmFault.{AsmFault}
use Rattle.answer_lines.specs.declared.interrupt.Interrupt.{Interrupt}
use Rattle.command_words.specs.Words.{file_indexes, words_at}
use Rattle.command_words.specs.declared.check_words.CheckWords.{CheckWords}
use Rattle.command_words.specs.declared.command.Command.{Command}
use Rattle.command_words.specs.declared.command.Command.TheVariants as commands
use Rattle.result_cache.specs.Entries.{Entry}
use Rattle.unit_verdicts.specs.Asked.{distinct}
use Rattle.unit_verdicts.specs.Picks.{pick_of}
use Rattle.unit_verdicts.specs.ProofLeft.{IsProofLeft}
use Rattle.unit_verdicts.specs.declared.source.Source.TheVariants.{Cache as OfCache}
use Rattle.check_driver.specs.Asked.{check_keys}
use Rattle.check_driver.specs.CacheMet.{CallMet, cache_entries}
use Rattle.check_driver.specs.CallRead.{cache_bytes}
use Rattle.check_driver.specs.Known.{AnswerKnows, AreAllRunnable, AreLinkedRunnable, Knows, KnowsCheck, RunnableBefore, RunnableUnless, known_unless}
use Rattle.check_driver.specs.LinkedReports.{RefusedFile, first_refused}
use Rattle.assembly_reports.specs.Reportable.{CanRun}
use Rattle.check_driver.specs.Met.{AreContents, IsCacheContent, IsContent, bytes_read, contents, first_missing}
use Rattle.check_driver.proofs.Answering.{keys_alike}
use Rattle.check_driver.proofs.CacheCuts.{entries_alike}
use Rattle.check_driver.proofs.FilesRead.{none_missing}
use Rattle.check_driver.proofs.LinkedFiles.{contents_same, read_same, refused_alike}
use Rattle.unit_builder.specs.Linked.{linked_entries}

-- ---- where nothing is known

-- A file is missing.
pub known_missing : (command : Command) (words : List (List ℕ)) (met : CallMet) (name : List ℕ) (r : Result ℕ Interrupt)
    → first_missing (words_at words (file_indexes command)) met.files ≡ Some name → AnswerKnows command words met r
known_missing command words met name (Ok status) first = λ read.
    subst (λ (missing : Option (List ℕ)). known_unless missing (Knows command met.cache (contents met.files) status)) (sym first) tt
known_missing command words met name (Err i) first = tt

-- A file was not read.
pub known_unread : (command : Command) (words : List (List ℕ)) (met : CallMet) (r : Result ℕ Interrupt) → IfOk r (λ status. status ≡ 4) → AnswerKnows command words met r
known_unread command words met (Ok status) is = λ read. absurd (read is)
known_unread command words met (Err i) is = tt

-- ---- files that were read

-- The units of what is met can be run where those of what was read can.
before_alike : (whole bytes : List ℕ) (fault : Option AsmFault) (Others Later : Type 0) → FirstBroken whole ≡ fault → IsContent (Some whole) bytes
    → RunnableBefore bytes (FirstBroken bytes) Others → (Others → Later) → RunnableBefore whole fault Later
before_alike whole bytes (Some fault) Others Later first content known later = tt
before_alike whole bytes None Others Later first content known later =
    let same = read_same whole bytes content first in
    let its = subst (λ (b : List ℕ). RunnableBefore b (FirstBroken b) Others) same known in
    let both = subst (λ (found : Option AsmFault). RunnableBefore whole found Others) first its in
    (both.0, later both.1)

runnable_alike : (met : List (Option (List ℕ))) (read : List (Vec ℕ Global)) → AreContents met read → AreAllRunnable (bytes_read read) → AreAllRunnable (contents met)
runnable_alike [] [] h known = tt
runnable_alike (Some whole ∷ met) (bytes ∷ read) (content, others) known =
    before_alike whole bytes.items (FirstBroken whole) (AreAllRunnable (bytes_read read)) (AreAllRunnable (contents met)) refl content known
    (λ (its : AreAllRunnable (bytes_read read)). runnable_alike met read others its)
runnable_alike (None ∷ met) (bytes ∷ read) (inl is, others) known = absurd cc
runnable_alike (None ∷ met) (bytes ∷ read) (inr is, others) known = absurd cc
runnable_alike [] (bytes ∷ read) h known = absurd h
runnable_alike (under ∷ met) [] h known = absurd h

knows_alike : (check : CheckWords) (met : CallMet) (read : List (Vec ℕ Global)) (own : Option (Vec ℕ Global)) (status : ℕ) → AreContents met.files read → IsCacheContent met.cache own
    → KnowsCheck check (cache_bytes own) (bytes_read read) status → KnowsCheck check met.cache (contents met.files) status
knows_alike check met read own status h is known = record {
  runnable = runnable_alike met.files read h known.runnable;
  left = λ few.
      let infer = is_some check.infer in
      let entries = cache_entries (cache_bytes own) in
      subst (λ (es : List Entry). IfSome check.proof (λ _. IsProofLeft (OfCache es) (distinct (check_keys infer (pick_of es) (contents met.files))))) (sym (entries_alike met.cache own is))
      (subst (λ (keys : List (List ℕ)). IfSome check.proof (λ _. IsProofLeft (OfCache entries) (distinct keys))) (sym (keys_alike infer (pick_of entries) met.files read h)) (known.left few));
}

-- The units of linked files can be run where those of what was read can.
linked_runnable_alike : (met : List (Option (List ℕ))) (read : List (Vec ℕ Global)) → AreContents met read → AreLinkedRunnable (bytes_read read) → AreLinkedRunnable (contents met)
unfolding AreLinkedRunnable
linked_runnable_alike met read h known = by (first_refused (contents met)) refl
  where
    by : (refused : Option RefusedFile) → first_refused (contents met) ≡ refused → RunnableUnless refused (AllByRecursion CanRun (linked_entries (contents met)))
    by (Some refused) is = tt
    by None is =
        let same = contents_same met read h is in
        let its = subst (λ (found : Option RefusedFile). RunnableUnless found (AllByRecursion CanRun (linked_entries (bytes_read read)))) (sym (refused_alike met read h) ∙ is) known in
        subst (λ (files : List (List ℕ)). AllByRecursion CanRun (linked_entries files)) same its

command_alike : (command : Command) (met : CallMet) (read : List (Vec ℕ Global)) (own : Option (Vec ℕ Global)) (status : ℕ) → AreContents met.files read → IsCacheContent met.cache own
    → Knows command (cache_bytes own) (bytes_read read) status → Knows command met.cache (contents met.files) status
command_alike (commands.Check check) met read own status h is known = knows_alike check met read own status h is known
command_alike (commands.Linked linked) met read own status h is known = linked_runnable_alike met.files read h known
command_alike (commands.Verify file proof) met read own status h is known = tt
command_alike (commands.Unit file) met read own status h is known = tt
command_alike (commands.List file) met read own status h is known = tt
command_alike (commands.Il file method) met read own status h is known = tt
command_alike (commands.Run run) met read own status h is known = tt
command_alike (commands.Refute file method runs) met read own status h is known = tt
command_alike (commands.Gen seed count) met read own status h is known = tt

pub known_read : (command : Command) (words : List (List ℕ)) (met : CallMet) (read : List (Vec ℕ Global)) (own : Option (Vec ℕ Global)) (r : Result ℕ Interrupt) → AreContents met.files read
    → IsCacheContent met.cache own → IfOk r (λ status. Knows command (cache_bytes own) (bytes_read read) status) → AnswerKnows command words met r
known_read command words met read own (Ok status) h is known = λ other.
    subst (λ (missing : Option (List ℕ)). known_unless missing (Knows command met.cache (contents met.files) status))
    (sym (none_missing (words_at words (file_indexes command)) met.files read h)) (command_alike command met read own status h is known)
known_read command words met read own (Err i) h is known = tt
