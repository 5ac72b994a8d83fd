-- The files that a call leaves: a proof file, and a cache.
use Rattle.std.specs.Prelude.{◌≡◌, ◌≢◌, ◌⊎◌, ℕ, Bool, List, [], ◌∷◌, ◌++◌, Option, Some, None, is_none, is_some, option_map, option_to_list, Result, IfOk, if◌then◌else◌}
use Rattle.std.specs.List.{list_all}
use Rattle.asm_image.specs.Faults.{FirstBroken}
use Rattle.cc_base.specs.Files.{Held, ToldReplaced}
use Rattle.answer_lines.specs.Answers.{Answer}
use Rattle.answer_lines.specs.Outcome.{GivesOrFails, WritesAll}
use Rattle.answer_lines.specs.Writing.{Change}
use Rattle.answer_lines.specs.declared.interrupt.Interrupt.{Interrupt}
use Rattle.check_driver.specs.Asked.{check_keys, linked_keys}
use Rattle.check_driver.specs.CacheMet.{CallMet, cache_entries, command_cache, command_proof}
use Rattle.check_driver.specs.Met.{contents, first_missing}
use Rattle.command_words.specs.Words.{command_of, file_indexes, words_at}
use Rattle.command_words.specs.declared.command.Command.{Command}
use Rattle.command_words.specs.declared.command.Command.TheVariants as commands
use Rattle.unit_verdicts.specs.Asked.{distinct}
use Rattle.unit_verdicts.specs.CacheFile.{cache_left}
use Rattle.unit_verdicts.specs.Picks.{entries_in, pick_of}
use Rattle.unit_verdicts.specs.ProofLeft.{proof_left}
use Rattle.unit_verdicts.specs.declared.source.Source.{Source}
use Rattle.unit_verdicts.specs.declared.source.Source.TheVariants.{Cache as OfCache}

-- A file that a call leaves.
pub record LeftFile : Type 0 where
  pub name : List ℕ
  pub bytes : List ℕ

-- No assembly with these bytes is refused.
abbrev pub are_accepted : List (List ℕ) → Bool
are_accepted files = list_all (λ bytes. is_none (FirstBroken bytes)) files

-- The file of this name that has these bytes, where it has a name.
abbrev pub named_file : Option (List ℕ) → List ℕ → List LeftFile
named_file name bytes = option_to_list (option_map (λ n. record { name = n; bytes = bytes }) name)

-- The proof file and the cache of these names, where there are such, that have the units of these keys, each with what
-- was held for it or found.
abbrev pub left_files : Option (List ℕ) → Option (List ℕ) → Source → List (List ℕ) → List LeftFile
left_files proof cache held keys =
    named_file proof (proof_left held keys) ++ named_file cache (cache_left (entries_in held) keys)

-- They are left where all files are accepted.
abbrev pub left_where : Bool → Option (List ℕ) → Option (List ℕ) → Source → List (List ℕ) → List LeftFile
left_where accepted proof cache held keys = if accepted then left_files proof cache held keys else []

-- What a check of files with these bytes leaves, in this order: a proof file and a cache of the units that were judged,
-- each once, with the invariants under which they were. Where a file is refused, nothing is left.
abbrev pub check_left : Bool → List (List ℕ) → Command → Option (List ℕ) → List (List ℕ) → List LeftFile
check_left infer words command cache files =
    left_where (are_accepted files) (command_proof words command) (command_cache words command)
    (OfCache (cache_entries cache)) (distinct (check_keys infer (pick_of (cache_entries cache)) files))

-- The same of a check of linked files.
abbrev pub linked_left : List (List ℕ) → Command → Option (List ℕ) → List (List ℕ) → List LeftFile
linked_left words command cache files =
    left_where (are_accepted files) (command_proof words command) (command_cache words command)
    (OfCache (cache_entries cache)) (distinct (linked_keys files))

-- The same for a command, what is met under the name of its cache, and the bytes of its files, in order. No other
-- command leaves a file.
abbrev pub bytes_left : Command → List (List ℕ) → Option (List ℕ) → List (List ℕ) → List LeftFile
bytes_left (commands.Check check) words cache files = check_left (is_some check.infer) words (commands.Check check) cache files
bytes_left (commands.Linked linked) words cache files = linked_left words (commands.Linked linked) cache files
bytes_left (commands.Verify file proof) words cache files = []
bytes_left (commands.Unit file) words cache files = []
bytes_left (commands.List file) words cache files = []
bytes_left (commands.Il file method) words cache files = []
bytes_left (commands.Run run) words cache files = []
bytes_left (commands.Refute file method runs) words cache files = []
bytes_left (commands.Gen seed count) words cache files = []

-- Where the first file that is missing has this name, or where none is.
abbrev pub left_unless : Option (List ℕ) → List LeftFile → List LeftFile
left_unless (Some name) left = []
left_unless None left = left

-- For a command, by what the call meets.
abbrev pub files_left : Command → List (List ℕ) → CallMet → List LeftFile
files_left command words met =
    left_unless (first_missing (words_at words (file_indexes command)) met.files)
    (bytes_left command words met.cache (contents met.files))

abbrev pub command_left : List (List ℕ) → CallMet → Option Command → List LeftFile
command_left words met None = []
command_left words met (Some command) = files_left command words met

-- For the words, by what the call meets.
abbrev pub left_by : List (List ℕ) → CallMet → List LeftFile
left_by words met = command_left words met (command_of words)

-- ---- files after a call

-- This, where a file is named. Without one nothing can fail to be replaced.
abbrev pub IfNamed : Option (List ℕ) → Type 0 → Type 0
IfNamed None failed = ⊥
IfNamed (Some name) failed = failed

-- This, where a proof file or a cache is named.
abbrev pub IfEither : Option (List ℕ) → Option (List ℕ) → Type 0 → Type 0
IfEither proof cache failed = IfNamed proof failed ⊎ IfNamed cache failed

-- The call gave the answer, or was interrupted after all of it, only where a device refused to replace a file.
abbrev pub GivesOrUnreplaced : Answer → Type 0 → Result ℕ Interrupt → Change → Change → Type 0
GivesOrUnreplaced answer unreplaced result out err = GivesOrFails answer [] ⊥ unreplaced result out err

-- The files have what was left, of two of one name the later, and are otherwise as before.
abbrev pub AreLeft : List LeftFile → Option Held → Option Held → Type 0
AreLeft [] old new = new ≡ old
AreLeft (left ∷ others) old new = (mid : Option Held) × ToldReplaced old mid left.name left.bytes × AreLeft others mid new

-- So they have the first of these, or all.
abbrev pub PrefixIsLeft : List LeftFile → Option Held → Option Held → Type 0
PrefixIsLeft left old new = (prefix : List LeftFile) × ((rest : List LeftFile) × (left ≡ prefix ++ rest)) × AreLeft prefix old new

-- An answer that came has left these. Where it was interrupted, the files are as before, or the whole text was written
-- and then the first of these were left. It is interrupted too where a file was not read.
pub record AnswerLeaves (left : List LeftFile) (text : List ℕ) (result : Result ℕ Interrupt) (out : Change)
    (old new : Option Held) : Type 0 where
  pub whole : IfOk result (λ status. status ≢ 4 → AreLeft left old new)
  pub either : (new ≡ old) ⊎ (PrefixIsLeft left old new × WritesAll out text)

-- So has a call of the program that ended with this status.
pub record LeavesFiles (left : List LeftFile) (text : List ℕ) (status : ℕ) (out : Change)
    (old new : Option Held) : Type 0 where
  pub whole : status ≢ 4 → status ≢ 6 → status ≢ 7 → AreLeft left old new
  pub either : (new ≡ old) ⊎ (PrefixIsLeft left old new × WritesAll out text)
