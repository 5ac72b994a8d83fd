-- Which units a call asks its finder for. A unit is told by the bytes of its file.
use Rattle.std.specs.Prelude.{◌≡◌, ◌≢◌, ◌||◌, ℕ, Bool, List, [], ◌∷◌, ◌++◌, length, Option, Some, None, is_some, Result, IfOk, nat_le, if◌then◌else◌}
use Rattle.std.specs.List.{flat_map}
use Rattle.asm_image.specs.Faults.{FirstBroken}
use Rattle.asm_image.specs.declared.fault.AsmFault.{AsmFault}
use Rattle.cc_base.specs.Files.{READ_LIMIT}
use Rattle.method_unit.specs.UnitFile.{first_unit_fault, unit_of}
use Rattle.unit_form.specs.declared.unit_fault.UnitFault.{UnitFault}
use Rattle.unit_builder.specs.Linked.{linked_entries}
use Rattle.unit_form.specs.Spelling.{unit_bytes}
use Rattle.answer_lines.specs.declared.interrupt.Interrupt.{Interrupt}
use Rattle.check_driver.specs.Expected.{file_at}
use Rattle.assembly_reports.specs.JudgedUnits.{judged_keys, report_keys, units_asked}
use Rattle.check_driver.specs.Met.{contents, first_missing}
use Rattle.check_driver.specs.CacheMet.{CallMet, cache_entries}
use Rattle.check_driver.specs.LinkedReports.{RefusedFile, first_refused}
use Rattle.result_cache.specs.Entries.{Entry}
use Rattle.unit_verdicts.specs.Asked.{AsksPrefix, distinct, without_entry}
use Rattle.unit_verdicts.specs.Picks.{Pick, pick_of}
use Rattle.unit_verdicts.specs.VerdictCache.{CachedUnits}
use Rattle.unit_verdicts.specs.declared.source.Source.TheVariants.{Cache as OfCache}
use Rattle.command_words.specs.Words.{command_of, file_indexes, words_at}
use Rattle.command_words.specs.declared.check_words.CheckWords.{CheckWords}
use Rattle.command_words.specs.declared.command.Command.{Command}
use Rattle.command_words.specs.declared.command.Command.TheVariants as commands
use Rattle.written_assemblies.specs.GeneratedFiles.{generated_file}

-- ---- the units of files

-- The units of an assembly whose file has this first fault, or none, and those of the assemblies after it. One that is
-- refused ends the check.
abbrev pub keys_before : Bool → Pick → List ℕ → Option AsmFault → List (List ℕ) → List (List ℕ)
keys_before infer pick bytes (Some fault) others = []
keys_before infer pick bytes None others = report_keys infer pick bytes ++ others

-- The units that are judged for the reports of assemblies with these bytes, in order.
abbrev pub check_keys : Bool → Pick → List (List ℕ) → List (List ℕ)
check_keys infer pick [] = []
check_keys infer pick (bytes ∷ files) = keys_before infer pick bytes (FirstBroken bytes) (check_keys infer pick files)

-- The units for which a finder is asked for these reports, where a cache has these entries: each once.
abbrev pub check_asked : Bool → List Entry → List (List ℕ) → List (List ℕ)
check_asked infer entries files = without_entry entries (distinct (check_keys infer (pick_of entries) files))

-- The units of linked files where one is refused, or where none is.
abbrev pub keys_unless : Option RefusedFile → List (List ℕ) → List (List ℕ)
keys_unless (Some refused) keys = []
keys_unless None keys = keys

-- The units that are judged for the reports of linked files with these bytes, in order.
unfoldable pub linked_keys : List (List ℕ) → List (List ℕ)
linked_keys files = keys_unless (first_refused files) (flat_map judged_keys (linked_entries files))

-- The units for which a finder is asked for these reports, where a cache has these entries: each once.
abbrev pub linked_asked : List Entry → List (List ℕ) → List (List ℕ)
linked_asked entries files = without_entry entries (distinct (linked_keys files))

-- For the report of a unit whose file has this first fault, or none.
abbrev pub unit_asked : List ℕ → Option UnitFault → List (List ℕ)
unit_asked bytes (Some fault) = []
unit_asked bytes None = unit_bytes (unit_of bytes) ∷ []

abbrev pub unit_file_asked : List ℕ → List (List ℕ)
unit_file_asked bytes = if nat_le READ_LIMIT (length bytes) then [] else unit_asked bytes (first_unit_fault bytes)

-- The cache of a check, of which no unit was judged yet, where this is met under the name of its cache. Invariants are
-- kept where a cache or a proof file is to be left, and where Ensures are inferred of them.
abbrev pub begun_units : CheckWords → Option (List ℕ) → CachedUnits
begun_units check cache = record {
  show = is_some check.show;
  keeps = is_some check.cache || (is_some check.proof || is_some check.infer);
  held = OfCache (cache_entries cache);
  keys = [];
}

-- ---- commands

-- For a command, what is met under the name of its cache, and the bytes of its files, in order.
abbrev pub bytes_asked : Command → Option (List ℕ) → List (List ℕ) → List (List ℕ)
bytes_asked (commands.Unit file) cache files = unit_file_asked (file_at files 0)
bytes_asked (commands.Check check) cache files = check_asked (is_some check.infer) (cache_entries cache) files
bytes_asked (commands.Linked linked) cache files = linked_asked (cache_entries cache) files
bytes_asked (commands.Gen seed count) cache files = units_asked (generated_file seed count)
bytes_asked (commands.Verify file proof) cache files = []
bytes_asked (commands.List file) cache files = []
bytes_asked (commands.Il file method) cache files = []
bytes_asked (commands.Run run) cache files = []
bytes_asked (commands.Refute file method runs) cache files = []

-- Where the first file that is missing has this name, or where none is.
abbrev pub asked_unless : Option (List ℕ) → List (List ℕ) → List (List ℕ)
asked_unless (Some name) keys = []
asked_unless None keys = keys

-- For a command, by what the call meets.
abbrev pub files_asked : Command → List (List ℕ) → CallMet → List (List ℕ)
files_asked command words met =
    asked_unless (first_missing (words_at words (file_indexes command)) met.files)
    (bytes_asked command met.cache (contents met.files))

abbrev pub command_asked : List (List ℕ) → CallMet → Option Command → List (List ℕ)
command_asked words met None = []
command_asked words met (Some command) = files_asked command words met

-- For the words, by what the call meets.
abbrev pub asked_by : List (List ℕ) → CallMet → List (List ℕ)
asked_by words met = command_asked words met (command_of words)

-- ---- what a finder was asked for

-- An answer that came asked for these, or for a prefix of them where it was interrupted. It is interrupted too where a
-- file was not read.
pub record AnswerAsks (keys : List (List ℕ)) (result : Result ℕ Interrupt) (old new : List (List ℕ)) : Type 0 where
  pub prefix : AsksPrefix keys old new
  pub whole : IfOk result (λ status. status ≢ 4 → new ≡ old ++ keys)

-- So did a call of the program that ended with this status.
pub record LeavesAsked (keys : List (List ℕ)) (status : ℕ) (old new : List (List ℕ)) : Type 0 where
  pub prefix : AsksPrefix keys old new
  pub whole : status ≢ 4 → status ≢ 6 → status ≢ 7 → new ≡ old ++ keys
