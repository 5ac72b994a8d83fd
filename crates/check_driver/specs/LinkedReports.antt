-- The reports of files, alone or linked with each other, and the answer to a check of linked files.
use Rattle.std.specs.Prelude.{◌≡◌, ℕ, suc, Bool, List, [], ◌∷◌, length, map, take, zip, Option, Some, None, option_map, if◌then◌else◌, slice_index_or}
use Rattle.std.specs.List.{AllByRecursion, flat_map, list_all, range_with_len}
use Rattle.answer_lines.specs.Answers.{Answer, output_answer, refused_answer}
use Rattle.asm_image.specs.Faults.{FirstBroken}
use Rattle.asm_image.specs.declared.fault.AsmFault.{AsmFault}
use Rattle.assembly_answers.specs.FaultText.{assembly_fault_text}
use Rattle.cc_base.specs.Sink.{AppendsPrefix}
use Rattle.assembly_reports.specs.CheckText.{are_proved, report_text}
use Rattle.assembly_reports.specs.Reportable.{CanRun, entries_at}
use Rattle.unit_builder.specs.FileSets.{FileSet}
use Rattle.unit_builder.specs.Linked.{linked_entries}
use Rattle.unit_builder.specs.declared.entry.MethodEntry.{MethodEntry}
use Rattle.unit_verdicts.specs.Picks.{Manner, Pick}

-- ---- reports

-- A file that is reported: its name, and an entry for each of its methods.
abbrev pub ReportedFile : Type 0
ReportedFile = List ℕ × List MethodEntry

abbrev pub file_report : Manner → ReportedFile → List ℕ
file_report manner (name, entries) = report_text name manner entries

-- The reports of these, one after another.
abbrev pub file_reports : Manner → List ReportedFile → List ℕ
file_reports manner files = flat_map (file_report manner) files

-- Each method of these files is proved.
abbrev pub are_all_proved : Pick → List ReportedFile → Bool
are_all_proved pick files = list_all (λ file. are_proved pick file.1) files

-- ---- the answer to a check of linked files

-- An assembly that is refused, by its list index, with its first fault.
abbrev pub RefusedFile : Type 0
RefusedFile = ℕ × AsmFault

abbrev pub first_of_both : Option AsmFault → Option RefusedFile → Option RefusedFile
first_of_both (Some fault) later = Some (0, fault)
first_of_both None later = option_map (λ refused. (suc refused.0, refused.1)) later

-- The first assembly that is refused among files with these bytes.
abbrev pub first_refused : List (List ℕ) → Option RefusedFile
first_refused [] = None
first_refused (bytes ∷ files) = first_of_both (FirstBroken bytes) (first_refused files)

-- The answer where an assembly is refused, or where none is.
abbrev pub refused_or : List (List ℕ) → Option RefusedFile → Answer → Answer
refused_or names (Some (file, fault)) answer = refused_answer (slice_index_or names file []) (assembly_fault_text fault.cause) fault.at
refused_or names None answer = answer

-- The answer to a check of linked files with these names and these bytes, whose reports are made in this manner: the
-- reports of all files, each with the entries of linked files. Where a file is refused there is no report.
unfoldable pub linked_answer : Manner → List (List ℕ) → List (List ℕ) → Answer
linked_answer manner names files =
    let reported = zip names (linked_entries files) in
    refused_or names (first_refused files)
    (output_answer (if are_all_proved manner.pick reported then 0 else 1) (file_reports manner reported))

-- ---- the files, as the code comes to them

-- An entry for each method of so many files, from one on.
abbrev pub entries_from : FileSet → ℕ → ℕ → List (List MethodEntry)
entries_from files first count = map (entries_at files) (range_with_len first count)

-- These with their names.
abbrev pub reported_from : FileSet → ℕ → List (List ℕ) → List ReportedFile
reported_from files first names = zip names (entries_from files first (length names))

-- ---- what the code knows of the files once it has begun the reports

-- The reports of so many of these files were begun: what was appended to a sink is a prefix of these, one after another,
-- and the units of each can be run.
pub record ReportsBegun (manner : Manner) (files : List ReportedFile) (old new : Option (List ℕ)) : Type 0 where
  pub count : ℕ
  pub each : AllByRecursion (λ file. CanRun file.1) (take count files)
  pub prefix : AppendsPrefix old new (file_reports manner (take count files))

-- The same of linked files with these names and these bytes, none of which is refused.
pub record LinkedBegun (manner : Manner) (names files : List (List ℕ)) (old new : Option (List ℕ)) : Type 0 where
  pub accepted : first_refused files ≡ None
  pub begun : ReportsBegun manner (zip names (linked_entries files)) old new
