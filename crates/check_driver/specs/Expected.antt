-- What a call of the program gives where nothing interrupts it.
use Rattle.std.specs.Prelude.{ℕ, Bool, false, List, [], ◌∷◌, ◌++◌, length, max, Option, Some, None, is_some, nat_le, if◌then◌else◌, codes, slice_index_or}
use Rattle.asm_image.specs.Faults.{FirstBroken}
use Rattle.asm_image.specs.declared.fault.AsmFault.{AsmFault}
use Rattle.cc_base.specs.Files.{READ_LIMIT}
use Rattle.cil_model.specs.Limits.{MAX_FILE_BYTES}
use Rattle.cil_model.specs.declared.unit.Unit.{Unit as MethodUnit}
use Rattle.unit_form.specs.Faults.{fault_at}
use Rattle.method_unit.specs.UnitFile.{first_unit_fault, unit_of}
use Rattle.unit_form.specs.declared.unit_fault.UnitFault.{UnitFault}
use Rattle.invariant_checker.specs.Counts.{all_proved}
use Rattle.answer_lines.specs.Answers.{Answer, USAGE, missing_line, error_answer, output_answer, refused_answer}
use Rattle.answer_lines.specs.Outcome.{after_line}
use Rattle.assembly_reports.specs.CheckText.{all_methods_proved, check_text, summary_text}
use Rattle.assembly_answers.specs.Answers.{il_answer, list_answer, refute_file_answer, run_file_answer}
use Rattle.assembly_answers.specs.FaultText.{unit_fault_text, assembly_fault_text}
use Rattle.check_driver.specs.CacheMet.{CallMet, cache_entries, cache_refusal, command_cache}
use Rattle.check_driver.specs.LinkedReports.{linked_answer}
use Rattle.check_driver.specs.Met.{first_missing, contents}
use Rattle.check_driver.specs.ProofText.{proof_fault_at, proof_fault_text}
use Rattle.assembly_reports.specs.ReportText.{unit_report, unit_verdicts}
use Rattle.command_words.specs.Words.{args_told, check_files, command_of, file_indexes, linked_files, word_at, words_at}
use Rattle.command_words.specs.declared.check_words.CheckWords.{CheckWords}
use Rattle.command_words.specs.declared.command.Command.{Command}
use Rattle.command_words.specs.declared.command.Command.TheVariants as commands
use Rattle.proof_files.specs.Reading.{ProofRead, Refused, Whole}
use Rattle.unit_verdicts.specs.Picks.{Manner, limit_pick}
use Rattle.unit_verdicts.specs.VerdictCache.{manner_under}
use Rattle.unit_verdicts.specs.declared.source.Source.TheVariants.{Cache as OfCache, Proof as OfProof}
use Rattle.written_assemblies.specs.GeneratedFiles.{generated_file}

abbrev pub report_answer : MethodUnit → Answer
report_answer unit = output_answer (if all_proved (unit_verdicts unit) then 0 else 1) (unit_report unit)

-- The answer for the bytes of a unit file that is not too large, which have this first fault or none.
abbrev pub unit_answer : List ℕ → List ℕ → Option UnitFault → Answer
unit_answer name bytes (Some fault) = refused_answer name (unit_fault_text fault) (fault_at fault)
unit_answer name bytes None = report_answer (unit_of bytes)

-- The answer to `unit FILE` for the bytes of the file.
abbrev pub unit_file_answer : List ℕ → List ℕ → Answer
unit_file_answer name bytes =
    if nat_le READ_LIMIT (length bytes) then refused_answer name (codes "file too large") MAX_FILE_BYTES
    else unit_answer name bytes (first_unit_fault bytes)

-- The answer to a check whose first assembly has this name and these bytes, which have this first fault or none; the
-- last is the answer for the assemblies after it. One that is refused ends the answer.
abbrev pub checked_before : Bool → List ℕ → Manner → List ℕ → Option AsmFault → Answer → Answer
checked_before infer name manner bytes (Some fault) others =
    refused_answer name (assembly_fault_text fault.cause) fault.at
checked_before infer name manner bytes None others = record {
  out = check_text infer name manner bytes ++ others.out;
  err = others.err;
  status = max (if all_methods_proved infer manner.pick bytes then 0 else 1) others.status;
}

-- The answer to `check FILE..` for the names of the files and their bytes, where the reports are made in this manner,
-- of the methods as they are written or with what is inferred of them.
abbrev pub check_answer : Bool → Manner → List (List ℕ) → List (List ℕ) → Answer
check_answer infer manner (name ∷ names) (bytes ∷ files) =
    checked_before infer name manner bytes (FirstBroken bytes) (check_answer infer manner names files)
check_answer infer manner _ _ = output_answer 0 []

-- The manner in which a check makes its reports, by what is met under the name of its cache.
abbrev pub check_manner : CheckWords → Option (List ℕ) → Manner
check_manner check cache = manner_under (is_some check.show) (OfCache (cache_entries cache))

-- The answer where memory ran out before the proof file was read: nothing, and the status of that.
abbrev pub unread_proof : Answer
unread_proof = error_answer 7 []

-- The report of an assembly of this name and with these bytes, of its methods as they are written, and its status.
abbrev pub assembly_answer : Manner → List ℕ → List ℕ → Answer
assembly_answer manner name bytes =
    output_answer (if all_methods_proved false manner.pick bytes then 0 else 1) (check_text false name manner bytes)

-- The answer to `verify FILE F` for the name of F and what was read of it, where the assembly has this name and these
-- bytes, and is accepted: its report, in which each unit is judged under its entry, and no invariant is shown.
abbrev pub answer_by : List ℕ → List ℕ → List ℕ → Option ProofRead → Answer
answer_by name bytes by (Some (Whole entries)) = assembly_answer (manner_under false (OfProof entries)) name bytes
answer_by name bytes by (Some (Refused fault)) = refused_answer by (proof_fault_text fault) (proof_fault_at fault)
answer_by name bytes by None = unread_proof

-- The same where the assembly has this first fault, or none. One that is refused is told before the proof file is read.
abbrev pub verify_answer : List ℕ → List ℕ → Option ProofRead → List ℕ → Option AsmFault → Answer
verify_answer name by read bytes (Some fault) = refused_answer name (assembly_fault_text fault.cause) fault.at
verify_answer name by read bytes None = answer_by name bytes by read

-- The answer to `gen SEED COUNT` for the bytes of the file that is generated: the summary alone.
abbrev pub gen_answer : List ℕ → Answer
gen_answer bytes = output_answer (if all_methods_proved false limit_pick bytes then 0 else 1) (summary_text limit_pick bytes)

-- ---- commands

-- The bytes of the file at an index among those of a command.
abbrev pub file_at : List (List ℕ) → ℕ → List ℕ
file_at files index = slice_index_or files index []

-- The answer to a command of these words for what is met under the name of its cache, for what is read of its proof
-- file, and for the bytes of its files, in order.
abbrev pub bytes_answer : Command → List (List ℕ) → Option (List ℕ) → Option ProofRead → List (List ℕ) → Answer
bytes_answer (commands.Unit file) words cache read files = unit_file_answer (word_at words file) (file_at files 0)
bytes_answer (commands.List file) words cache read files =
    list_answer (word_at words file) (file_at files 0) (FirstBroken (file_at files 0))
bytes_answer (commands.Il file method) words cache read files =
    il_answer (word_at words file) (word_at words method) (file_at files 0) (FirstBroken (file_at files 0))
bytes_answer (commands.Check check) words cache read files =
    after_line (cache_refusal (command_cache words (commands.Check check)) cache)
    (check_answer (is_some check.infer) (check_manner check cache) (words_at words (check_files check)) files)
bytes_answer (commands.Linked linked) words cache read files =
    after_line (cache_refusal (command_cache words (commands.Linked linked)) cache)
    (linked_answer (check_manner linked.check cache) (words_at words (linked_files linked)) files)
bytes_answer (commands.Verify file proof) words cache read files =
    verify_answer (word_at words file) (word_at words proof) read (file_at files 0) (FirstBroken (file_at files 0))
bytes_answer (commands.Run run) words cache read files =
    run_file_answer (word_at words run.file) (word_at words run.method) (args_told run words) run.steps (file_at files 0) (FirstBroken (file_at files 0))
bytes_answer (commands.Refute file method runs) words cache read files =
    refute_file_answer (word_at words file) (word_at words method) runs (file_at files 0) (FirstBroken (file_at files 0))
bytes_answer (commands.Gen seed count) words cache read files = gen_answer (generated_file seed count)

-- The answer where the first file that is missing has this name, or where none is.
abbrev pub missing_or : Option (List ℕ) → Answer → Answer
missing_or (Some name) answer = error_answer 3 (missing_line name)
missing_or None answer = answer

-- The answer to a command, by what the call meets.
abbrev pub files_answer : Command → List (List ℕ) → CallMet → Answer
files_answer command words met =
    missing_or (first_missing (words_at words (file_indexes command)) met.files)
    (bytes_answer command words met.cache met.proof (contents met.files))

abbrev pub command_answer : List (List ℕ) → CallMet → Option Command → Answer
command_answer words met None = error_answer 2 USAGE
command_answer words met (Some command) = files_answer command words met

-- The answer to the words, by what the call meets.
abbrev pub expected : List (List ℕ) → CallMet → Answer
expected words met = command_answer words met (command_of words)
