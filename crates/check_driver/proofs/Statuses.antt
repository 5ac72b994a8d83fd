-- No answer has a status that tells an interruption, and only words that are no command are answered by the usage.
use Rattle.std.proofs.Common.{◌≡◌, ◌≢◌, ◌⊎◌, ℕ, ◌<◌, max, Bool, true, false, List, [], ◌∷◌, Option, Some, None, Result, Ok, Err, if◌then◌else◌, nat_le, length, is_some, zip, refl, sym, subst, ◌∙◌, inl, inr, arith}
use Rattle.std.specs.Prelude.{IfOk}
use Rattle.std.proofs.lemmas.Bool.{cases_lt}
use Rattle.asm_image.specs.Faults.{FirstBroken}
use Rattle.asm_image.specs.declared.fault.AsmFault.{AsmFault}
use Rattle.cc_base.specs.Files.{READ_LIMIT}
use Rattle.command_words.specs.Words.{args_told, check_files, command_of, file_indexes, linked_files, word_at, words_at}
use Rattle.command_words.specs.declared.command.Command.{Command}
use Rattle.command_words.specs.declared.command.Command.TheVariants as commands
use Rattle.method_unit.specs.UnitFile.{first_unit_fault, unit_of}
use Rattle.unit_form.specs.declared.unit_fault.UnitFault.{UnitFault}
use Rattle.written_assemblies.specs.GeneratedFiles.{generated_file}
use Rattle.invariant_checker.specs.Counts.{all_proved}
use Rattle.answer_lines.specs.Answers.{Answer, output_answer}
use Rattle.answer_lines.specs.Outcome.{GivesOrFails, status_of}
use Rattle.answer_lines.specs.Writing.{Change}
use Rattle.answer_lines.specs.declared.interrupt.Interrupt.{Interrupt}
use Rattle.answer_lines.specs.declared.interrupt.Interrupt.TheVariants as interrupts
use Rattle.answer_lines.proofs.Leaving.{IsUninterrupted}
use Rattle.assembly_answers.proofs.Statuses.{IsOfBytes, of_few, of_il, of_list, of_refused, of_refute_file, of_run_file, plain_below}
use Rattle.assembly_reports.specs.ReportText.{unit_verdicts}
use Rattle.assembly_reports.specs.CheckText.{all_methods_proved}
use Rattle.check_driver.specs.FilesLeft.{GivesOrUnreplaced}
use Rattle.check_driver.specs.CacheMet.{CallMet}
use Rattle.check_driver.specs.Expected.{bytes_answer, check_answer, check_manner, checked_before, command_answer, expected, file_at, missing_or, unit_answer, unit_file_answer, verify_answer}
use Rattle.check_driver.specs.LinkedReports.{RefusedFile, are_all_proved, file_reports, first_refused, linked_answer, refused_or}
use Rattle.check_driver.specs.Met.{contents, first_missing}
use Rattle.unit_builder.specs.Linked.{linked_entries}
use Rattle.check_driver.proofs.CallLeft.{AnswersPlainly}
use Rattle.proof_files.specs.Reading.{ProofRead, Refused, Whole}
use Rattle.unit_verdicts.specs.Picks.{Manner, limit_pick, pick_from}
use Rattle.unit_verdicts.specs.declared.source.Source.TheVariants.{Proof as OfProof}

pub of_report : (proved : Bool) → IsOfBytes (if proved then 0 else 1)
of_report true = of_few 0 (omega arith)
of_report false = of_few 1 (omega arith)

of_unit : (name bytes : List ℕ) (fault : Option UnitFault) → IsOfBytes (unit_answer name bytes fault).status
of_unit name bytes None = of_report (all_proved (unit_verdicts (unit_of bytes)))
of_unit name bytes (Some fault) = of_refused

of_either : (large : Bool) (refused answer : Answer) → IsOfBytes refused.status → IsOfBytes answer.status
    → IsOfBytes (Answer.status (if large then refused else answer))
of_either true refused answer r a = r
of_either false refused answer r a = a

pub of_unit_file : (name bytes : List ℕ) → IsOfBytes (unit_file_answer name bytes).status
of_unit_file name bytes =
    of_either (nat_le READ_LIMIT (length bytes)) _ (unit_answer name bytes (first_unit_fault bytes)) of_refused (of_unit name bytes (first_unit_fault bytes))

-- The greater of two is one of them.
of_greater : (a b : ℕ) → IsOfBytes a → IsOfBytes b → IsOfBytes (max a b)
of_greater a b one other =
    elim (cases_lt a b) [
      | inl less ↦ let is : b ≡ max a b = omega (arith, less) in subst IsOfBytes is other
      | inr not_less ↦ let is : a ≡ max a b = omega (arith, not_less) in subst IsOfBytes is one
    ]

of_checked : (infer : Bool) (name : List ℕ) (manner : Manner) (bytes : List ℕ) (fault : Option AsmFault) (others : Answer) → IsOfBytes others.status
    → IsOfBytes (checked_before infer name manner bytes fault others).status
of_checked infer name manner bytes None others of = of_greater (if all_methods_proved infer manner.pick bytes then 0 else 1) others.status (of_report (all_methods_proved infer manner.pick bytes)) of
of_checked infer name manner bytes (Some fault) others of = of_refused

pub of_check : (infer : Bool) (manner : Manner) (names files : List (List ℕ)) → IsOfBytes (check_answer infer manner names files).status
of_check infer manner [] files = of_few 0 (omega arith)
of_check infer manner (name ∷ names) [] = of_few 0 (omega arith)
of_check infer manner (name ∷ names) (bytes ∷ files) =
    of_checked infer name manner bytes (FirstBroken bytes) (check_answer infer manner names files) (of_check infer manner names files)

of_unrefused : (names : List (List ℕ)) (refused : Option RefusedFile) (answer : Answer) → IsOfBytes answer.status → IsOfBytes (refused_or names refused answer).status
of_unrefused names (Some refused) answer of = of_refused
of_unrefused names None answer of = of

pub of_linked : (manner : Manner) (names files : List (List ℕ)) → IsOfBytes (linked_answer manner names files).status
unfolding linked_answer
of_linked manner names files =
    let reported = zip names (linked_entries files) in
    let proved = are_all_proved manner.pick reported in
    of_unrefused names (first_refused files) (output_answer (if proved then 0 else 1) (file_reports manner reported)) (of_report proved)

-- A status of an answer to what was read, or that of memory that ran out before a proof file was read.
abbrev IsOfRead : ℕ → Type 0
IsOfRead status = IsOfBytes status ⊎ (status ≡ 7)

of_verify : (name by bytes : List ℕ) (read : Option ProofRead) (fault : Option AsmFault) → IsOfRead (verify_answer name by read bytes fault).status
of_verify name by bytes read (Some fault) = inl of_refused
of_verify name by bytes (Some (Whole entries)) None = inl (of_report (all_methods_proved false (pick_from (OfProof entries)) bytes))
of_verify name by bytes (Some (Refused fault)) None = inl of_refused
of_verify name by bytes None None = inr refl

of_bytes : (command : Command) (words : List (List ℕ)) (cache : Option (List ℕ)) (read : Option ProofRead) (files : List (List ℕ)) → IsOfRead (bytes_answer command words cache read files).status
of_bytes (commands.Unit file) words cache read files = inl (of_unit_file (word_at words file) (file_at files 0))
of_bytes (commands.List file) words cache read files = inl (of_list (word_at words file) (file_at files 0) (FirstBroken (file_at files 0)))
of_bytes (commands.Il file method) words cache read files = inl (of_il (word_at words file) (word_at words method) (file_at files 0) (FirstBroken (file_at files 0)))
of_bytes (commands.Check check) words cache read files = inl (of_check (is_some check.infer) (check_manner check cache) (words_at words (check_files check)) files)
of_bytes (commands.Linked linked) words cache read files = inl (of_linked (check_manner linked.check cache) (words_at words (linked_files linked)) files)
of_bytes (commands.Verify file proof) words cache read files = of_verify (word_at words file) (word_at words proof) (file_at files 0) read (FirstBroken (file_at files 0))
of_bytes (commands.Run run) words cache read files =
    inl (of_run_file (word_at words run.file) (word_at words run.method) (args_told run words) run.steps (file_at files 0) (FirstBroken (file_at files 0)))
of_bytes (commands.Refute file method runs) words cache read files =
    inl (of_refute_file (word_at words file) (word_at words method) runs (file_at files 0) (FirstBroken (file_at files 0)))
of_bytes (commands.Gen seed count) words cache read files = inl (of_report (all_methods_proved false limit_pick (generated_file seed count)))

-- The status tells no interruption, or that memory ran out.
abbrev IsKnown : ℕ → Type 0
IsKnown status = IsUninterrupted status ⊎ (status ≡ 7)

known_of : (status : ℕ) → IsOfRead status → IsKnown status
known_of status (inl of) = inl of.plain
known_of status (inr seven) = inr seven

known_missing : (missing : Option (List ℕ)) (answer : Answer) → IsKnown answer.status → IsKnown (missing_or missing answer).status
known_missing None answer known = known
known_missing (Some name) answer known = inl (plain_below 3 (omega arith))

known_command : (words : List (List ℕ)) (met : CallMet) (command : Option Command) → IsKnown (command_answer words met command).status
known_command words met None = inl (plain_below 2 (omega arith))
known_command words met (Some command) =
    let answer = bytes_answer command words met.cache met.proof (contents met.files) in
    known_missing (first_missing (words_at words (file_indexes command)) met.files) answer
    (known_of answer.status (of_bytes command words met.cache met.proof (contents met.files)))

-- An answer that came does not tell that memory ran out, so its status tells no interruption.
plain_known : (status is : ℕ) → IsKnown is → status ≢ 7 → status ≡ is → IsUninterrupted status
plain_known status is (inl plain) memory same = subst IsUninterrupted (sym same) plain
plain_known status is (inr seven) memory same = absurd (memory (same ∙ seven))

pub plain_expected : (words : List (List ℕ)) (met : CallMet) (r : Result ℕ Interrupt) → IfOk r (λ status. status ≢ 7) → AnswersPlainly r (expected words met)
plain_expected words met (Ok status) memory = plain_known status (expected words met).status (known_command words met (command_of words)) memory
plain_expected words met (Err i) memory = tt

-- ---- what a status tells

-- An answer to bytes never tells a file to be missing.
missing_of : (status is : ℕ) (P : Type 0) → IsOfRead is → status ≡ is → status ≡ 3 → P
missing_of status is P (inl of) same three = absurd (of.missing (sym same ∙ three))
missing_of status is P (inr seven) same three = absurd (omega (arith, same, seven, three))

pub never_missing : (command : Command) (words : List (List ℕ)) (cache : Option (List ℕ)) (read : Option ProofRead) (files : List (List ℕ)) (r : Result ℕ Interrupt) (unreplaced P : Type 0) (out err : Change)
    → GivesOrUnreplaced (bytes_answer command words cache read files) unreplaced r out err → IfOk r (λ status. status ≡ 3 → P)
never_missing command words cache read files (Ok status) unreplaced P out err (inl (inl g)) =
    missing_of status (bytes_answer command words cache read files).status P (of_bytes command words cache read files) g.status
never_missing command words cache read files (Ok status) unreplaced P out err (inl (inr (never, others))) = absurd never
never_missing command words cache read files (Ok status) unreplaced P out err (inr (failed, g)) = absurd (let e = g.interrupted in cc)
never_missing command words cache read files (Err e) unreplaced P out err gives = tt

-- Nor that memory ran out, but for one that came to no proof file.
memory_of : (status is : ℕ) → IsOfBytes is → status ≡ is → status ≢ 7
memory_of status is of same = λ seven. of.plain.memory (sym same ∙ seven)

pub never_memory : (answer : Answer) (unreplaced : Type 0) (r : Result ℕ Interrupt) (out err : Change) → IsOfBytes answer.status → GivesOrUnreplaced answer unreplaced r out err
    → IfOk r (λ status. status ≢ 7)
never_memory answer unreplaced (Ok status) out err of (inl (inl g)) = memory_of status answer.status of g.status
never_memory answer unreplaced (Ok status) out err of (inl (inr (never, others))) = absurd never
never_memory answer unreplaced (Ok status) out err of (inr (failed, g)) = absurd (let e = g.interrupted in cc)
never_memory answer unreplaced (Err i) out err of gives = tt

usage_of : (is : ℕ) → IsOfRead is → is ≢ 2
usage_of is (inl of) = of.usage
usage_of is (inr seven) = λ two. omega (arith, seven, two)

missing_usage : (missing : Option (List ℕ)) (answer : Answer) → IsOfRead answer.status → (missing_or missing answer).status ≢ 2
missing_usage None answer of = usage_of answer.status of
missing_usage (Some name) answer of = λ e. omega (arith, e)

-- Only words that are no command are answered by the usage.
command_usage : (words : List (List ℕ)) (met : CallMet) (command : Option Command) → (command_answer words met command).status ≡ 2 → command ≡ None
command_usage words met None e = refl
command_usage words met (Some command) e =
    absurd (missing_usage (first_missing (words_at words (file_indexes command)) met.files) (bytes_answer command words met.cache met.proof (contents met.files))
    (of_bytes command words met.cache met.proof (contents met.files)) e)

pub expected_usage : (words : List (List ℕ)) (met : CallMet) → (expected words met).status ≡ 2 → command_of words ≡ None
expected_usage words met e = command_usage words met (command_of words) e

pub usage_only : (words : List (List ℕ)) (met : CallMet) (names : List (List ℕ)) (failed unreplaced : Type 0) (r : Result ℕ Interrupt) (out err : Change)
    → GivesOrFails (expected words met) names failed unreplaced r out err → status_of r ≡ 2 → command_of words ≡ None
usage_only words met names failed unreplaced (Ok status) out err (inl (inl g)) e = expected_usage words met (sym g.status ∙ e)
usage_only words met names failed unreplaced (Ok status) out err (inl (inr (f, (k, name, lt, at, g)))) e = absurd (omega (arith, g.status, e))
usage_only words met names failed unreplaced (Ok status) out err (inr (f, g)) e = absurd (let never = g.interrupted in cc)
usage_only words met names failed unreplaced (Err interrupts.CannotWrite) out err g e = absurd (omega (arith, e))
usage_only words met names failed unreplaced (Err interrupts.NoMemory) out err g e = absurd (omega (arith, e))

-- A status that is known to be less than another is not that one.
pub status_below : (is other : ℕ) (r : Result ℕ Interrupt) → is < other → IfOk r (λ status. status ≡ is) → IfOk r (λ status. status ≢ other)
status_below is other (Ok status) less same = λ e. omega (arith, less, same, e)
status_below is other (Err i) less same = tt
