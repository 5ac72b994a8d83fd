-- Where the first line that was printed for a file tells a unit to be proved, the file is the spelling of a safe one.
use Rattle.std.proofs.Common.{◌≡◌, ◌⊎◌, ℕ, Bool, true, false, List, [], ◌∷◌, ◌++◌, get_or, length, Option, Some, None, nat_le, if◌then◌else◌, slice_get, codes, refl, sym, ap, subst, ◌∙◌, append_assoc, append-nil, inl, inr, arith}
use Rattle.std.specs.Prelude.{IfSome}
use Rattle.std.specs.List.{flat_map}
use Rattle.std.proofs.lemmas.List.{append_cancel_left, length-append}
use Rattle.cc_base.specs.Files.{Held, READ_LIMIT}
use Rattle.cc_base.specs.Sink.{AppendsPrefix, IsPrefix}
use Rattle.cc_base.proofs.SinkLemmas.{appended-nil}
use Rattle.cil_model.specs.WellFormed.{IsUnitName}
use Rattle.cil_model.specs.declared.unit.Unit.{Unit as MethodUnit}
use Rattle.answer_lines.specs.Answers.{Answer}
use Rattle.answer_lines.specs.Lines.{proved_text, summary_line, unit_line}
use Rattle.answer_lines.specs.Signatures.{unit_signature}
use Rattle.answer_lines.proofs.SingleLines.{none_in_unit, unit_said}
use Rattle.answer_lines.proofs.WholeLines.{IsOneLine, one_line, same_first}
use Rattle.command_words.specs.Words.{command_files, command_of, file_names, word_at}
use Rattle.command_words.specs.declared.command.Command.{Command}
use Rattle.command_words.specs.declared.command.Command.TheVariants as commands
use Rattle.method_unit.specs.UnitFile.{first_unit_fault, unit_of}
use Rattle.unit_form.specs.declared.unit_fault.UnitFault.{UnitFault}
use Rattle.invariant_checker.specs.Counts.{all_proved}
use Rattle.unit_verdicts.specs.Picks.{limit_pick}
use Rattle.unit_verdicts.proofs.UnitSafety.{proved_under_safe}
use Rattle.check_driver.specs.Expected.{expected, unit_answer, unit_file_answer}
use Rattle.check_driver.specs.CacheMet.{CallMet}
use Rattle.check_driver.specs.Met.{AreUnder}
use Rattle.check_driver.specs.ProvedUnit.{AreSpelled, AsksForUnit, IfUnit, IsHeldSpelled, PrintsProvedUnit, SpellSafeUnit}
use Rattle.assembly_reports.specs.Labels.{labels_of}
use Rattle.assembly_reports.specs.ReportText.{unit_counts, unit_report, unit_verdicts, verdict_line}
use Rattle.assembly_reports.specs.Sections.{lines_of}
use Rattle.check_driver.proofs.OnlyFile.{file_asked, same_appended}
use Rattle.assembly_reports.proofs.LinesOf.{first_line}
use Rattle.assembly_reports.proofs.PrintedMethods.{same_parts}

-- ---- the line of a unit

unit_one_line : (unit : MethodUnit) (proved : Bool) → IsUnitName unit.name → IsOneLine (unit_said unit proved)
unit_one_line unit proved name = one_line (unit_said unit proved) (none_in_unit unit proved name)

-- Texts with ends of one length are equal part by part.
same_ends : (a b x y : List ℕ) → length x ≡ length y → a ++ x ≡ b ++ y → (a ≡ b) × (x ≡ y)
same_ends a b x y long e = same_parts a b x y (omega (arith, long, sym (length-append a x) ∙ ap length e ∙ length-append b y)) e

-- A line that tells a unit to be proved tells its signature.
verdict_told : (signature mine : List ℕ) (proved : Bool) → codes "unit " ++ signature ++ codes ": proved" ≡ codes "unit " ++ mine ++ codes ": " ++ proved_text proved
    → (signature ≡ mine) × (proved ≡ true)
verdict_told signature mine true e =
    let aligned = e ∙ append_assoc (codes "unit " ++ mine) (codes ": ") (codes "proved") in
    let both = same_ends (codes "unit " ++ signature) (codes "unit " ++ mine) (codes ": proved") (codes ": proved") refl aligned in
    (append_cancel_left (codes "unit ") signature mine both.0, refl)
verdict_told signature mine false e =
    let both = same_ends (codes "unit " ++ signature) (codes "unit " ++ mine ++ codes ": ") (codes ": proved") (codes "unproved") refl e in
    let letters : 58 ≡ 117 = ap (λ (l : List ℕ). get_or l 0 0) both.1 in
    absurd (omega (arith, letters))

-- ---- the report

-- It begins with the unit's line.
report_begins : (unit : MethodUnit) → (more : List ℕ) × (unit_report unit ≡ unit_said unit (all_proved (unit_verdicts unit)) ++ 10 ∷ more)
unfolding unit_report
report_begins unit =
    let found = unit_verdicts unit in
    let lines = flat_map (verdict_line (labels_of unit)) found in
    let summary = summary_line (unit_counts found) in
    (lines ++ summary, append_assoc (unit_line unit (all_proved found)) lines summary ∙ append_assoc (unit_said unit (all_proved found)) (codes "\n") (lines ++ summary))

-- A prefix of it whose first line tells a unit to be proved tells this one to be so.
report_tells : (unit : MethodUnit) (text signature : List ℕ) → IsUnitName unit.name → slice_get (lines_of text) 0 ≡ Some (codes "unit " ++ signature ++ codes ": proved")
    → IsPrefix text (unit_report unit) → (signature ≡ unit_signature unit) × (all_proved (unit_verdicts unit) ≡ true)
report_tells unit text signature name first (rest, is) =
    let line = codes "unit " ++ signature ++ codes ": proved" in
    let proved = all_proved (unit_verdicts unit) in
    let begins = first_line text line first in
    let report = report_begins unit in
    let whole : unit_report unit ≡ line ++ 10 ∷ (begins.1.0 ++ rest) =
    is ∙ ap (λ (l : List ℕ). l ++ rest) begins.1.1 ∙ append_assoc line (10 ∷ begins.1.0) rest in
    verdict_told signature (unit_signature unit) proved
    (same_first line (unit_said unit proved) (begins.1.0 ++ rest) report.0 begins.0 (unit_one_line unit proved name) (sym whole ∙ report.1)).0

-- ---- the answer

-- A text with a line is no prefix of nothing.
nothing_has_lines : (text line : List ℕ) → slice_get (lines_of text) 0 ≡ Some line → IsPrefix text [] → ⊥
nothing_has_lines [] line first prefix = cc
nothing_has_lines (b ∷ text) line first (rest, is) = cc

prefix_of_answer : (large : Bool) (refused answer : Answer) (text line : List ℕ) → slice_get (lines_of text) 0 ≡ Some line → refused.out ≡ []
    → IsPrefix text (Answer.out (if large then refused else answer)) → IsPrefix text answer.out
prefix_of_answer true refused answer text line first none prefix = absurd (nothing_has_lines text line first (subst (IsPrefix text) none prefix))
prefix_of_answer false refused answer text line first none prefix = prefix

answer_report : (name bytes text line : List ℕ) (fault : Option UnitFault) → slice_get (lines_of text) 0 ≡ Some line
    → IsPrefix text (Answer.out (unit_answer name bytes fault)) → (fault ≡ None) × IsPrefix text (unit_report (unit_of bytes))
answer_report name bytes text line None first prefix = (refl, prefix)
answer_report name bytes text line (Some fault) first prefix = absurd (nothing_has_lines text line first prefix)

-- A text with a line that begins what is expected begins the report of the unit.
prefix_of_report : (words : List (List ℕ)) (held : Held) (bytes : List ℕ) (met : CallMet) (text line : List ℕ) → AsksForUnit words held bytes
    → AreUnder (Some held) (file_names words) met.files → slice_get (lines_of text) 0 ≡ Some line → IsPrefix text (Answer.out (expected words met))
    → (first_unit_fault bytes ≡ None) × IsPrefix text (unit_report (unit_of bytes))
prefix_of_report words held bytes met text line asks under first prefix =
    let name = word_at words asks.file in
    let here = subst (λ (command : Option Command). AreUnder (Some held) (command_files words command) met.files) asks.command under in
    let answer = file_asked words (commands.Unit asks.file) asks.file held bytes met refl asks.is_held asks.command here in
    let begins : IsPrefix text (Answer.out (unit_file_answer name bytes)) = subst (λ (a : Answer). IsPrefix text a.out) answer prefix in
    answer_report name bytes text line (first_unit_fault bytes) first
    (prefix_of_answer (nat_le READ_LIMIT (length bytes)) _ (unit_answer name bytes (first_unit_fault bytes)) text line first refl begins)

-- ---- the theorem

spelled_of : (told : Option Held) (words : List (List ℕ)) (held : Held) (bytes : List ℕ) → told ≡ Some held → AsksForUnit words held bytes
    → IfSome (command_of words) (λ command. IfUnit command (λ file. IsHeldSpelled told (word_at words file))) → AreSpelled bytes
spelled_of told words held bytes told_is asks known =
    let here = subst (λ (command : Option Command). IfSome command (λ c. IfUnit c (λ file. IsHeldSpelled told (word_at words file)))) asks.command known in
    here held bytes told_is asks.is_held

-- A file that was asked for is the spelling of a safe unit where the first line of what was printed tells that unit to
-- be proved.
pub proved_unit_is_safe : (told : Option Held) (words : List (List ℕ)) (held : Held) (bytes signature : List ℕ) (met : CallMet) (old new : Option (List ℕ))
    → told ≡ Some held → AsksForUnit words held bytes → AreUnder told (file_names words) met.files → AppendsPrefix old new (expected words met).out
    → (new ≡ old) ⊎ IfSome (command_of words) (λ command. IfUnit command (λ file. IsHeldSpelled told (word_at words file)))
    → PrintsProvedUnit old new signature → SpellSafeUnit bytes signature
proved_unit_is_safe told words held bytes signature met old new told_is asks under appends (inl same) prints =
    let nothing : [] ≡ prints.text = same_appended old new [] prints.appended.before prints.text (same ∙ sym (appended-nil old)) prints.appended.was prints.appended.is in
    absurd (nothing_has_lines prints.text _ prints.first ([], nothing ∙ sym (append-nil prints.text)))
proved_unit_is_safe told words held bytes signature met old new told_is asks under (prefix, is_prefix, adds) (inr known) prints =
    let unit = unit_of bytes in
    let spelled = spelled_of told words held bytes told_is asks known in
    let here = subst (λ (t : Option Held). AreUnder t (file_names words) met.files) told_is under in
    let same : prefix ≡ prints.text = same_appended old new prefix prints.appended.before prints.text adds prints.appended.was prints.appended.is in
    let begins = subst (λ (t : List ℕ). IsPrefix t (Answer.out (expected words met))) same is_prefix in
    let report = prefix_of_report words held bytes met prints.text _ asks here prints.first begins in
    let tells = report_tells unit prints.text signature spelled.is_unit.well_formed.name prints.first report.1 in
    record {
      unit = unit;
      is_unit = spelled.is_unit;
      spelled = spelled.spelled;
      named = tells.0;
      safe = proved_under_safe limit_pick unit spelled.is_unit tells.1;
    }
