-- How many lines the texts of reports have.
use Rattle.std.proofs.Common.{◌≡◌, ℕ, ◌+◌, List, ◌++◌, subst, codes}
use Rattle.std.specs.List.{AllByRecursion}
use Rattle.cc_base.specs.Escapes.{escaped}
use Rattle.cil_model.specs.WellFormed.{IsCallee}
use Rattle.cil_model.specs.declared.unit.Unit.{Unit as MethodUnit}
use Rattle.invariant_checker.specs.declared.verdict.Verdict.{Verdict}
use Rattle.unit_builder.specs.declared.entry.Outcome.TheVariants.{Analysed}
use Rattle.unit_form.specs.AddedClauses.{added_clauses}
use Rattle.answer_lines.specs.LineCounts.{EndsLine, line_count}
use Rattle.answer_lines.proofs.LineLemmas.{line_of_text}
use Rattle.answer_lines.proofs.SingleLines.{obligation_is_line}
use Rattle.answer_lines.proofs.WholeLines.{lines_end}
use Rattle.assembly_reports.specs.CheckText.{assembly_line, method_line}
use Rattle.assembly_reports.specs.Labels.{ensures_told, labels_of}
use Rattle.assembly_reports.specs.ReportText.{obligation_text, verdict_line}
use Rattle.assembly_reports.specs.Sections.{lines_of}
use Rattle.assembly_reports.specs.declared.labels.Labels.{Labels}
use Rattle.assembly_reports.proofs.Reported.{inferred_are_lines, inferred_said, method_said}
use Rattle.assembly_reports.proofs.ReportTexts.{none_in_assembly, none_in_method, none_in_told}
use Rattle.assembly_reports.proofs.ShownLines.{shown_are_lines}
use Rattle.unit_verdicts.specs.Picks.{Manner, shown_text}

pub method_is_line : (token : ℕ) (name text : List ℕ) → line_count name ≡ 0 → line_count text ≡ 0 → line_count (method_line token name text) ≡ 1
unfolding method_said
method_is_line token name text none other = line_of_text (method_said token name text) (none_in_method token name text none other)

pub assembly_is_line : (name : List ℕ) → line_count (assembly_line name) ≡ 1
assembly_is_line name = line_of_text (codes "assembly " ++ escaped name) (none_in_assembly name)

pub verdict_is_line : (labels : Labels) (v : Verdict) → AllByRecursion IsCallee labels.callees → line_count (verdict_line labels v) ≡ 1
verdict_is_line labels v are =
    obligation_is_line v.obligation.at (obligation_text labels v.obligation) v.proved (none_in_told labels v.obligation are)

-- What is told of Ensures that were added is whole lines.
pub inferred_ends : (unit : MethodUnit) → EndsLine (labels_of unit).inferred
unfolding labels_of
inferred_ends unit =
    let first = ensures_told unit + 1 in
    subst EndsLine (inferred_are_lines first (added_clauses unit)) (lines_end (inferred_said first (added_clauses unit)))

-- What is shown of an invariant is whole lines.
pub shown_ends : (manner : Manner) (unit : MethodUnit) → EndsLine (shown_text manner unit)
shown_ends manner unit = subst EndsLine (shown_are_lines manner (Analysed unit)) (lines_end (lines_of (shown_text manner unit)))
