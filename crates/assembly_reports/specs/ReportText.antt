-- The lines of a unit's report.
use Rattle.std.specs.Prelude.{ℕ, List, ◌++◌, length, Option, if◌then◌else◌, slice_get}
use Rattle.std.specs.List.{flat_map}
use Rattle.std.specs.Option.{option_and_then}
use Rattle.answer_lines.specs.FaultKinds.{kind_text}
use Rattle.answer_lines.specs.Lines.{obligation_line, summary_line, unit_line}
use Rattle.answer_lines.specs.declared.lines.Counts.{Counts}
use Rattle.assembly_reports.specs.Labels.{added_mark, labels_of}
use Rattle.assembly_reports.specs.declared.labels.Labels.{Labels}
use Rattle.cil_model.specs.declared.machine.Obligation.{Obligation}
use Rattle.cil_model.specs.declared.unit.CalleeInfo.{CalleeInfo}
use Rattle.cil_model.specs.declared.unit.Unit.{Unit as MethodUnit}
use Rattle.invariant_checker.specs.Counts.{all_proved, proved_count}
use Rattle.invariant_checker.specs.declared.verdict.Verdict.{Verdict}
use Rattle.unit_verdicts.specs.Picks.{limit_pick, verdicts_under}

-- The one of these callees that a number names.
abbrev pub callee_of : List CalleeInfo → Option ℕ → Option CalleeInfo
callee_of callees number = option_and_then (slice_get callees) number

-- The words of an obligation, by the labels of its unit.
abbrev pub obligation_text : Labels → Obligation → List ℕ
obligation_text labels o = kind_text (callee_of labels.callees o.callee) o.kind ++ added_mark labels.told o.kind

-- The line of an obligation.
abbrev pub verdict_line : Labels → Verdict → List ℕ
verdict_line labels v = obligation_line v.obligation.at (obligation_text labels v.obligation) v.proved

abbrev pub unit_counts : List Verdict → Counts
unit_counts found = record {
  methods = 1;
  proved = if all_proved found then 1 else 0;
  unproved = if all_proved found then 0 else 1;
  skipped = 0;
  obligations = length found;
  proved_obligations = proved_count found;
}

-- The verdicts on the obligations of a unit under what a finder answers.
abbrev pub unit_verdicts : MethodUnit → List Verdict
unit_verdicts unit = verdicts_under limit_pick unit

-- The report of a unit: its verdict, those of its obligations, and the summary.
unfoldable pub unit_report : MethodUnit → List ℕ
unit_report unit =
    unit_line unit (all_proved (unit_verdicts unit)) ++ flat_map (verdict_line (labels_of unit)) (unit_verdicts unit) ++ summary_line (unit_counts (unit_verdicts unit))
