-- What is found of methods, as the code has it.
use Rattle.std.specs.Prelude.{ℕ, List, [], ◌++◌}
use Rattle.std.specs.List.{AllByRecursion}
use Rattle.cil_model.specs.WellFormed.{IsCallee}
use Rattle.invariant_checker.specs.declared.verdict.Verdict.{Verdict}
use Rattle.asm_image.specs.declared.method_row.MethodRow.{MethodRow}
use Rattle.answer_lines.specs.LineCounts.{EndsLine}
use Rattle.assembly_reports.specs.CheckText.{Finding, WithVerdicts, NotAnalysed, finding_lines}
use Rattle.assembly_answers.specs.ReasonText.{reason_text}
use Rattle.assembly_reports.specs.declared.finding.Finding.{Finding as Found}
use Rattle.assembly_reports.specs.declared.finding.Finding.TheVariants as founds
use Rattle.assembly_reports.specs.declared.labels.Labels.{Labels}
use Rattle.unit_verdicts.specs.Verdicts.{AreWithin}

-- The finding that the code has.
abbrev pub finding_in : Found → Finding
finding_in (founds.Judged unit) = WithVerdicts unit.labels unit.found.verdicts.items
finding_in (founds.Skipped reason) = NotAnalysed (reason_text reason)

-- The verdicts. Of a method that is not analysed there are none.
abbrev pub verdicts_in : Finding → List Verdict
verdicts_in (WithVerdicts labels found) = found
verdicts_in (NotAnalysed reason) = []

-- What is told of its unit. Of a method that is not analysed nothing is.
abbrev pub no_labels : Labels
no_labels = record { callees = []; told = 0; inferred = [] }

abbrev pub labels_in : Finding → Labels
labels_in (WithVerdicts labels found) = labels
labels_in (NotAnalysed reason) = no_labels

-- What is shown of its unit's invariant.
abbrev pub shown_in : Found → List ℕ
shown_in (founds.Judged unit) = unit.found.shown.items
shown_in (founds.Skipped reason) = []

-- What is found keeps the limits, and can be told in whole lines.
pub record IsWithin (found : Found) : Type 0 where
  pub verdicts : AreWithin (verdicts_in (finding_in found))
  pub callees : AllByRecursion IsCallee (labels_in (finding_in found)).callees
  pub inferred : EndsLine (labels_in (finding_in found)).inferred
  pub shown : EndsLine (shown_in found)

-- The lines of a method of which this is found.
abbrev pub found_lines : MethodRow × Found → List ℕ
found_lines (method, found) = finding_lines method.token.0 method.name (finding_in found) ++ shown_in found
