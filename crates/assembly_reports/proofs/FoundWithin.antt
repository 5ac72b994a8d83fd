-- What is found of a method keeps the limits and can be told in whole lines.
use Rattle.std.proofs.Common.{◌≡◌, refl, sym, subst, inl, arith}
use Rattle.std.specs.List.{AllByRecursion}
use Rattle.cil_model.specs.WellFormed.{IsCallee}
use Rattle.cil_model.specs.declared.unit.Unit.{Unit as MethodUnit}
use Rattle.method_unit.specs.Units.{IsUnit}
use Rattle.unit_builder.specs.declared.reason.Reason.{Reason}
use Rattle.answer_lines.specs.LineCounts.{EndsLine}
use Rattle.assembly_reports.specs.Findings.{IsWithin}
use Rattle.assembly_reports.specs.Labels.{labels_of}
use Rattle.assembly_reports.specs.declared.finding.Finding.TheVariants as founds
use Rattle.assembly_reports.specs.declared.finding.FoundUnit.{FoundUnit}
use Rattle.assembly_reports.specs.declared.labels.Labels.{Labels}
use Rattle.assembly_reports.proofs.CountedTexts.{inferred_ends, shown_ends}
use Rattle.assembly_reports.proofs.ReportTexts.{bare_callees}
use Rattle.unit_verdicts.specs.Picks.{Manner}
use Rattle.unit_verdicts.specs.Verdicts.{AreVerdictsOf}

pub judged_within : (manner : Manner) (unit : MethodUnit) (found : FoundUnit) → IsUnit unit → found.labels ≡ labels_of unit → AreVerdictsOf manner unit found.found
    → IsWithin (founds.Judged found)
unfolding labels_of
judged_within manner unit found is same are = record {
  verdicts = are.within;
  callees = subst (λ (labels : Labels). AllByRecursion IsCallee labels.callees) (sym same) (bare_callees unit.callees is.well_formed.callees);
  inferred = subst (λ (labels : Labels). EndsLine labels.inferred) (sym same) (inferred_ends unit);
  shown = subst EndsLine (sym are.shown) (shown_ends manner unit);
}

pub skipped_within : (reason : Reason) → IsWithin (founds.Skipped reason)
skipped_within reason = record {
  verdicts = record { near = λ k v lt. absurd (omega (arith, lt)); few = omega arith };
  callees = tt;
  inferred = inl refl;
  shown = inl refl;
}

pub ruleset within = (judged_within, skipped_within)
