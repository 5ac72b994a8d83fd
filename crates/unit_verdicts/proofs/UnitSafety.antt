-- The flow of a unit is lawful, and the unit is safe where each verdict on it is that of a proved obligation.
use Rattle.std.proofs.Common.{◌≡◌, ◌*◌, ◌<◌, ◌≤◌, true, List, length, refl, subst, arith}
use Rattle.std.specs.Prelude.{All}
use Rattle.cil_model.specs.Limits.{MAX_CLAUSES}
use Rattle.cil_model.specs.Passes.{KindsOf}
use Rattle.cil_model.specs.Shapes.{shape_of}
use Rattle.cil_model.specs.declared.unit.Unit.{Unit as MethodUnit}
use Rattle.invariant_checker.specs.Counts.{all_proved}
use Rattle.invariant_checker.specs.Safety.{IsSafe}
use Rattle.invariant_checker.specs.declared.verdict.Verdict.{Verdict}
use Rattle.invariant_checker.proofs.Soundness.{proved_is_safe}
use Rattle.method_unit.specs.Units.{IsUnit}
use Rattle.unit_flow.specs.Flow.{IsLawful}
use Rattle.unit_flow.specs.FlowOf.{flow_of}
use Rattle.unit_flow.proofs.KindsFound.{found_kinds}
use Rattle.unit_verdicts.specs.Picks.{Pick, verdicts_under}
use Rattle.unit_verdicts.specs.Verdicts.{AreWithin}

-- ---- its flow

pub lawful_flow : (unit : MethodUnit) → IsUnit unit → IsLawful (flow_of unit)
lawful_flow unit is =
    let well = is.well_formed in
    let typed = subst (KindsOf (shape_of unit) unit.instrs) (found_kinds unit well.runs.stacks well.runs.kinds) well.runs.kinds in
    record { formed = well; graph = refl; kinds = typed }

-- Under whatever pick.
pub proved_under_safe : (pick : Pick) (unit : MethodUnit) → IsUnit unit → all_proved (verdicts_under pick unit) ≡ true
    → IsSafe unit
unfolding verdicts_under
proved_under_safe pick unit is proved = proved_is_safe (flow_of unit) (pick unit) (lawful_flow unit is) proved

-- ---- its verdicts

-- They keep the limits, as the unit does.
pub within_limits : (found : List Verdict) (unit : MethodUnit) → IsUnit unit
    → length found ≤ MAX_CLAUSES * length unit.instrs
    → All (λ verdict. verdict.obligation.at < length unit.code) found → AreWithin found
within_limits found unit is few inside = record {
  near = λ k v lt. omega (arith, inside k v lt, is.well_formed.limits.code);
  few = omega (arith, few, is.well_formed.limits.instructions);
}
