-- Verdicts on a small code: 7 divided by 2.
use Rattle.std.proofs.Common.{◌≡◌, pos, true, false, [], ◌∷◌, Some, None, refl}
use Rattle.abs_state.specs.FormTests.{has_numbers, has_references}
use Rattle.cil_model.specs.declared.instruction.BinOp.TheVariants as operators
use Rattle.cil_model.specs.declared.instruction.Op.TheVariants as ops
use Rattle.cil_model.specs.declared.machine.FaultKind.TheVariants as faults
use Rattle.cil_model.specs.declared.machine.Obligation.{Obligation}
use Rattle.cil_model.specs.declared.place.Place.TheVariants as places
use Rattle.cil_model.specs.declared.unit.Unit.{Unit as MethodUnit}
use Rattle.cil_model.proofs.Laid.{method}
use Rattle.number_facts.specs.Assume.{assumed as numbers_assumed, assumed_apart, assumed_at_most, assumed_equal, changed, cut_both, holding, lost, lowered, ordered, raised}
use Rattle.number_facts.specs.Ends.{met, range_of, span_at}
use Rattle.number_facts.specs.Facts.{range_at}
use Rattle.number_facts.specs.Fresh.{bounded}
use Rattle.number_facts.specs.Gaps.{at_most, equal, gap}
use Rattle.number_spans.specs.Spans.{excludes, moved, shifted}
use Rattle.obligation_prover.specs.Operations.{operation_of}
use Rattle.pentagon_domain.specs.Gaps.{gap_with}
use Rattle.state_facts.specs.Assuming.{assumed, following, symbol_told, with_steps, with_test}
use Rattle.state_facts.specs.Moves.{popped}
use Rattle.state_obligations.specs.Assumed.{assumed_by, no_division_overflow}
use Rattle.state_obligations.specs.Entailed.{entailed_by}
use Rattle.transfer_rules.specs.Acts.{acted, operated}
use Rattle.transfer_rules.specs.Entry.{entry, no_variables}
use Rattle.transfer_rules.specs.Post.{post}
use Rattle.unit_flow.specs.FlowOf.{flow_of, kinds_of}
use Rattle.invariant_checker.specs.Inducts.{is_inductive}
use Rattle.invariant_checker.specs.Verdicts.{verdicts}

abbrev unit : MethodUnit
unit = method [] places.Void [] [] [] 0 []
    ((1, ops.Const (pos 7)) ∷ (1, ops.Const (pos 2)) ∷ (1, ops.Bin operators.Div) ∷ (1, ops.Pop) ∷ (1, ops.Return) ∷ [])

abbrev zero_divisor : Obligation
zero_divisor = record { at = 2; kind = faults.DivZero; callee = None }

abbrev too_large : Obligation
too_large = record { at = 2; kind = faults.DivOverflow; callee = None }

-- What is known at the entry proves both obligations.
both_proved : verdicts (flow_of unit) (Some no_variables ∷ [])
    ≡ record { obligation = zero_divisor; proved = true } ∷ record { obligation = too_large; proved = true } ∷ []
unfolding verdicts is_inductive has_numbers has_references entry kinds_of post acted operated operation_of entailed_by
    assumed_by no_division_overflow assumed following symbol_told bounded with_steps with_test numbers_assumed
    assumed_apart assumed_at_most assumed_equal changed cut_both holding lost lowered ordered raised met span_at at_most
    equal gap gap_with popped range_at range_of excludes moved shifted
both_proved = refl

-- That nothing is reached proves none, since the entry is.
none_proved : verdicts (flow_of unit) (None ∷ [])
    ≡ record { obligation = zero_divisor; proved = false } ∷ record { obligation = too_large; proved = false } ∷ []
unfolding verdicts is_inductive entry kinds_of
none_proved = refl
