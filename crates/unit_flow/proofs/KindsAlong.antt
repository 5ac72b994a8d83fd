-- What typing and the machine know along an instruction: the kinds where it goes on take in those that it leaves, and a
-- point that goes on by it has values of the machine.
use Rattle.std.proofs.Common.{◌≡◌, ℕ, suc, ◌+◌, List, [], ◌∷◌, length, slice_get, Option, Some, None, refl, sym, ap, subst, ◌∙◌}
use Rattle.std.proofs.lemmas.Option.{none-some, same_Some}
use Rattle.cil_model.specs.FitKinds.{AreDecoded, OperandFits}
use Rattle.cil_model.specs.Kinds as kinds
use Rattle.cil_model.specs.Passes.{KindsOf, Stacks, merged, merged_kind, stack_at, successors, with_kind}
use Rattle.cil_model.specs.Runs.{instr_at}
use Rattle.cil_model.specs.Shapes.{shape_of}
use Rattle.cil_model.specs.declared.instruction.Instr.{Instr}
use Rattle.cil_model.specs.declared.place.Kind.{Kind}
use Rattle.cil_model.specs.declared.unit.Unit.{Unit as MethodUnit}
use Rattle.cil_model.proofs.KindsSettle.{Absorbs, Settled, settled}
use Rattle.cil_model.proofs.Lists.{of_found}
use Rattle.cil_model.proofs.StepsKeep.{MakesValues}
use Rattle.flow_graph.proofs.Items.{of_place}
use Rattle.machine_points.specs.MachineValues.{HasMachineValues}
use Rattle.machine_points.specs.Points.{IsPointOf}
use Rattle.machine_points.specs.declared.point.Point.{Point}
use Rattle.machine_points.proofs.PointsKeep.{entry_point, point_values, step_point}
use Rattle.unit_flow.specs.Chains.{IsLeft, IsPassed}
use Rattle.unit_flow.specs.Flow.{Begins, IsLawful, Steps}
use Rattle.unit_flow.specs.declared.unit_flow.UnitFlow.{UnitFlow}
use Rattle.unit_flow.proofs.LawfulCode as laws

-- ---- stacks that merge

one_longer : (kind : Option Kind) (rest : Option (List Kind)) (b c : List Kind)
    → ((others : List Kind) → rest ≡ Some others → length others ≡ length b)
    → with_kind kind rest ≡ Some c → length c ≡ suc (length b)
one_longer None rest b c long is = absurd (none-some c is)
one_longer (Some kind) None b c long is = absurd (none-some c is)
one_longer (Some kind) (Some others) b c long is =
    ap length (sym (same_Some (kind ∷ others) c is)) ∙ ap suc (long others refl)

-- Stacks that merge are as long.
pub merged_long : (a b c : List Kind) → merged a b ≡ Some c → length c ≡ length b
merged_long [] [] c is = ap length (sym (same_Some [] c is))
merged_long [] (y ∷ b) c is = absurd (none-some c is)
merged_long (x ∷ a) [] c is = absurd (none-some c is)
merged_long (x ∷ a) (y ∷ b) c is =
    one_longer (merged_kind x y) (merged a b) b c (λ others same. merged_long a b others same) is

-- ---- kinds

-- The operands of an instruction are typed on this stack, and what it leaves is absorbed at the target.
pub record TypedAlong (unit : MethodUnit) (stacks : Stacks) (i : Instr) (stack : List Kind) (target : ℕ) : Type 0 where
  pub after : List Kind
  pub typed : kinds.behind (shape_of unit) i.op stack ≡ Some after
  pub absorbed : Absorbs (stack_at unit.instrs stacks target) after

module _ (unit : MethodUnit) (stacks : Stacks) (decoded : AreDecoded unit.instrs)
    (typing : KindsOf (shape_of unit) unit.instrs stacks) where
  abbrev before : ℕ → Option (List Kind)
  before at = stack_at unit.instrs stacks at

  pub typed_at : (i : Instr) (at : ℕ) (stack : List Kind) → i.at ≡ at → instr_at unit.instrs i.at ≡ Some i
      → before at ≡ Some stack → Settled (shape_of unit) unit.instrs stacks i stack
  typed_at i at stack here found is =
      settled (shape_of unit) unit.instrs stacks i.at i stack decoded typing found (ap before here ∙ is)

  pub operand : (i : Instr) → instr_at unit.instrs i.at ≡ Some i → OperandFits i.op
  operand i found = of_found (λ j. OperandFits j.op) unit.instrs i.at i decoded.constants found

  along : (i : Instr) (at number target : ℕ) (stack : List Kind) → i.at ≡ at → instr_at unit.instrs i.at ≡ Some i
      → slice_get (successors i.op (i.at + i.size)) number ≡ Some target → before at ≡ Some stack
      → TypedAlong unit stacks i stack target
  along i at number target stack here found goes is =
      let typed = typed_at i at stack here found is in
      record {
        after = typed.after;
        typed = typed.typed;
        absorbed =
            of_place (λ x. Absorbs (before x) typed.after)
            (successors i.op (i.at + i.size)) number target typed.onward goes;
      }

  pub left_along : (i : Instr) (at number target : ℕ) (stack : List Kind) → IsLeft unit at number target i
      → before at ≡ Some stack → TypedAlong unit stacks i stack target
  left_along i at number target stack left is = along i at number target stack left.here left.found left.goes is

  pub passed_along : (i : Instr) (at : ℕ) (stack : List Kind) → IsPassed unit at i → before at ≡ Some stack
      → TypedAlong unit stacks i stack (i.at + i.size)
  passed_along i at stack passed is =
      along i at 0 (i.at + i.size) stack passed.here passed.found (rw passed.next refl) is

-- ---- values

module _ (code : UnitFlow) (lawful : IsLawful code) where
  pub makes : MakesValues code.unit
  makes = record { locals = lawful.formed.locals; constants = (laws.decoded code lawful).constants }

  -- Where a point of the unit goes on, one of the unit is.
  pub step_stays : (i : Instr) (p q : Point) → Steps code.unit i p q → IsPointOf code.unit q
  step_stays i p q step = step_point code.unit p q makes step.of step.goes

  pub step_values : (i : Instr) (p q : Point) → Steps code.unit i p q → HasMachineValues q
  step_values i p q step = point_values code.unit q (step_stays i p q step)

  pub begins_there : (p : Point) → Begins code.unit p → IsPointOf code.unit p
  begins_there p begins =
      subst (IsPointOf code.unit) (sym begins.is)
      (entry_point code.unit begins.index begins.args begins.heap lawful.formed.locals begins.may)

  pub begins_values : (p : Point) → Begins code.unit p → HasMachineValues p
  begins_values p begins = point_values code.unit p (begins_there p begins)
