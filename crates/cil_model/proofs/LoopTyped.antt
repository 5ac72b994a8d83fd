-- A loop is never stuck, since its stacks have kinds: the null that comes first and the array that the way back
-- brings merge to an array, and an item of it is loaded.
use Rattle.std.proofs.Common.{pos, FitsSigned, [], ◌∷◌, Some, refl, w32, arith}
use Rattle.std.proofs.lemmas.Int.{ints}
use Rattle.cil_model.specs.Bodies.{HasBody}
use Rattle.cil_model.specs.FitKinds.{AreDecoded, NeverStuck}
use Rattle.cil_model.specs.Passes.{KindsOf, Stacks}
use Rattle.cil_model.specs.Shapes.{shape_of}
use Rattle.cil_model.specs.declared.instruction.Op.TheVariants as ops
use Rattle.cil_model.specs.declared.instruction.Test.TheVariants as tests
use Rattle.cil_model.specs.declared.place.Kind.TheVariants as kinds
use Rattle.cil_model.specs.declared.place.Place.TheVariants as places
use Rattle.cil_model.specs.declared.unit.Unit.{Unit as MethodUnit}
use Rattle.cil_model.proofs.SmallRuns.{small}
use Rattle.cil_model.proofs.TypedCode.{typed_code_steps}

-- void M(int[] a), which loads an item of what the stack holds, again and again: of null at first, and then of a.
abbrev loops : MethodUnit
loops =
    small places.Void (places.Ints ∷ []) []
    ((1, ops.Null) ∷ (1, ops.Const (pos 0)) ∷ (1, ops.LoadElem places.Ints) ∷ (1, ops.Pop) ∷ (1, ops.LoadArg 0) ∷ (2, ops.Branch tests.Always 1) ∷ [])

abbrev stacks : Stacks
stacks = Some [] ∷ Some (kinds.Ints ∷ []) ∷ Some (kinds.Int ∷ kinds.Ints ∷ []) ∷ Some (kinds.Int ∷ []) ∷ Some [] ∷ Some (kinds.Ints ∷ []) ∷ []

loops_has_kinds : KindsOf (shape_of loops) loops.instrs stacks
loops_has_kinds = record { passes = 2; brought = refl; settled = refl }

zero_fits : FitsSigned w32 (pos 0)
zero_fits = omega (arith, ints)

decoded : AreDecoded loops.instrs
decoded = record { constants = (tt, (zero_fits, (tt, (tt, (tt, (tt, tt)))))); targets = (tt, (tt, (tt, (tt, (tt, ((refl, tt), tt)))))) }

body : HasBody loops.instrs stacks 0
body = record {
  empty = refl;
  executed = (λ h. refl, (λ h. refl, (λ h. refl, (λ h. refl, (λ h. refl, (λ h. refl, tt))))));
  inside = (λ h. tt, (λ h. tt, (λ h. tt, (λ h. tt, (λ h. tt, (λ h. (omega arith, tt), tt))))));
}

pub loops_is_never_stuck : NeverStuck loops
loops_is_never_stuck =
    (typed_code_steps (shape_of loops) loops.instrs stacks decoded loops_has_kinds).runs loops (record { shape_is = refl; instrs_are = refl }) tt body
