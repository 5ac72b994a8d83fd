-- The kinds of stacks of a method that calls itself: one pass brings them.
use Rattle.std.proofs.Common.{[], ◌∷◌, Some, refl}
use Rattle.cil_model.specs.Passes.{Stacks, KindsOf}
use Rattle.cil_model.specs.Shapes.{shape_of}
use Rattle.cil_model.specs.UnitCalls.{unit_call}
use Rattle.cil_model.specs.declared.place.Kind.TheVariants.{Int}
use Rattle.cil_model.proofs.SumUnit.{sum}

-- Of the contract block, and then of the body.
abbrev pub stacks : Stacks
stacks =
    Some [] ∷ Some (Int ∷ []) ∷ Some (Int ∷ Int ∷ []) ∷ Some (Int ∷ []) ∷ Some (Int ∷ Int ∷ []) ∷ Some (Int ∷ [])
    ∷ Some [] ∷ Some (Int ∷ []) ∷ Some [] ∷ Some (Int ∷ []) ∷ Some [] ∷ Some (Int ∷ []) ∷ Some (Int ∷ Int ∷ []) ∷ Some (Int ∷ Int ∷ Int ∷ [])
    ∷ Some (Int ∷ Int ∷ []) ∷ Some (Int ∷ Int ∷ []) ∷ Some (Int ∷ []) ∷ []

pub sum_has_kinds : KindsOf (shape_of sum) sum.instrs stacks
unfolding unit_call
sum_has_kinds = record { passes = 1; brought = refl; settled = refl }
