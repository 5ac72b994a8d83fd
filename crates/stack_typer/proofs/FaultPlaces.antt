-- The first fault of stacks stands no further than the instructions do.
use Rattle.std.proofs.Common.{◌≡◌, ℕ, zero, suc, ◌+◌, ◌≤◌, true, ◌&&◌, not, List, [], ◌∷◌, length, Option, Some, None, is_some, Result, Ok, Err, refl, subst, arith}
use Rattle.std.specs.Prelude.{nat_lt}
use Rattle.std.specs.List.{AllByRecursion}
use Rattle.std.proofs.lemmas.Bool.{cond_both, false≢true}
use Rattle.cil_model.specs.Code.{begins_at}
use Rattle.cil_model.specs.Kinds.{behind, operand_count, typed, within_size}
use Rattle.cil_model.specs.Passes.{HasTypeFault, Stacks, after_pass, after_passes, arrived, conflicts, first_stacks, follow, going_on, goes_behind, lower_of, lowest_conflict, pass_over, stack_at, successors, visited}
use Rattle.cil_model.specs.Runs.{instr_at}
use Rattle.cil_model.specs.declared.instruction.Instr.{Instr}
use Rattle.cil_model.specs.declared.place.Kind.{Kind}
use Rattle.cil_model.specs.declared.shape.Shape.{Shape}
use Rattle.cil_model.specs.declared.type_fault.TypeFault.{TypeFault}
use Rattle.cil_model.specs.declared.type_fault.TypeFault.TheVariants.{Underflow, FallsOff, Deep}
use Rattle.cil_model.proofs.KindsSettle.{found_at, reached_begins}
use Rattle.cil_model.proofs.Lists.{of_found}
use Rattle.stack_typer.specs.FaultPlaces.{type_fault_at}

module _ (most : ℕ) where
  -- What is wrong stands no further than here.
  abbrev FailsWithin : {X : Type 0} → Result X TypeFault → Type 0
  FailsWithin (Ok x) = Unit {0}
  FailsWithin (Err fault) = type_fault_at fault ≤ most

  -- ---- one instruction

  size_within : (shape : Shape) (at : ℕ) (stack : Option (List Kind)) → at ≤ most → FailsWithin (within_size shape at stack)
  size_within shape at None le = le
  size_within shape at (Some stack) le = cond_both (nat_lt shape.max_stack (length stack)) (Err (Deep at)) (Ok stack) FailsWithin (λ t. le) (λ t. tt)

  typed_within : (shape : Shape) (i : Instr) (stack : List Kind) → i.at ≤ most → FailsWithin (typed shape i stack)
  typed_within shape i stack le =
      cond_both (nat_lt (length stack) (operand_count shape i.op)) (Err (Underflow i.at)) (within_size shape i.at (behind shape i.op stack)) FailsWithin (λ t. le)
      (λ t. size_within shape i.at (behind shape i.op stack) le)

  -- ---- where stacks do not merge

  abbrev PlaceWithin : Option ℕ → Type 0
  PlaceWithin None = Unit {0}
  PlaceWithin (Some at) = at ≤ most

  lower_within : (other : Option ℕ) (at : ℕ) → PlaceWithin other → at ≤ most → lower_of other at ≤ most
  lower_within None at within le = le
  lower_within (Some other) at within le = cond_both (nat_lt other at) other at (λ n. n ≤ most) (λ t. within) (λ t. le)

  module _ (shape : Shape) (is : List Instr) (all : AllByRecursion (λ i. i.at ≤ most) is) where
    -- A stack that does not merge comes to where one is known, and so an instruction begins there.
    conflict_within : (stacks : Stacks) (stack : List Kind) (at : ℕ) → conflicts is stacks stack at ≡ true → at ≤ most
    conflict_within stacks stack at clash = by (stack_at is stacks at) (λ kinds e. reached_begins is stacks at kinds e) clash
      where
        by : (before : Option (List Kind)) → ((kinds : List Kind) → before ≡ Some kinds → (i : Instr) × (instr_at is at ≡ Some i))
            → not (is_some (arrived before stack)) ≡ true → at ≤ most
        by None reached e = absurd (false≢true e)
        by (Some kinds) reached e =
            let (i, found) = reached kinds refl in
            omega (arith, found_at is at i found, of_found (λ j. j.at ≤ most) is at i all found)

    lowest_within : (stacks : Stacks) (stack : List Kind) (ats : List ℕ) → PlaceWithin (lowest_conflict is stacks stack ats)
    lowest_within stacks stack [] = tt
    lowest_within stacks stack (at ∷ ats) =
        let others = lowest_within stacks stack ats in
        cond_both (conflicts is stacks stack at) (Some (lower_of (lowest_conflict is stacks stack ats) at)) (lowest_conflict is stacks stack ats) PlaceWithin
        (λ t. lower_within (lowest_conflict is stacks stack ats) at others (conflict_within stacks stack at t)) (λ t. others)

    -- ---- passes

    going_within : (stacks : Stacks) (conflict : Option ℕ) (stack : List Kind) (ats : List ℕ) → PlaceWithin conflict → FailsWithin (going_on is stacks conflict stack ats)
    going_within stacks None stack ats within = tt
    going_within stacks (Some at) stack ats within = within

    follow_within : (stacks : Stacks) (i : Instr) (stack : Result (List Kind) TypeFault) → i.at ≤ most → FailsWithin stack → FailsWithin (follow is stacks i stack)
    follow_within stacks i (Err fault) le within = within
    follow_within stacks i (Ok stack) le within =
        let ats = successors i.op (i.at + i.size) in
        cond_both (goes_behind i.op && not (begins_at is (i.at + i.size))) (Err (FallsOff i.at)) (going_on is stacks (lowest_conflict is stacks stack ats) stack ats) FailsWithin (λ t. le)
        (λ t. going_within stacks (lowest_conflict is stacks stack ats) stack ats (lowest_within stacks stack ats))

    visited_within : (stacks : Stacks) (i : Instr) (stack : Option (List Kind)) → i.at ≤ most → FailsWithin (visited shape is stacks i stack)
    visited_within stacks i None le = tt
    visited_within stacks i (Some stack) le = follow_within stacks i (typed shape i stack) le (typed_within shape i stack le)

    pass_within : (rest : List Instr) (stacks : Result Stacks TypeFault) → AllByRecursion (λ i. i.at ≤ most) rest → FailsWithin stacks → FailsWithin (pass_over shape is rest stacks)
    pass_within [] stacks places within = within
    pass_within (i ∷ rest) (Err fault) places within = within
    pass_within (i ∷ rest) (Ok stacks) places within =
        pass_within rest (visited shape is stacks i (stack_at is stacks i.at)) places.1 (visited_within stacks i (stack_at is stacks i.at) places.0)

    after_within : (stacks : Result Stacks TypeFault) → FailsWithin stacks → FailsWithin (after_pass shape is stacks)
    after_within (Err fault) within = within
    after_within (Ok stacks) within = pass_within is (Ok stacks) all tt

    first_within : (js : List Instr) → FailsWithin (first_stacks js)
    first_within [] = omega arith
    first_within (j ∷ js) = tt

    passes_within : (passes : ℕ) → FailsWithin (after_passes shape is passes)
    passes_within zero = first_within is
    passes_within (suc passes) = after_within (after_passes shape is passes) (passes_within passes)

-- Where no instruction stands further than here, the first fault of stacks does not.
pub type_fault_place : (most : ℕ) (shape : Shape) (is : List Instr) (fault : TypeFault) → AllByRecursion (λ i. i.at ≤ most) is → HasTypeFault shape is fault → type_fault_at fault ≤ most
type_fault_place most shape is fault all has = subst (FailsWithin most) has.met (passes_within most shape is all has.passes)
