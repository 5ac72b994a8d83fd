-- No stack before an instruction has more values than the shape lets it have.
use Rattle.std.proofs.Common.{◌≡◌, ℕ, zero, suc, ◌+◌, ◌≤◌, ◌==◌, ◌&&◌, not, nat_lt, List, [], ◌∷◌, length, map, Option, Some, None, Result, Ok, Err, refl, subst, arith}
use Rattle.std.specs.List.{AllByRecursion}
use Rattle.std.specs.Option.{option_or}
use Rattle.std.proofs.lemmas.Bool.{cond_both, ltb-false}
use Rattle.cil_model.specs.Code.{begins_at}
use Rattle.cil_model.specs.Kinds.{behind, operand_count, typed, within_size}
use Rattle.cil_model.specs.Passes.{KindsOf, Stacks, after_pass, after_passes, arrived, come_to, come_to_all, first_stacks, follow, goes_behind, going_on, lowest_conflict, merged, pass_over, stack_at, successors, visited}
use Rattle.cil_model.specs.declared.instruction.Instr.{Instr}
use Rattle.cil_model.specs.declared.place.Kind.{Kind}
use Rattle.cil_model.specs.declared.shape.Shape.{Shape}
use Rattle.cil_model.specs.declared.type_fault.TypeFault.{TypeFault}
use Rattle.unit_flow.proofs.KindsAlong.{merged_long}

module _ (shape : Shape) where
  abbrev IsSmall : List Kind → Type 0
  IsSmall stack = length stack ≤ shape.max_stack

  abbrev IsSmallIn : Option (List Kind) → Type 0
  IsSmallIn None = Unit {0}
  IsSmallIn (Some stack) = IsSmall stack

  abbrev AreSmall : Stacks → Type 0
  AreSmall stacks = AllByRecursion IsSmallIn stacks

  abbrev AreSmallIn : Result Stacks TypeFault → Type 0
  AreSmallIn (Ok stacks) = AreSmall stacks
  AreSmallIn (Err fault) = Unit {0}

  -- ---- a stack that comes to others

  arrived_small : (before : Option (List Kind)) (stack : List Kind) → IsSmallIn before → IsSmall stack
      → IsSmallIn (option_or (arrived before stack) before)
  arrived_small None stack all small = small
  arrived_small (Some before) stack all small = by (merged before stack) refl
    where
      by : (o : Option (List Kind)) → merged before stack ≡ o → IsSmallIn (option_or o (Some before))
      by None is = all
      by (Some both) is = omega (arith, merged_long before stack both is, small)

  comes_small : (is : List Instr) (stacks : Stacks) (at : ℕ) (stack : List Kind) → AreSmall stacks → IsSmall stack
      → AreSmall (come_to is stacks at stack)
  comes_small [] stacks at stack all small = all
  comes_small (i ∷ is) [] at stack all small = all
  comes_small (i ∷ is) (before ∷ stacks) at stack all small =
      cond_both (i.at == at) _ _ AreSmall (λ here. (arrived_small before stack all.0 small, all.1))
      (λ later. (all.0, comes_small is stacks at stack all.1 small))

  come_small : (is : List Instr) (stacks : Stacks) (stack : List Kind) (ats : List ℕ) → AreSmall stacks → IsSmall stack
      → AreSmall (come_to_all is stacks stack ats)
  come_small is stacks stack [] all small = all
  come_small is stacks stack (at ∷ ats) all small =
      come_small is (come_to is stacks at stack) stack ats (comes_small is stacks at stack all small) small

  -- ---- one instruction

  within : (at : ℕ) (stack : Option (List Kind)) (after : List Kind) → within_size shape at stack ≡ Ok after
      → IsSmall after
  within at None after e = absurd cc
  within at (Some stack) after e =
      cond_both (nat_lt shape.max_stack (length stack)) _ _
      (λ (r : Result (List Kind) TypeFault). r ≡ Ok after → IsSmall after) (λ deep f. absurd cc)
      (λ fits f. let same : stack ≡ after = cc in
      subst IsSmall same (ltb-false shape.max_stack (length stack) fits)) e

  typed_small : (i : Instr) (stack after : List Kind) → typed shape i stack ≡ Ok after → IsSmall after
  typed_small i stack after e =
      cond_both (nat_lt (length stack) (operand_count shape i.op)) _ _
      (λ (r : Result (List Kind) TypeFault). r ≡ Ok after → IsSmall after) (λ lacks f. absurd cc)
      (λ has f. within i.at (behind shape i.op stack) after f) e

  go_on_small : (is : List Instr) (stacks : Stacks) (conflict : Option ℕ) (stack : List Kind) (ats : List ℕ)
      → AreSmall stacks → IsSmall stack → AreSmallIn (going_on is stacks conflict stack ats)
  go_on_small is stacks (Some at) stack ats all small = tt
  go_on_small is stacks None stack ats all small = come_small is stacks stack ats all small

  followed_small : (is : List Instr) (stacks : Stacks) (i : Instr) (r : Result (List Kind) TypeFault) → AreSmall stacks
      → ((after : List Kind) → r ≡ Ok after → IsSmall after) → AreSmallIn (follow is stacks i r)
  followed_small is stacks i (Err fault) all small = tt
  followed_small is stacks i (Ok stack) all small =
      cond_both (goes_behind i.op && not (begins_at is (i.at + i.size))) _ _ AreSmallIn (λ falls. tt)
      (λ other. go_on_small is stacks
      (lowest_conflict is stacks stack (successors i.op (i.at + i.size))) stack (successors i.op (i.at + i.size)) all
      (small stack refl))

  visited_small : (is : List Instr) (stacks : Stacks) (i : Instr) (before : Option (List Kind)) → AreSmall stacks
      → AreSmallIn (visited shape is stacks i before)
  visited_small is stacks i None all = all
  visited_small is stacks i (Some stack) all =
      followed_small is stacks i (typed shape i stack) all (λ after e. typed_small i stack after e)

  -- ---- passes

  pass_small : (is rest : List Instr) (r : Result Stacks TypeFault) → AreSmallIn r
      → AreSmallIn (pass_over shape is rest r)
  pass_small is [] r all = all
  pass_small is (i ∷ rest) (Err fault) all = tt
  pass_small is (i ∷ rest) (Ok stacks) all =
      pass_small is rest (visited shape is stacks i (stack_at is stacks i.at))
      (visited_small is stacks i (stack_at is stacks i.at) all)

  none_small : (is : List Instr) → AreSmall (map (λ other. None) is)
  none_small [] = tt
  none_small (i ∷ is) = (tt, none_small is)

  first_small : (is : List Instr) → AreSmallIn (first_stacks is)
  first_small [] = tt
  first_small (i ∷ is) = (omega arith, none_small is)

  after_small : (is : List Instr) (r : Result Stacks TypeFault) → AreSmallIn r → AreSmallIn (after_pass shape is r)
  after_small is (Err fault) all = tt
  after_small is (Ok stacks) all = pass_small is is (Ok stacks) all

  passes_small : (is : List Instr) (n : ℕ) → AreSmallIn (after_passes shape is n)
  passes_small is zero = first_small is
  passes_small is (suc n) = after_small is (after_passes shape is n) (passes_small is n)

  stack_small : (is : List Instr) (stacks : Stacks) (at : ℕ) → AreSmall stacks → IsSmallIn (stack_at is stacks at)
  stack_small [] stacks at all = tt
  stack_small (i ∷ is) [] at all = tt
  stack_small (i ∷ is) (stack ∷ stacks) at all =
      cond_both (i.at == at) _ _ IsSmallIn (λ here. all.0) (λ later. stack_small is stacks at all.1)

-- The stack that typing finds before an instruction is within its size.
pub within_stack : (shape : Shape) (is : List Instr) (stacks : Stacks) (at : ℕ) (stack : List Kind)
    → KindsOf shape is stacks → stack_at is stacks at ≡ Some stack → length stack ≤ shape.max_stack
within_stack shape is stacks at stack kinds found =
    subst (IsSmallIn shape) found
    (stack_small shape is stacks at
    (subst (AreSmallIn shape) kinds.brought (passes_small shape is kinds.passes)))
