-- Code is settled after `most_passes`, so what the passes then say of it is all that they ever say.
use Rattle.std.proofs.Common.{◌≡◌, ℕ, zero, suc, ◌+◌, ◌*◌, ◌<◌, ◌≤◌, ◌⊎◌, nat_lt, List, [], ◌∷◌, length, map, Option, Some, None, Result, Ok, Err, refl, ap, ◌∙◌, arith, inl, inr}
use Rattle.std.specs.Result.{result_err}
use Rattle.std.proofs.lemmas.Bool.{cond_both, ltb-false}
use Rattle.std.proofs.lemmas.List.Sums.{sum_by-cons}
use Rattle.cil_model.specs.Kinds.{operand_count, behind, within_size, typed}
use Rattle.cil_model.specs.Passes.{Stacks, successors, stack_at, visited, pass_over, pass, first_stacks, after_pass, after_passes, KindsOf, HasTypeFault}
use Rattle.cil_model.specs.declared.instruction.Instr.{Instr}
use Rattle.cil_model.specs.declared.place.Kind.{Kind}
use Rattle.cil_model.specs.declared.shape.Shape.{Shape}
use Rattle.cil_model.specs.declared.type_fault.TypeFault.{TypeFault}
use Rattle.stack_typer.specs.FirstTypeFault.{most_passes, first_type_fault}
use Rattle.stack_typer.specs.Room.{changes_left, all_changes_left}
use Rattle.stack_typer.proofs.Falling.{Falls, falls_on, come_all_falls}
use Rattle.stack_typer.proofs.StepParts.{step_parts, pass_parts}
use Rattle.stack_typer.proofs.Unique.{fault_once, not_both}

-- ---- one pass

-- No stack after an instruction is higher than the shape lets it be.
within_size-fits : (shape : Shape) (at : ℕ) (stack : Option (List Kind)) (after : List Kind) → within_size shape at stack ≡ Ok after → length after ≤ shape.max_stack
within_size-fits shape at None after e = absurd (cc)
within_size-fits shape at (Some stack) after e =
    cond_both (nat_lt shape.max_stack (length stack)) _ _ (λ (r : Result (List Kind) TypeFault). r ≡ Ok after → length after ≤ shape.max_stack)
    (λ deep f. absurd (cc)) (λ fits f. let same : stack ≡ after = cc in rw (← same) (ltb-false shape.max_stack (length stack) fits)) e

typed-fits : (shape : Shape) (i : Instr) (stack after : List Kind) → typed shape i stack ≡ Ok after → length after ≤ shape.max_stack
typed-fits shape i stack after e =
    cond_both (nat_lt (length stack) (operand_count shape i.op)) _ _ (λ (r : Result (List Kind) TypeFault). r ≡ Ok after → length after ≤ shape.max_stack)
    (λ lacks f. absurd (cc)) (λ has f. within_size-fits shape i.at (behind shape i.op stack) after f) e

visit_falls : (shape : Shape) (is : List Instr) (stacks : Stacks) (i : Instr) (before : Option (List Kind)) (now : Stacks) → visited shape is stacks i before ≡ Ok now
    → Falls (all_changes_left shape.max_stack) stacks now
visit_falls shape is stacks i None now e = inl (let same : now ≡ stacks = cc in same)
visit_falls shape is stacks i (Some before) now e =
    let s = step_parts shape is stacks i before now e in
    rw (← s.follows.come) (come_all_falls shape.max_stack is stacks s.after (successors i.op (i.at + i.size)) (typed-fits shape i before s.after s.typed_so))

-- A pass changes no stack, or leaves fewer changes.
pub pass_falls : (shape : Shape) (is rest : List Instr) (stacks now : Stacks) → pass_over shape is rest (Ok stacks) ≡ Ok now
    → Falls (all_changes_left shape.max_stack) stacks now
pass_falls shape is [] stacks now e = inl (let same : now ≡ stacks = cc in same)
pass_falls shape is (i ∷ rest) stacks now e =
    let p = pass_parts shape is rest stacks now i e in
    falls_on (all_changes_left shape.max_stack) stacks p.mid now (visit_falls shape is stacks i (stack_at is stacks i.at) p.mid p.first)
    (pass_falls shape is rest p.mid now p.others)

-- ---- all passes

not_reached : (most : ℕ) (is : List Instr) → all_changes_left most (map (λ other. None) is) ≡ length is * suc most
not_reached most [] = omega arith
not_reached most (i ∷ is) =
    let h = sum_by-cons (changes_left most) None (map (λ other. None) is) in
    omega (arith, h, not_reached most is)

first_left : (shape : Shape) (is : List Instr) (stacks : Stacks) → first_stacks is ≡ Ok stacks → all_changes_left shape.max_stack stacks < most_passes shape is
first_left shape [] stacks e = absurd (cc)
first_left shape (i ∷ is) stacks e =
    let same : stacks ≡ Some [] ∷ map (λ other. None) is = cc in
    let h = sum_by-cons (changes_left shape.max_stack) (Some []) (map (λ other. None) is) in
    rw same (omega (arith, h, not_reached shape.max_stack is))

-- Each pass so far changed a stack, unless nothing changes any more.
abbrev Changing : Shape → List Instr → ℕ → Stacks → Type 0
Changing shape is n stacks = (pass shape is stacks ≡ Ok stacks) ⊎ (n + all_changes_left shape.max_stack stacks < most_passes shape is)

one_more_pass : (shape : Shape) (is : List Instr) (n : ℕ) (before stacks : Stacks) → Changing shape is n before → pass shape is before ≡ Ok stacks
    → Falls (all_changes_left shape.max_stack) before stacks → Changing shape is (suc n) stacks
one_more_pass shape is n before stacks c e (inl same) = inl (ap (pass shape is) same ∙ e)
one_more_pass shape is n before stacks (inl still) e (inr fewer) =
    let same : stacks ≡ before = cc in
    inl (ap (pass shape is) same ∙ e)
one_more_pass shape is n before stacks (inr left) e (inr fewer) = inr (omega (arith, left, fewer))

changing : (shape : Shape) (is : List Instr) (n : ℕ) (stacks : Stacks) → after_passes shape is n ≡ Ok stacks → Changing shape is n stacks
changing shape is zero stacks e = inr (omega (arith, first_left shape is stacks e))
changing shape is (suc n) stacks e = by_answer (changing shape is n) (after_passes shape is n) refl e
  where
    by_answer : ((before : Stacks) → after_passes shape is n ≡ Ok before → Changing shape is n before) → (answer : Result Stacks TypeFault) → after_passes shape is n ≡ answer
        → after_pass shape is answer ≡ Ok stacks → Changing shape is (suc n) stacks
    by_answer earlier (Err fault) same e = absurd (cc)
    by_answer earlier (Ok before) same e = one_more_pass shape is n before stacks (earlier before same) e (pass_falls shape is is before stacks e)

-- What is there after `most_passes` are the kinds.
pub settles : (shape : Shape) (is : List Instr) (stacks : Stacks) → after_passes shape is (most_passes shape is) ≡ Ok stacks → KindsOf shape is stacks
settles shape is stacks e = record { passes = most_passes shape is; brought = e; settled = by_change (changing shape is (most_passes shape is) stacks e) }
  where
    by_change : Changing shape is (most_passes shape is) stacks → pass shape is stacks ≡ Ok stacks
    by_change (inl still) = still
    by_change (inr left) = absurd (omega (arith, left))

-- ---- the first fault

pub kinds_no_fault : (shape : Shape) (is : List Instr) (stacks : Stacks) → KindsOf shape is stacks → first_type_fault is shape ≡ None
unfolding first_type_fault
kinds_no_fault shape is stacks are = by_answer (after_passes shape is (most_passes shape is)) refl
  where
    by_answer : (answer : Result Stacks TypeFault) → after_passes shape is (most_passes shape is) ≡ answer → result_err answer ≡ None
    by_answer (Ok others) e = refl
    by_answer (Err fault) e = absurd (not_both shape is stacks fault are (record { passes = most_passes shape is; met = e }))

pub fault_is_first : (shape : Shape) (is : List Instr) (fault : TypeFault) → HasTypeFault shape is fault → first_type_fault is shape ≡ Some fault
unfolding first_type_fault
fault_is_first shape is fault has = by_answer (after_passes shape is (most_passes shape is)) refl
  where
    by_answer : (answer : Result Stacks TypeFault) → after_passes shape is (most_passes shape is) ≡ answer → result_err answer ≡ Some fault
    by_answer (Ok stacks) e = absurd (not_both shape is stacks fault (settles shape is stacks e) has)
    by_answer (Err given) e = ap Some (fault_once shape is given fault (record { passes = most_passes shape is; met = e }) has)
