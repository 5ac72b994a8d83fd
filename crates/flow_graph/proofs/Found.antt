-- The instruction that begins at an IL offset.
use Rattle.std.proofs.Common.{◌≡◌, ℕ, ◌≤◌, ◌==◌, Bool, true, nat_le, List, [], ◌∷◌, ◌++◌, filter, Option, Some, refl, sym, ap, subst, ◌∙◌, arith, inl, inr}
use Rattle.std.specs.List.{Contains, flat_map, list_any}
use Rattle.std.proofs.lemmas.Bool.{cases_Bool, cond_both, eqb-true, false≢true, or_right}
use Rattle.std.proofs.lemmas.Bool.Decides.{nat_tests}
use Rattle.std.proofs.lemmas.List.Elements.{Contains-append_left, Contains-append_right}
use Rattle.std.proofs.lemmas.Option.{none-some, same_Some}
use Rattle.cil_model.specs.Code.{begins_at}
use Rattle.cil_model.specs.Runs.{instr_at}
use Rattle.cil_model.specs.declared.instruction.Instr.{Instr}
use Rattle.cil_model.proofs.Lists.{of_found}
use Rattle.flow_graph.proofs.Items.{each_passes}

pub begins_found : (is : List Instr) (at : ℕ) → begins_at is at ≡ true → (i : Instr) × (instr_at is at ≡ Some i)
begins_found [] at begins = absurd (false≢true begins)
begins_found (i ∷ is) at begins =
    elim (cases_Bool (i.at == at)) [
      | inl here ↦ (i, rw here refl)
      | inr other ↦ (let (j, found) = begins_found is at (rw other at begins) in (j, rw other found))
    ]

pub found_begins : (is : List Instr) (at : ℕ) (i : Instr) → instr_at is at ≡ Some i → begins_at is at ≡ true
found_begins [] at i found = absurd (none-some i found)
found_begins (j ∷ is) at i found =
    elim (cases_Bool (j.at == at)) [
      | inl here ↦ rw here refl
      | inr other ↦ or_right (j.at == at) (begins_at is at) (found_begins is at i (rw other at found))
    ]

-- It passes among all what it passes.
pub found_passes : (q : Instr → Bool) (is : List Instr) (at : ℕ) (i : Instr) → instr_at is at ≡ Some i → q i ≡ true → list_any q is ≡ true
found_passes q is at i found = of_found (λ j. (p : Instr → Bool) → p j ≡ true → list_any p is ≡ true) is at i (each_passes is) found q

-- Among those whose offsets pass it is the one that it is among all, where its own offset passes.
pub found_kept : (q : ℕ → Bool) (is : List Instr) (at : ℕ) → q at ≡ true → instr_at (filter (λ i. q i.at) is) at ≡ instr_at is at
found_kept q [] at passes = refl
found_kept q (i ∷ is) at passes =
    elim (cases_Bool (i.at == at)) [
      | inl here ↦ (let kept : q i.at ≡ true = ap q (eqb-true i.at at here) ∙ passes in rw (kept, here) refl)
      | inr other ↦
          cond_both (q i.at) (i ∷ filter (λ j. q j.at) is) (filter (λ j. q j.at) is) (λ (js : List Instr). instr_at js at ≡ instr_at (i ∷ is) at)
          (λ e. rw other (found_kept q is at passes)) (λ e. rw other (found_kept q is at passes))
    ]

pub found_in_rest : (start : ℕ) (is : List Instr) (at : ℕ) → start ≤ at → instr_at (filter (λ i. nat_le start i.at) is) at ≡ instr_at is at
found_in_rest start is at le = found_kept (nat_le start) is at (grind (arith, nat_tests))

-- What it gives, all give.
pub flat_map_found : {Y : Type 0} (f : Instr → List Y) (is : List Instr) (at : ℕ) (i : Instr) (y : Y) → instr_at is at ≡ Some i → Contains (f i) y
    → Contains (flat_map f is) y
flat_map_found f [] at i y found has = absurd (none-some i found)
flat_map_found f (j ∷ is) at i y found has =
    cond_both (j.at == at) _ _ (λ (other : Option Instr). other ≡ Some i → Contains (f j ++ flat_map f is) y)
    (λ t here. Contains-append_left (f j) (flat_map f is) y (subst (λ (k : Instr). Contains (f k) y) (sym (same_Some j i here)) has))
    (λ t later. Contains-append_right (f j) (flat_map f is) y (flat_map_found f is at i y later has)) found
