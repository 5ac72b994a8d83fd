-- Callees that are called in their order.
use Rattle.std.proofs.Common.{◌≡◌, ℕ, zero, suc, ◌+◌, ◌<◌, ◌≤◌, List, [], ◌∷◌, length, drop, get_or, Option, Some, None, option_map, slice_get, refl, sym, ap, subst, ◌∙◌, arith, inl, inr}
use Rattle.std.specs.List.{cons_option}
use Rattle.std.proofs.Math.Seq.{drop-cons}
use Rattle.std.proofs.lemmas.List.{drop_all}
use Rattle.std.proofs.lemmas.Option.{none-some, same_Some}
use Rattle.cil_model.specs.WellFormed.{called_by}
use Rattle.std.proofs.lemmas.Bool.{cases_eq, cases_lt, eq-eqb, ne_eqb, lt-ltb, le-ltb}
use Rattle.std.proofs.lemmas.Bool.Decides.{nat_tests}
use Rattle.cc_base.specs.Tests.{first_of}
use Rattle.cil_model.specs.declared.instruction.Instr.{Instr}
use Rattle.method_unit.specs.CalledInOrder.{AreBelow, AreCalled, calls_in, next_behind}
use Rattle.method_unit.specs.UnitFile.{first_uses, order_tests, order_tests_from}
use Rattle.unit_form.specs.declared.unit_fault.UnitFault.{UnitFault}
use Rattle.unit_form.specs.declared.unit_fault.UnitFault.TheVariants.{Form}

-- The tests from a callee on, where so many calls are left.
tests_left : ℕ → List ℕ → List ℕ → List ℕ → Option UnitFault
tests_left next met left offsets = first_of (order_tests_from next (first_uses met left) (drop next offsets))

-- A callee that was called before.
called_again : (next n : ℕ) (met ns offsets : List ℕ) → AreBelow next met → n < next → tests_left next met (n ∷ ns) offsets ≡ tests_left next met ns offsets
unfolding tests_left
called_again next n met ns offsets below less = rw (below n, lt-ltb n next less) refl

more_below : (next : ℕ) (met : List ℕ) → AreBelow next met → AreBelow (suc next) (next ∷ met)
more_below next met below n = rw (below n) (grind (arith, nat_tests))

drop-next : (next : ℕ) (offsets : List ℕ) → drop (suc next) offsets ≡ drop 1 (drop next offsets)
drop-next zero offsets = refl
drop-next (suc next) [] = refl
drop-next (suc next) (offset ∷ offsets) = drop-next next offsets

-- The next callee is called.
called_next : (next : ℕ) (met ns offsets : List ℕ) → AreBelow next met → tests_left next met (next ∷ ns) offsets ≡ tests_left (suc next) (next ∷ met) ns offsets
unfolding tests_left first_of
called_next next met ns offsets below =
    rw (below next, le-ltb next next (omega arith), drop-next next offsets) (by_left (drop next offsets))
  where
    by_left : (left : List ℕ) → first_of (order_tests_from next (next ∷ first_uses (next ∷ met) ns) left) ≡ first_of (order_tests_from (suc next) (first_uses (next ∷ met) ns) (drop 1 left))
    by_left [] = refl
    by_left (offset ∷ left) = rw (eq-eqb next next refl) refl

first_left : (next : ℕ) (offsets : List ℕ) → slice_get (drop next offsets) 0 ≡ slice_get offsets next
first_left zero offsets = refl
first_left (suc next) [] = refl
first_left (suc next) (offset ∷ offsets) = first_left next offsets

-- One after the next is called.
called_early : (next n : ℕ) (met ns offsets : List ℕ) → AreBelow next met → next < n → tests_left next met (n ∷ ns) offsets ≡ option_map Form (slice_get offsets next)
unfolding tests_left first_of
called_early next n met ns offsets below less =
    rw (below n, le-ltb n next (omega arith)) (by_left (drop next offsets)) ∙ ap (option_map Form) (first_left next offsets)
  where
    by_left : (left : List ℕ) → first_of (order_tests_from next (n ∷ first_uses (n ∷ met) ns) left) ≡ option_map Form (slice_get left 0)
    by_left [] = refl
    by_left (offset ∷ left) = rw (ne_eqb n next (λ e. omega (arith, e))) refl

-- No call is left.
none_left : (next : ℕ) (met offsets : List ℕ) → tests_left next met [] offsets ≡ option_map Form (slice_get offsets next)
unfolding tests_left first_of
none_left next met offsets = by_left (drop next offsets) ∙ ap (option_map Form) (first_left next offsets)
  where
    by_left : (left : List ℕ) → first_of (order_tests_from next [] left) ≡ option_map Form (slice_get left 0)
    by_left [] = refl
    by_left (offset ∷ left) = refl

-- ---- the loop over the instructions

calls_from : (is : List Instr) (k : ℕ) (i : Instr) → k < length is → i ≡ get_or is k i → calls_in (drop k is) ≡ cons_option (called_by i.op) (calls_in (drop (suc k) is))
calls_from is k i within there = ap calls_in (drop-cons is k i within) ∙ ap (λ (j : Instr). cons_option (called_by j.op) (calls_in (drop (suc k) is))) (sym there)

pub order_starts : (is : List Instr) → AreCalled is 0 (calls_in is)
unfolding order_tests
order_starts is = record { met = []; below = λ n. sym (le-ltb n 0 (omega arith)); same = λ offsets. refl }

-- What a call that is in order, or none, leaves.
passed : (is : List Instr) (next now : ℕ) (call : Option ℕ) (left : List ℕ) → next_behind next call ≡ Some now → AreCalled is next (cons_option call left) → AreCalled is now left
unfolding tests_left
passed is next now None left on called = subst (λ (n : ℕ). AreCalled is n left) (same_Some next now on) called
passed is next now (Some n) left on called = elim (cases_lt n next) [
  | inl less ↦
      let same : next ≡ now = same_Some next now (sym (rw (lt-ltb n next less) refl) ∙ on) in
      subst (λ (m : ℕ). AreCalled is m left) same
      (record { met = called.met; below = called.below; same = λ offsets. called.same offsets ∙ called_again next n called.met left offsets called.below less })
  | inr not_less ↦ elim (cases_eq n next) [
    | inl e ↦
        let same : suc next ≡ now = same_Some (suc next) now (sym (rw (le-ltb n next not_less, eq-eqb n next e) refl) ∙ on) in
        let here = subst (λ (m : ℕ). AreCalled is next (m ∷ left)) e called in
        subst (λ (m : ℕ). AreCalled is m left) same
        (record {
          met = next ∷ here.met;
          below = more_below next here.met here.below;
          same = λ offsets. here.same offsets ∙ called_next next here.met left offsets here.below;
        })
    | inr other ↦ absurd (none-some now (sym (rw (le-ltb n next not_less, ne_eqb n next other) refl) ∙ on))
  ]
]

stopped : (is : List Instr) (next : ℕ) (call : Option ℕ) (left : List ℕ) → next_behind next call ≡ None → AreCalled is next (cons_option call left)
    → (offsets : List ℕ) → first_of (order_tests is offsets) ≡ option_map Form (slice_get offsets next)
unfolding tests_left
stopped is next None left off called offsets = absurd (none-some next (sym off))
stopped is next (Some n) left off called offsets = elim (cases_lt n next) [
  | inl less ↦ absurd (none-some next (sym off ∙ rw (lt-ltb n next less) refl))
  | inr not_less ↦ elim (cases_eq n next) [
    | inl e ↦ absurd (none-some (suc next) (sym off ∙ rw (le-ltb n next not_less, eq-eqb n next e) refl))
    | inr other ↦ called.same offsets ∙ called_early next n called.met left offsets called.below (omega (arith, not_less, other))
  ]
]

pub order_goes_on : (is : List Instr) (next now k : ℕ) (i : Instr) → k < length is → i ≡ get_or is k i → next_behind next (called_by i.op) ≡ Some now → AreCalled is next (calls_in (drop k is))
    → AreCalled is now (calls_in (drop (k + 1) is))
order_goes_on is next now k i within there on called =
    let e : k + 1 ≡ suc k = omega arith in
    rw e (passed is next now (called_by i.op) (calls_in (drop (suc k) is)) on (subst (AreCalled is next) (calls_from is k i within there) called))

pub order_stops : (is : List Instr) (next k : ℕ) (i : Instr) → k < length is → i ≡ get_or is k i → next_behind next (called_by i.op) ≡ None → AreCalled is next (calls_in (drop k is))
    → (offsets : List ℕ) → first_of (order_tests is offsets) ≡ option_map Form (slice_get offsets next)
order_stops is next k i within there off called =
    stopped is next (called_by i.op) (calls_in (drop (suc k) is)) off (subst (AreCalled is next) (calls_from is k i within there) called)

pub order_ends : (is : List Instr) (next k : ℕ) → length is ≤ k → AreCalled is next (calls_in (drop k is))
    → (offsets : List ℕ) → first_of (order_tests is offsets) ≡ option_map Form (slice_get offsets next)
unfolding tests_left
order_ends is next k end called offsets =
    let none : calls_in (drop k is) ≡ [] = ap calls_in (drop_all k is end) in
    let here = subst (AreCalled is next) none called in
    here.same offsets ∙ none_left next here.met offsets

pub ruleset in_order = (order_starts, order_goes_on, order_stops, order_ends)
