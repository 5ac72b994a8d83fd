-- Callees pass the tests of their order exactly where they are those that the code calls, in order of their first use.
use Rattle.std.proofs.Common.{◌≡◌, ℕ, suc, ◌+◌, ◌<◌, ◌≤◌, ◌==◌, nat_lt, true, List, [], ◌∷◌, length, Option, Some, None, is_some, refl, sym, subst, ◌∙◌, arith, inl, inr}
use Rattle.std.specs.List.{AllByRecursion, cons_option}
use Rattle.std.specs.Option.{option_map_or}
use Rattle.std.proofs.lemmas.Bool.{and_parts, cases_lt, eq-eqb, eqb-true, le-ltb, lt-ltb, ltb-true}
use Rattle.std.proofs.lemmas.Bool.Decides.{nat_tests}
use Rattle.cc_base.specs.Tests.{first_of, must}
use Rattle.cc_base.proofs.TestLemmas.{first_of-nil, must-passed, must_hold, none_behind, none_here}
use Rattle.cil_model.specs.UnitCalls.{unit_call}
use Rattle.cil_model.specs.WellFormed.{InOrderOfUse, NamesSomething, called_by}
use Rattle.cil_model.specs.declared.instruction.Instr.{Instr}
use Rattle.cil_model.specs.declared.instruction.Op.{Op}
use Rattle.cil_model.specs.declared.instruction.Op.TheVariants as ops
use Rattle.method_unit.specs.CalledInOrder.{AreBelow, calls_in}
use Rattle.method_unit.specs.UnitFile.{first_uses, form_at, names_something, number_test, number_tests, order_tests, order_tests_from}
use Rattle.unit_form.specs.declared.unit_fault.UnitFault.TheVariants.{Form}

-- ---- the numbers in code

-- A callee that is called is one of so many.
abbrev IsOneOf : ℕ → Option ℕ → Type 0
IsOneOf callees None = Unit {0}
IsOneOf callees (Some n) = n < callees

one_of_them : (callees : ℕ) (call : Option ℕ) → option_map_or (λ callee. nat_lt callee callees) call true ≡ true → IsOneOf callees call
one_of_them callees None so = tt
one_of_them callees (Some n) so = ltb-true n callees so

test_one : (callees : ℕ) (call : Option ℕ) → IsOneOf callees call → option_map_or (λ callee. nat_lt callee callees) call true ≡ true
test_one callees None one = refl
test_one callees (Some n) one = lt-ltb n callees one

-- An operand that passes its test names something.
op_named : (callees : ℕ) (op : Op) → names_something callees op ≡ true → NamesSomething op × IsOneOf callees (called_by op)
op_named callees (ops.Call number) so =
    let both = and_parts (is_some (unit_call number)) _ so in (both.0, one_of_them callees (called_by (ops.Call number)) both.1)
op_named callees (ops.NewArray number) so = (so, tt)
op_named callees (ops.LoadAddr number) so = (so, tt)
op_named callees (ops.Text number) so = (eqb-true number 0 so, tt)
op_named callees _ so = (tt, tt)

op_passes : (callees : ℕ) (op : Op) → NamesSomething op → IsOneOf callees (called_by op) → names_something callees op ≡ true
op_passes callees (ops.Call number) named one = rw (named, test_one callees (called_by (ops.Call number)) one) refl
op_passes callees (ops.NewArray number) named one = named
op_passes callees (ops.LoadAddr number) named one = named
op_passes callees (ops.Text number) named one = eq-eqb number 0 named
op_passes callees _ named one = refl

number_named : (base callees : ℕ) (i : Instr) → number_test base callees i ≡ None → NamesSomething i.op × IsOneOf callees (called_by i.op)
number_named base callees i none = op_named callees i.op ((must_hold (names_something callees i.op) (form_at base i.at)).0 none)

pub numbers_are_named : (base callees : ℕ) (is : List Instr) → first_of (number_tests base callees is) ≡ None → AllByRecursion (λ i. NamesSomething i.op) is
unfolding number_tests
numbers_are_named base callees [] none = tt
numbers_are_named base callees (i ∷ is) none = (
  (number_named base callees i (none_here (number_test base callees i) (number_tests base callees is) none)).0,
  numbers_are_named base callees is (none_behind (number_test base callees i ∷ []) (number_tests base callees is) none),
)

call_below : (callees : ℕ) (call : Option ℕ) (calls : List ℕ) → IsOneOf callees call → AllByRecursion (λ n. n < callees) calls → AllByRecursion (λ n. n < callees) (cons_option call calls)
call_below callees None calls one all = all
call_below callees (Some n) calls one all = (one, all)

first_below : (callees : ℕ) (call : Option ℕ) (calls : List ℕ) → AllByRecursion (λ n. n < callees) (cons_option call calls) → IsOneOf callees call × AllByRecursion (λ n. n < callees) calls
first_below callees None calls all = (tt, all)
first_below callees (Some n) calls all = (all.0, all.1)

calls_below : (base callees : ℕ) (is : List Instr) → first_of (number_tests base callees is) ≡ None → AllByRecursion (λ n. n < callees) (calls_in is)
unfolding number_tests
calls_below base callees [] none = tt
calls_below base callees (i ∷ is) none =
    call_below callees (called_by i.op) (calls_in is) (number_named base callees i (none_here (number_test base callees i) (number_tests base callees is) none)).1
    (calls_below base callees is (none_behind (number_test base callees i ∷ []) (number_tests base callees is) none))

named_pass : (base callees : ℕ) (is : List Instr) → AllByRecursion (λ i. NamesSomething i.op) is → AllByRecursion (λ n. n < callees) (calls_in is) → first_of (number_tests base callees is) ≡ None
unfolding number_tests
named_pass base callees [] named below = first_of-nil
named_pass base callees (i ∷ is) named below =
    let both = first_below callees (called_by i.op) (calls_in is) below in
    must-passed (names_something callees i.op) (form_at base i.at) (number_tests base callees is) (op_passes callees i.op named.0 both.0)
    ∙ named_pass base callees is named.1 both.1

-- ---- the order

more_below : (next n : ℕ) (met : List ℕ) → AreBelow next met → n ≡ next → AreBelow (suc next) (n ∷ met)
more_below next n met below same m = rw (below m, same) (grind (arith, nat_tests))

one_more : (next : ℕ) → suc next ≡ next + 1
one_more next = omega arith

none_met : AreBelow 0 []
none_met n = sym (le-ltb n 0 (omega arith))

used : (next all : ℕ) (met calls offsets : List ℕ) → AreBelow next met → next + length offsets ≡ all → AllByRecursion (λ n. n < all) calls
    → first_of (order_tests_from next (first_uses met calls) offsets) ≡ None → InOrderOfUse next all calls
unfolding first_of
used next all met [] [] below e under none = omega (arith, e)
used next all met [] (offset ∷ offsets) below e under none = absurd cc
used next all met (n ∷ calls) [] below e under none =
    elim (cases_lt n next) [
      | inl less ↦ inl (less, used next all met calls [] below e under.1 refl)
      | inr not_less ↦ absurd (omega (arith, e, not_less, under.0))
    ]
used next all met (n ∷ calls) (offset ∷ offsets) below e under none =
    elim (cases_lt n next) [
      | inl less ↦ inl (less, used next all met calls (offset ∷ offsets) below e under.1 (rw (below n, lt-ltb n next less) at none))
      | inr not_less ↦
          let there = rw (below n, le-ltb n next not_less) at none in
          let later = order_tests_from (suc next) (first_uses (n ∷ met) calls) offsets in
          let same = eqb-true n next ((must_hold (n == next) (Form offset)).0 (none_here (must (n == next) (Form offset)) later there)) in
          inr (
            same,
            subst (λ m. InOrderOfUse m all calls) (one_more next)
                (used (suc next) all (n ∷ met) calls offsets (more_below next n met below same) (omega (arith, e)) under.1 (none_behind (must (n == next) (Form offset) ∷ []) later there)),
          )
    ]

pub order_is_use : (base callees : ℕ) (is : List Instr) (offsets : List ℕ) → length offsets ≡ callees → first_of (number_tests base callees is) ≡ None
    → first_of (order_tests is offsets) ≡ None → InOrderOfUse 0 callees (calls_in is)
unfolding order_tests
order_is_use base callees is offsets counted named ordered = used 0 callees [] (calls_in is) offsets none_met (omega (arith, counted)) (calls_below base callees is named) ordered

-- ---- and the other way round

use_passes : (next all : ℕ) (met calls offsets : List ℕ) → AreBelow next met → next + length offsets ≡ all → InOrderOfUse next all calls
    → first_of (order_tests_from next (first_uses met calls) offsets) ≡ None
unfolding first_of
use_passes next all met [] [] below e order = refl
use_passes next all met [] (offset ∷ offsets) below e order = absurd (omega (arith, e, order))
use_passes next all met (n ∷ calls) [] below e order = refl
use_passes next all met (n ∷ calls) (offset ∷ offsets) below e (inl order) = rw (below n, lt-ltb n next order.0) (use_passes next all met calls (offset ∷ offsets) below e order.1)
use_passes next all met (n ∷ calls) (offset ∷ offsets) below e (inr order) =
    rw (below n, le-ltb n next (omega (arith, order.0)))
    (must-passed (n == next) (Form offset) (order_tests_from (suc next) (first_uses (n ∷ met) calls) offsets) (eq-eqb n next order.0)
    ∙ use_passes (suc next) all (n ∷ met) calls offsets (more_below next n met below order.0) (omega (arith, e)) (subst (λ m. InOrderOfUse m all calls) (sym (one_more next)) order.1))

-- The calls are of callees below the last, and so many at least.
pub record AreUsed (first all : ℕ) (calls : List ℕ) : Type 0 where
  pub below : AllByRecursion (λ n. n < all) calls
  pub behind : first ≤ all
  pub count : all ≤ first + length calls

pub are_used : (first all : ℕ) (calls : List ℕ) → InOrderOfUse first all calls → AreUsed first all calls
are_used first all [] order = record { below = tt; behind = omega (arith, order); count = omega (arith, order) }
are_used first all (n ∷ calls) (inl order) =
    let later = are_used first all calls order.1 in
    record { below = (omega (arith, order.0, later.behind), later.below); behind = later.behind; count = omega (arith, later.count) }
are_used first all (n ∷ calls) (inr order) =
    let later = are_used (first + 1) all calls order.1 in
    record { below = (omega (arith, order.0, later.behind), later.below); behind = omega (arith, later.behind); count = omega (arith, later.count) }

pub use_is_ordered : (is : List Instr) (offsets : List ℕ) → InOrderOfUse 0 (length offsets) (calls_in is) → first_of (order_tests is offsets) ≡ None
unfolding order_tests
use_is_ordered is offsets order = use_passes 0 (length offsets) [] (calls_in is) offsets none_met (omega arith) order

pub named_are_numbers : (base callees : ℕ) (is : List Instr) → AllByRecursion (λ i. NamesSomething i.op) is → InOrderOfUse 0 callees (calls_in is)
    → first_of (number_tests base callees is) ≡ None
named_are_numbers base callees is named order = named_pass base callees is named (are_used 0 callees (calls_in is) order).below

one_call : (call : Option ℕ) (calls : List ℕ) → length (cons_option call calls) ≤ suc (length calls)
one_call None calls = omega arith
one_call (Some n) calls = omega arith

fewer_calls : (is : List Instr) → length (calls_in is) ≤ length is
fewer_calls [] = omega arith
fewer_calls (i ∷ is) = omega (arith, one_call (called_by i.op) (calls_in is), fewer_calls is)

-- No more callees are used than there are instructions.
pub used_are_few : (callees : ℕ) (is : List Instr) → InOrderOfUse 0 callees (calls_in is) → callees ≤ length is
used_are_few callees is order = omega (arith, (are_used 0 callees (calls_in is) order).count, fewer_calls is)
