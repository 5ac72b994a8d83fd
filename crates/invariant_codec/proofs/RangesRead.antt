-- Ranges with a hole between their ends.
use Rattle.std.proofs.Common.{◌≡◌, ℕ, ◌+◌, List, ap, ap₂, sym, ◌∙◌, ◌&&◌, ◌||◌, Bool, ℤ, ◌<ℤ◌, ◌≤ℤ◌, true, false, Some}
use Rattle.std.proofs.Common.{None, refl, arith}
use Rattle.std.specs.Prelude.{int_le, int_lt, if◌then◌else◌}
use Rattle.std.specs.Ordering.{int_eq}
use Rattle.std.proofs.lemmas.Bool.{true_from_ne_false}
use Rattle.std.proofs.lemmas.Int.{ints}
use Rattle.cc_base.specs.Tests.{first_of}
use Rattle.cc_base.proofs.TestLemmas.{first_of-append_none}
use Rattle.interval_domain.specs.Interval.{Interval, between, interval, is_inside, lost, without}
use Rattle.invariant_codec.specs.Formats.{tested}
use Rattle.invariant_codec.specs.Numbers.{hole, inner, int32, range}
use Rattle.invariant_codec.proofs.FormatLaws.{one_test}

tested_so : (r x y z : Interval) (a b c d e f g : Bool) → a ≡ false → b ≡ false → c ≡ false → d ≡ false → e ≡ false
    → f ≡ true → g ≡ true
    → (if a || b then Some r else (if c then None else Some (if d then x else (if e then y else z)))) ≡
    (if f && g then Some z else None)
tested_so r x y z a b c d e f g p1 p2 p3 p4 p5 p6 p7 = rw (p1, p2, p3, p4, p5, p6, p7) refl

pub hole_put : (r : Interval) (n : ℤ) → r.lo <ℤ n → n <ℤ r.hi
    → without r n ≡ (if is_inside r.lo r.hi n then Some (interval r.lo r.hi (Some n)) else None)
unfolding without lost
hole_put r n above below =
    tested_so r _ _ (interval r.lo r.hi (Some n)) (int_lt n r.lo) (int_lt r.hi n) (int_eq r.lo r.hi) (int_eq n r.lo)
    (int_eq n r.hi) (int_lt r.lo n) (int_lt n r.hi)
    (grind (arith, ints, above, below)) (grind (arith, ints, above, below)) (grind (arith, ints, above, below))
    (grind (arith, ints, above, below)) (grind (arith, ints, above, below))
    (grind (arith, ints, above, below)) (grind (arith, ints, above, below))

pub ruleset hole_made = (hole_put)

-- What is made with a hole tells that it lies inside, and is the range with it.

made_by : (is : Bool) (r holed : Interval) → (if is then Some r else None) ≡ Some holed → (is ≡ true) × (holed ≡ r)
made_by true r holed made = (refl, some_same made)
  where
    some_same : Some r ≡ Some holed → holed ≡ r
    some_same e = cc
made_by false r holed made = absurd cc

-- A range is read with the hole that is.
pub record InnerRead (bytes : List ℕ) (at : ℕ) (lo hi : ℤ) (holed : Interval) : Type 0 where
  pub tests : first_of ((inner lo hi).read bytes at).tests ≡ None
  pub value : holed ≡ interval lo hi (Some ((inner lo hi).read bytes at).value)

pub inner_read : (bytes : List ℕ) (at : ℕ) (lo hi n : ℤ) (holed : Interval)
    → first_of (int32.read bytes at).tests ≡ None → n ≡ (int32.read bytes at).value
    → (if is_inside lo hi n then Some (interval lo hi (Some n)) else None) ≡ Some holed → InnerRead bytes at lo hi holed
inner_read bytes at lo hi n holed passed is made =
    let both = made_by (is_inside lo hi n) (interval lo hi (Some n)) holed made in
    record {
      tests = first_of-append_none (int32.read bytes at).tests _ passed
          ∙ one_test _ _ (ap (is_inside lo hi) (sym is) ∙ both.0);
      value = both.1 ∙ ap (λ (n : ℤ). interval lo hi (Some n)) is;
    }

-- A range is read whose ends and hole are.
pub record RangeRead (bytes : List ℕ) (at : ℕ) (holed : Interval) (next : ℕ) : Type 0 where
  pub tests : first_of (range.read bytes at).tests ≡ None
  pub value : holed ≡ (range.read bytes at).value
  pub next_is : next ≡ (range.read bytes at).next

pub range_read : (bytes : List ℕ) (at next : ℕ) (lo hi : ℤ) (r holed : Interval)
    → first_of (int32.read bytes at).tests ≡ None → lo ≡ (int32.read bytes at).value
    → at + 4 ≡ (int32.read bytes at).next
    → first_of (int32.read bytes (at + 4)).tests ≡ None → hi ≡ (int32.read bytes (at + 4)).value
    → at + 4 + 4 ≡ (int32.read bytes (at + 4)).next → lo ≤ℤ hi → r ≡ between lo hi
    → first_of ((hole r.lo r.hi).read bytes (at + 8)).tests ≡ None
    → holed ≡ interval r.lo r.hi ((hole r.lo r.hi).read bytes (at + 8)).value
    → next ≡ ((hole r.lo r.hi).read bytes (at + 8)).next
    → RangeRead bytes at holed next
unfolding range
range_read bytes at next lo hi r holed p1 v1 n1 p2 v2 n2 ordered is p3 v3 n3 =
    let low = int32.read bytes at in
    let high = (tested (int_le low.value) int32).read bytes low.next in
    let rest = (hole low.value high.value).read bytes high.next in
    let le : int_le lo hi ≡ true = true_from_ne_false (int_le lo hi) (λ e. grind (arith, ints, ordered, e)) in
    let value : (int32.read bytes low.next).value ≡ hi = ap (λ (n : ℕ). (int32.read bytes n).value) (sym n1) ∙ sym v2 in
    let eight : at + 8 ≡ at + 4 + 4 = omega arith in
    let after : at + 8 ≡ high.next = eight ∙ n2 ∙ ap (λ (n : ℕ). (int32.read bytes n).next) n1 in
    let ends_low : r.lo ≡ low.value = ap (λ (r : Interval). r.lo) is ∙ v1 in
    let ends_high : r.hi ≡ high.value = ap (λ (r : Interval). r.hi) is ∙ sym value in
    let same : (hole r.lo r.hi).read bytes (at + 8) ≡ rest = ap₂
    (λ (a b : ℤ). (hole a b).read bytes (at + 8)) ends_low ends_high
    ∙ ap (λ (n : ℕ). (hole low.value high.value).read bytes n) after in
    let tested_high : first_of high.tests ≡ None =
    first_of-append_none (int32.read bytes low.next).tests _
    (ap (λ (n : ℕ). first_of (int32.read bytes n).tests) (sym n1) ∙ p2)
    ∙ one_test _ _ (ap₂ (λ (a b : ℤ). int_le a b) (sym v1) value ∙ le) in
    record {
      tests = first_of-append_none low.tests _ p1 ∙ first_of-append_none high.tests _ tested_high
          ∙ ap (λ p. first_of p.tests) (sym same) ∙ p3;
      value = v3 ∙ ap₂ (λ (a b : ℤ). interval a b ((hole r.lo r.hi).read bytes (at + 8)).value) ends_low ends_high
          ∙ ap (λ p. interval low.value high.value p.value) same;
      next_is = n3 ∙ ap (λ p. p.next) same;
    }
