-- How large the ends are that bounds cut, where the stored ranges are of int32.
use Rattle.std.proofs.Common.{◌≡◌, ◌≢◌, ◌==◌, ℕ, true, false, sym, ◌∙◌, ap, zero, suc, ℤ, pos, negsuc, ◌+ℤ◌, ◌-ℤ◌, ◌≤ℤ◌, FitsSigned, w32, List, [], ◌∷◌, None, get_or, refl, arith}
use Rattle.std.specs.List.{AllByRecursion}
use Rattle.std.specs.Int.{int_min, int_max}
use Rattle.std.proofs.lemmas.Int.{ints, clamps}
use Rattle.std.proofs.lemmas.Bool.{eqb-true}
use Rattle.pentagon_domain.specs.Rows.{AreBounds}
use Rattle.domain_api.specs.declared.expr.Expr.{Expr}
use Rattle.interval_domain.specs.Interval.{Interval, one}
use Rattle.number_spans.specs.Sizes.{IsEnd, IsSmall}
use Rattle.number_spans.specs.Spans.{shifted}
use Rattle.number_spans.specs.Constants.{constant}
use Rattle.number_spans.specs.Sums.{negated}
use Rattle.cc_base.specs.Wrap.{wrap32}
use Rattle.std.proofs.lemmas.Bool.Decides.{nat_tests}
use Rattle.number_facts.specs.Additions.{difference}
use Rattle.number_facts.specs.declared.outcome.Outcome.TheVariants.{Is}
use Rattle.number_spans.specs.Stored.{IsNarrow}
use Rattle.number_spans.specs.declared.span.Span.{Span}
use Rattle.number_facts.specs.Ends.{met, range_of, span_at}
use Rattle.number_facts.specs.Facts.{Facts, AreNarrow, IsThere, range_at}
use Rattle.number_facts.specs.Sizes.{AreNear, IsCut, IsNear}
use Rattle.number_facts.proofs.Cutting.{none_from_zero, none_to_zero}

narrow_zero : IsNarrow (one (pos 0))
narrow_zero = record { least = omega (arith, ints); ordered = omega (arith, ints); greatest = omega (arith, ints); inner = tt }

narrow_at : (rs : List Interval) (i : ℕ) → AllByRecursion IsNarrow rs → IsNarrow (get_or rs i (one (pos 0)))
narrow_at [] i all = narrow_zero
narrow_at (r ∷ rs) zero all = all.0
narrow_at (r ∷ rs) (suc i) all = narrow_at rs i all.1

pub narrow_range : (facts : Facts) (s : ℕ) → AreNarrow facts → IsNarrow (range_at facts s)
unfolding range_at
narrow_range facts zero all = narrow_zero
narrow_range facts (suc s) all = narrow_at facts.ranges s all

pub low_fits : (facts : Facts) (s : ℕ) → AreNarrow facts → FitsSigned w32 (range_at facts s).lo
low_fits facts s all = let is = narrow_range facts s all in omega (arith, ints, is.least, is.ordered, is.greatest)

pub high_fits : (facts : Facts) (s : ℕ) → AreNarrow facts → FitsSigned w32 (range_at facts s).hi
high_fits facts s all = let is = narrow_range facts s all in omega (arith, ints, is.least, is.ordered, is.greatest)

pub ruleset narrow_ends = (low_fits, high_fits)

pub lesser_cut : (a b : ℤ) → IsCut a → IsCut b → IsCut (int_min a b)
lesser_cut a b first second = record {
  least = omega (arith, ints, clamps, first.least, second.least);
  greatest = omega (arith, ints, clamps, first.greatest);
}

pub greater_cut : (a b : ℤ) → IsCut a → IsCut b → IsCut (int_max a b)
greater_cut a b first second = record {
  least = omega (arith, ints, clamps, first.least);
  greatest = omega (arith, ints, clamps, first.greatest, second.greatest);
}

pub ruleset cuts = (lesser_cut, greater_cut)

near_end : (n k : ℤ) → IsNear n → negsuc 4294967295 ≤ℤ k → k ≤ℤ pos 4294967296 → IsEnd (n +ℤ k)
near_end n k near low high = record { least = omega (arith, ints, near.least, low); greatest = omega (arith, ints, near.greatest, high) }

pub small : (facts : Facts) (e : Expr) (r q : Span) → r ≡ span_at facts e.sym → AreNear r → IsThere facts e → q ≡ range_of facts e → IsSmall q
unfolding range_of shifted
small facts e r q left near there is =
    let low : IsNear (span_at facts e.sym).lo = rw left at near.low in
    let high : IsNear (span_at facts e.sym).hi = rw left at near.high in
    rw is (record {
      low = near_end (span_at facts e.sym).lo e.k low there.least there.greatest;
      high = near_end (span_at facts e.sym).hi e.k high there.least there.greatest;
    })

-- ---- constants

zero_low : (facts : Facts) → AreBounds facts.bounds → (span_at facts 0).lo ≡ pos 0
unfolding span_at met range_at
zero_low facts form = rw (none_to_zero facts.bounds form) refl

pub only_zero : (facts : Facts) (s : ℕ) → AreBounds facts.bounds → s ≡ 0 → met (pos 0) (pos 0) None ≡ span_at facts s
unfolding span_at range_at
only_zero facts s form none =
    let zero : met (pos 0) (pos 0) None ≡ span_at facts 0 =
    rw (none_to_zero facts.bounds form, none_from_zero facts.bounds form) refl in
    rw none zero

pub ruleset no_bounds = (only_zero)

-- the numbers of a constant begin with it
pub constant_low : (facts : Facts) (e : Expr) (r : Span) → r ≡ range_of facts e → AreBounds facts.bounds → e.sym ≡ 0 → r.lo ≡ e.k
unfolding range_of shifted
constant_low facts e r is form none =
    let low : (span_at facts e.sym).lo ≡ pos 0 = ap (λ s. (span_at facts s).lo) none ∙ zero_low facts form in
    rw is (omega (arith, ints, low))

-- and a constant that divides is not 0
pub divides : (e : Expr) (q : Span) → (e.sym ≡ 0 → q.lo ≡ e.k) → (e.sym ≡ 0 → e.k ≢ pos 0) → (e.sym == 0) ≡ true → q.lo ≢ pos 0
divides e q low owed constant = λ zero. owed (eqb-true e.sym 0 constant) (sym (low (eqb-true e.sym 0 constant)) ∙ zero)

-- ---- expressions that are there

pub negated_there : (facts : Facts) (e : Expr) → IsThere facts e → IsThere facts (negated e)
negated_there facts e there = record {
  there = there.there;
  least = omega (arith, ints, there.greatest);
  greatest = omega (arith, ints, there.least);
}

-- ---- the difference of two expressions of one symbol

pub is_same : (m n : ℕ) → m ≡ n → (m == n) ≡ true
is_same m n same = grind (arith, nat_tests, same)

is_other : (m n : ℕ) → m ≢ n → (m == n) ≡ false
is_other m n other = grind (arith, nat_tests, other)

pub difference_known : (facts : Facts) (a b e : Expr) → b.sym ≢ 0 → a.sym ≡ b.sym → e ≡ constant (wrap32 (a.k -ℤ b.k)) → Is e ≡ difference facts a b
unfolding difference
difference_known facts a b e symbol same is = rw (is_other b.sym 0 symbol, is_same a.sym b.sym same, is) refl
