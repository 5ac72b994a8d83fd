-- Ranges of int32 that lose numbers are ranges of int32.
use Rattle.std.proofs.Common.{◌≡◌, ℤ, pos, ◌+ℤ◌, ◌-ℤ◌, ◌≤ℤ◌, ◌<ℤ◌, true, false, ◌||◌, int_lt, int_le, int_eq, Option, Some, None, arith}
use Rattle.std.proofs.lemmas.Bool.{cond_both}
use Rattle.std.proofs.lemmas.Bool.Decides.{Decides-int_eq}
use Rattle.std.proofs.lemmas.Int.{ints}
use Rattle.cil_model.specs.Arithmetic.{LEAST, GREATEST}
use Rattle.interval_domain.specs.Interval.{Interval, interval, between, raised, lowered, lost, without}
use Rattle.number_spans.specs.Stored.{IsInner, IsNarrow, range_without}

-- The range, if there is one, is one of int32.
abbrev pub SomeNarrow : Option Interval → Type 0
SomeNarrow None = Unit {0}
SomeNarrow (Some r) = IsNarrow r

narrow : (lo hi : ℤ) (hole : Option ℤ) → LEAST ≤ℤ lo → lo ≤ℤ hi → hi ≤ℤ GREATEST → IsInner lo hi hole → IsNarrow (interval lo hi hole)
narrow lo hi hole least ordered greatest inner = record { least = least; ordered = ordered; greatest = greatest; inner = inner }

raised_narrow : (lo hi : ℤ) (hole : Option ℤ) → LEAST ≤ℤ lo → lo ≤ℤ hi → hi ≤ℤ GREATEST → IsInner (lo -ℤ pos 1) hi hole → IsNarrow (raised lo hi hole)
unfolding raised
raised_narrow lo hi None least ordered greatest inner = narrow lo hi None least ordered greatest tt
raised_narrow lo hi (Some h) least ordered greatest inner = cond_both (int_eq h lo) _ _ (λ r. IsNarrow r)
    (λ e. let is = (Decides-int_eq h lo).0 e in narrow _ hi None (omega (arith, ints, least)) (omega (arith, ints, is, inner.1)) greatest tt)
    (λ e. narrow lo hi (Some h) least ordered greatest (grind (arith, ints, inner.0, e, (Decides-int_eq h lo).1), inner.1))

lowered_narrow : (lo hi : ℤ) (hole : Option ℤ) → LEAST ≤ℤ lo → lo ≤ℤ hi → hi ≤ℤ GREATEST → IsInner lo (hi +ℤ pos 1) hole → IsNarrow (lowered lo hi hole)
unfolding lowered
lowered_narrow lo hi None least ordered greatest inner = narrow lo hi None least ordered greatest tt
lowered_narrow lo hi (Some h) least ordered greatest inner = cond_both (int_eq h hi) _ _ (λ r. IsNarrow r)
    (λ e. let is = (Decides-int_eq h hi).0 e in narrow lo _ None least (omega (arith, ints, is, inner.0)) (omega (arith, ints, greatest)) tt)
    (λ e. narrow lo hi (Some h) least ordered greatest (inner.0, grind (arith, ints, inner.1, e, (Decides-int_eq h hi).1)))

inner_up : (lo hi : ℤ) (hole : Option ℤ) → IsInner lo hi hole → IsInner ((lo +ℤ pos 1) -ℤ pos 1) hi hole
inner_up lo hi None inner = tt
inner_up lo hi (Some h) inner = (omega (arith, ints, inner.0), inner.1)

inner_down : (lo hi : ℤ) (hole : Option ℤ) → IsInner lo hi hole → IsInner lo ((hi -ℤ pos 1) +ℤ pos 1) hole
inner_down lo hi None inner = tt
inner_down lo hi (Some h) inner = (inner.0, omega (arith, ints, inner.1))

lost_narrow : (r : Interval) (n : ℤ) → IsNarrow r → r.lo ≤ℤ n → n ≤ℤ r.hi → r.lo <ℤ r.hi → IsNarrow (lost r n)
unfolding lost
lost_narrow r n is above below more = cond_both (int_eq n r.lo) _ _ (λ q. IsNarrow q)
    (λ e. raised_narrow _ r.hi r.hole (omega (arith, ints, is.least)) (omega (arith, ints, more)) is.greatest (inner_up r.lo r.hi r.hole is.inner))
    (λ e. cond_both (int_eq n r.hi) _ _ (λ q. IsNarrow q)
    (λ f. lowered_narrow r.lo _ r.hole is.least (omega (arith, ints, more)) (omega (arith, ints, is.greatest)) (inner_down r.lo r.hi r.hole is.inner))
    (λ f. narrow r.lo r.hi (Some n) is.least is.ordered is.greatest
    (grind (arith, ints, above, e, (Decides-int_eq n r.lo).1), grind (arith, ints, below, f, (Decides-int_eq n r.hi).1))))

inside : (r : Interval) (n : ℤ) → (int_lt n r.lo || int_lt r.hi n) ≡ false → (r.lo ≤ℤ n) × (n ≤ℤ r.hi)
inside r n e = (grind (arith, ints, e), grind (arith, ints, e))

more_than_one : (lo hi : ℤ) → lo ≤ℤ hi → int_eq lo hi ≡ false → lo <ℤ hi
more_than_one lo hi h e = grind (arith, ints, h, e, (Decides-int_eq lo hi).1)

pub without_narrow : (r : Interval) (n : ℤ) → IsNarrow r → SomeNarrow (without r n)
unfolding without
without_narrow r n is = cond_both (int_lt n r.lo || int_lt r.hi n) _ _ SomeNarrow
    (λ e. is)
    (λ e. cond_both (int_eq r.lo r.hi) _ _ SomeNarrow
    (λ f. tt)
    (λ f. let parts = inside r n e in lost_narrow r n is parts.0 parts.1 (more_than_one r.lo r.hi is.ordered f)))

in_order : (lo hi : ℤ) → int_le lo hi ≡ true → lo ≤ℤ hi
in_order lo hi e = omega (arith, ints)

pub range_without_narrow : (lo hi : ℤ) (hole : Option ℤ) → LEAST ≤ℤ lo → hi ≤ℤ GREATEST → SomeNarrow (range_without lo hi hole)
unfolding range_without
range_without_narrow lo hi None least greatest = cond_both (int_le lo hi) _ _ SomeNarrow
    (λ e. narrow lo hi None least (in_order lo hi e) greatest tt) (λ e. tt)
range_without_narrow lo hi (Some h) least greatest = cond_both (int_le lo hi) _ _ SomeNarrow
    (λ e. without_narrow (between lo hi) h (narrow lo hi None least (in_order lo hi e) greatest tt)) (λ e. tt)
