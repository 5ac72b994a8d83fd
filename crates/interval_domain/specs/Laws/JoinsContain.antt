-- What hulls and widening have, and what containment of ranges gives.
use Rattle.std.proofs.Common.{◌≡◌, ◌≢◌, ◌↔◌, ℤ, ◌≤ℤ◌, Bool, true, false, ◌&&◌, int_lt, int_le, Option, Some, None, refl, sym, ◌∙◌, w32, w64, FitsSigned, arith}
use Rattle.std.proofs.lemmas.Int.{ints, clamps}
use Rattle.std.proofs.lemmas.Bool.{cond_both, and_parts}
use Rattle.std.specs.Option.{option_or}
use Rattle.std.specs.Int.{int_min, int_max}
use Rattle.interval_domain.specs.Interval.{Interval, Contains, IsRange, one, holed, excludes}
use Rattle.interval_domain.specs.Joins.{full, kept_hole, hull, floor_of, ceiling_of, lower_end, upper_end, widened, excludes_hole, within}
use Rattle.interval_domain.specs.Laws.Holes.{has_excludes, inner_above, inner_apart, inner_below, not_excluded}

-- the range of one number, and of all int32
pub one_contains : (n : ℤ) → FitsSigned w64 n → Contains (one n) n
one_contains n fits = record { fits = fits; above = omega (arith, ints); below = omega (arith, ints); no_hole = λ is. grind arith }

pub full_contains : (n : ℤ) → FitsSigned w32 n → Contains full n
full_contains n fits = record { fits = omega (arith, ints); above = omega (arith, ints); below = omega (arith, ints); no_hole = λ is. grind arith }

holed_contains : (lo hi n : ℤ) (hole : Option ℤ) → FitsSigned w64 n → lo ≤ℤ n → n ≤ℤ hi → hole ≢ Some n → Contains (holed lo hi hole) n
unfolding holed
holed_contains lo hi n hole fits above below apart = record { fits = fits; above = above; below = below; no_hole = inner_apart lo hi n hole apart }

-- a hole that is kept is no number of the range that has it, and none of the other
kept_own : (hole : Option ℤ) (other : Interval) (n : ℤ) → hole ≢ Some n → kept_hole hole other ≢ Some n
unfolding kept_hole
kept_own None other n apart = apart
kept_own (Some k) other n apart = cond_both (excludes other k) (Some k) None (λ o. o ≢ Some n) (λ e. apart) (λ e is. grind arith)

kept_other : (hole : Option ℤ) (other : Interval) (n : ℤ) → Contains other n → kept_hole hole other ≢ Some n
unfolding kept_hole
kept_other None other n has = λ is. grind arith
kept_other (Some k) other n has = cond_both (excludes other k) (Some k) None (λ o. o ≢ Some n) (λ e is. grind (arith, has_excludes other n has)) (λ e is. grind arith)

either_apart : (a b : Option ℤ) (n : ℤ) → a ≢ Some n → b ≢ Some n → option_or a b ≢ Some n
either_apart None b n first second = second
either_apart (Some k) b n first second = first

-- the hull has what either range has
pub hull_left : (a b : Interval) (n : ℤ) → Contains a n → Contains (hull a b) n
unfolding hull
hull_left a b n has =
    holed_contains (int_min a.lo b.lo) (int_max a.hi b.hi) n _ has.fits (omega (arith, ints, clamps, has.above)) (omega (arith, ints, clamps, has.below))
    (either_apart _ _ n (kept_own a.hole b n has.no_hole) (kept_other b.hole a n has))

pub hull_right : (a b : Interval) (n : ℤ) → Contains b n → Contains (hull a b) n
unfolding hull
hull_right a b n has =
    holed_contains (int_min a.lo b.lo) (int_max a.hi b.hi) n _ has.fits (omega (arith, ints, clamps, has.above)) (omega (arith, ints, clamps, has.below))
    (either_apart _ _ n (kept_other a.hole b n has) (kept_own b.hole a n has.no_hole))

-- an end that settles lies beyond each number of 64 bits on its side
floor_below : (a n : ℤ) → a ≤ℤ n → FitsSigned w64 n → floor_of a ≤ℤ n
unfolding floor_of
floor_below a n h fits = grind (arith, ints)

ceiling_above : (a n : ℤ) → n ≤ℤ a → FitsSigned w64 n → n ≤ℤ ceiling_of a
unfolding ceiling_of
ceiling_above a n h fits = grind (arith, ints)

lower_first : (a b n : ℤ) → a ≤ℤ n → FitsSigned w64 n → lower_end a b ≤ℤ n
unfolding lower_end
lower_first a b n h fits = cond_both (int_lt b a) (floor_of b) a (λ e. e ≤ℤ n) (λ e. floor_below b n (grind (arith, ints)) fits) (λ e. h)

lower_second : (a b n : ℤ) → b ≤ℤ n → FitsSigned w64 n → lower_end a b ≤ℤ n
unfolding lower_end
lower_second a b n h fits = cond_both (int_lt b a) (floor_of b) a (λ e. e ≤ℤ n) (λ e. floor_below b n h fits) (λ e. grind (arith, ints))

upper_first : (a b n : ℤ) → n ≤ℤ a → FitsSigned w64 n → n ≤ℤ upper_end a b
unfolding upper_end
upper_first a b n h fits = cond_both (int_lt a b) (ceiling_of b) a (λ e. n ≤ℤ e) (λ e. ceiling_above b n (grind (arith, ints)) fits) (λ e. h)

upper_second : (a b n : ℤ) → n ≤ℤ b → FitsSigned w64 n → n ≤ℤ upper_end a b
unfolding upper_end
upper_second a b n h fits = cond_both (int_lt a b) (ceiling_of b) a (λ e. n ≤ℤ e) (λ e. ceiling_above b n h fits) (λ e. grind (arith, ints))

-- the widened range has what either range has
pub widened_left : (a b : Interval) (n : ℤ) → Contains a n → Contains (widened a b) n
unfolding widened
widened_left a b n has =
    holed_contains _ _ n _ has.fits (lower_first a.lo b.lo n has.above has.fits) (upper_first a.hi b.hi n has.below has.fits) (kept_own a.hole b n has.no_hole)

pub widened_right : (a b : Interval) (n : ℤ) → Contains b n → Contains (widened a b) n
unfolding widened
widened_right a b n has =
    holed_contains _ _ n _ has.fits (lower_second a.lo b.lo n has.above has.fits) (upper_second a.hi b.hi n has.below has.fits) (kept_other a.hole b n has)

excluded_apart : (a : Interval) (hole : Option ℤ) (n : ℤ) → excludes_hole a hole ≡ true → Contains a n → hole ≢ Some n
unfolding excludes_hole
excluded_apart a None n excluded has = λ is. grind arith
excluded_apart a (Some k) n excluded has = λ is. grind (arith, has_excludes a n has)

-- a range that is within another has numbers of the other alone
pub within_contains : (a b : Interval) (n : ℤ) → within a b ≡ true → Contains a n → Contains b n
unfolding within
within_contains a b n inside has =
    let parts = and_parts (int_le b.lo a.lo && int_le a.hi b.hi) _ inside in
    let ends = and_parts (int_le b.lo a.lo) _ parts.0 in
    record {
      fits = has.fits;
      above = grind (arith, ints, ends.0, has.above);
      below = grind (arith, ints, ends.1, has.below);
      no_hole = excluded_apart a b.hole n parts.1 has;
    }

-- a range has its ends
pub lowest_contained : (r : Interval) → IsRange r.lo r.hi r.hole → FitsSigned w64 r.lo → Contains r r.lo
lowest_contained r form fits =
    record { fits = fits; above = omega (arith, ints); below = form.ordered; no_hole = inner_above r.lo r.hi r.hole form.inner }

pub highest_contained : (r : Interval) → IsRange r.lo r.hi r.hole → FitsSigned w64 r.hi → Contains r r.hi
highest_contained r form fits =
    record { fits = fits; above = form.ordered; below = omega (arith, ints); no_hole = inner_below r.lo r.hi r.hole form.inner }

-- where no number of a range is the hole, the range excludes the hole
hole_excluded : (a : Interval) (hole : Option ℤ) → FitsSigned w64 a.lo → FitsSigned w64 a.hi
    → ((n : ℤ) → Contains a n → hole ≢ Some n) → excludes_hole a hole ≡ true
unfolding excludes_hole
hole_excluded a None low high apart = refl
hole_excluded a (Some k) low high apart = decided (excludes a k) refl
  where
    decided : (b : Bool) → excludes a k ≡ b → b ≡ true
    decided true is = refl
    decided false is = elim (apart k (not_excluded a k low high is) refl) [ ]

-- a range whose numbers are all numbers of another one is within that one
pub within_where_all : (a b : Interval) → IsRange a.lo a.hi a.hole → FitsSigned w64 a.lo → FitsSigned w64 a.hi
    → ((n : ℤ) → Contains a n → Contains b n) → within a b ≡ true
unfolding within
within_where_all a b form low high all =
    let lowest = (all a.lo (lowest_contained a form low)).above in
    let highest = (all a.hi (highest_contained a form high)).below in
    let excluded = hole_excluded a b.hole low high (λ n has. (all n has).no_hole) in
    grind (arith, ints, lowest, highest, excluded)

-- so containment is told exactly
pub tells_within : (a b : Interval) (told : Bool) → IsRange a.lo a.hi a.hole → FitsSigned w64 a.lo → FitsSigned w64 a.hi
    → told ≡ within a b → (told ≡ true) ↔ ((n : ℤ) → Contains a n → Contains b n)
tells_within a b told form low high is =
    (λ inside n has. within_contains a b n (sym is ∙ inside) has, λ all. is ∙ within_where_all a b form low high all)
