-- What becomes of two spans has what either has, and what becomes of two gaps is at most each of them.
use Rattle.std.proofs.Common.{◌≡◌, ◌≢◌, ℤ, ◌≤ℤ◌, Option, Some, None, FitsSigned, w32, int_lt, refl, arith}
use Rattle.std.specs.Option.{option_or}
use Rattle.std.proofs.lemmas.Bool.{cond_both}
use Rattle.std.proofs.lemmas.Int.{ints, clamps}
use Rattle.interval_domain.specs.Joins.{floor_of, ceiling_of, lower_end, upper_end}
use Rattle.number_spans.specs.Spans.{Has, excludes}
use Rattle.number_spans.specs.declared.span.Span.{Span}
use Rattle.number_spans.proofs.ComparingLaws.{excluded_apart}
use Rattle.merged_numbers.specs.declared.rule.Rule.{Rule}
use Rattle.merged_numbers.specs.declared.rule.Rule.TheVariants.{Join, Widening}
use Rattle.merged_numbers.specs.Spans.{kept_hole, hull, widened, span_by, lesser, steady, gap_by}

-- ---- holes

some_same : (k l : ℤ) → Some k ≡ Some l → k ≡ l
some_same k l is = cc

kept_own : (hole : Option ℤ) (other : Span) (n : ℤ) → hole ≢ Some n → kept_hole hole other ≢ Some n
kept_own None other n apart = apart
kept_own (Some k) other n apart = cond_both (excludes other k) (Some k) None (λ o. o ≢ Some n) (λ e. apart) (λ e is. grind arith)

kept_other : (hole : Option ℤ) (other : Span) (n : ℤ) → Has other n → kept_hole hole other ≢ Some n
kept_other None other n has = λ is. grind arith
kept_other (Some k) other n has = cond_both (excludes other k) (Some k) None (λ o. o ≢ Some n)
    (λ e is. excluded_apart other k n has e (some_same k n is)) (λ e is. grind arith)

either_apart : (a b : Option ℤ) (n : ℤ) → a ≢ Some n → b ≢ Some n → option_or a b ≢ Some n
either_apart None b n first second = second
either_apart (Some k) b n first second = first

-- ---- spans

hull_first : (a b : Span) (n : ℤ) → Has a n → Has (hull a b) n
unfolding hull
hull_first a b n has = record {
  above = omega (arith, ints, clamps, has.above);
  below = omega (arith, ints, clamps, has.below);
  no_hole = either_apart (kept_hole a.hole b) (kept_hole b.hole a) n (kept_own a.hole b n has.no_hole) (kept_other b.hole a n has);
}

hull_second : (a b : Span) (n : ℤ) → Has b n → Has (hull a b) n
unfolding hull
hull_second a b n has = record {
  above = omega (arith, ints, clamps, has.above);
  below = omega (arith, ints, clamps, has.below);
  no_hole = either_apart (kept_hole a.hole b) (kept_hole b.hole a) n (kept_other a.hole b n has) (kept_own b.hole a n has.no_hole);
}

-- an end that settles lies beyond each int32 on its side
floor_below : (a n : ℤ) → a ≤ℤ n → FitsSigned w32 n → floor_of a ≤ℤ n
unfolding floor_of
floor_below a n h fits = grind (arith, ints)

ceiling_above : (a n : ℤ) → n ≤ℤ a → FitsSigned w32 n → n ≤ℤ ceiling_of a
unfolding ceiling_of
ceiling_above a n h fits = grind (arith, ints)

lower_first : (a b n : ℤ) → a ≤ℤ n → FitsSigned w32 n → lower_end a b ≤ℤ n
unfolding lower_end
lower_first a b n h fits = cond_both (int_lt b a) (floor_of b) a (λ e. e ≤ℤ n) (λ e. floor_below b n (grind (arith, ints)) fits) (λ e. h)

lower_second : (a b n : ℤ) → b ≤ℤ n → FitsSigned w32 n → lower_end a b ≤ℤ n
unfolding lower_end
lower_second a b n h fits = cond_both (int_lt b a) (floor_of b) a (λ e. e ≤ℤ n) (λ e. floor_below b n h fits) (λ e. grind (arith, ints))

upper_first : (a b n : ℤ) → n ≤ℤ a → FitsSigned w32 n → n ≤ℤ upper_end a b
unfolding upper_end
upper_first a b n h fits = cond_both (int_lt a b) (ceiling_of b) a (λ e. n ≤ℤ e) (λ e. ceiling_above b n (grind (arith, ints)) fits) (λ e. h)

upper_second : (a b n : ℤ) → n ≤ℤ b → FitsSigned w32 n → n ≤ℤ upper_end a b
unfolding upper_end
upper_second a b n h fits = cond_both (int_lt a b) (ceiling_of b) a (λ e. n ≤ℤ e) (λ e. ceiling_above b n h fits) (λ e. grind (arith, ints))

widened_first : (a b : Span) (n : ℤ) → FitsSigned w32 n → Has a n → Has (widened a b) n
unfolding widened
widened_first a b n fits has = record {
  above = lower_first a.lo b.lo n has.above fits;
  below = upper_first a.hi b.hi n has.below fits;
  no_hole = kept_own a.hole b n has.no_hole;
}

widened_second : (a b : Span) (n : ℤ) → FitsSigned w32 n → Has b n → Has (widened a b) n
unfolding widened
widened_second a b n fits has = record {
  above = lower_second a.lo b.lo n has.above fits;
  below = upper_second a.hi b.hi n has.below fits;
  no_hole = kept_other a.hole b n has;
}

-- What becomes of two spans has each int32 that one of them has.
pub span_first : (rule : Rule) (a b : Span) (n : ℤ) → FitsSigned w32 n → Has a n → Has (span_by rule a b) n
span_first Join a b n fits has = hull_first a b n has
span_first Widening a b n fits has = widened_first a b n fits has

pub span_second : (rule : Rule) (a b : Span) (n : ℤ) → FitsSigned w32 n → Has b n → Has (span_by rule a b) n
span_second Join a b n fits has = hull_second a b n has
span_second Widening a b n fits has = widened_second a b n fits has

-- ---- gaps

-- A gap is known, and is so much at least.
pub record IsAtLeast (a : Option ℤ) (k : ℤ) : Type 0 where
  pub amount : ℤ
  pub is : a ≡ Some amount
  pub least : k ≤ℤ amount

lesser_both : (a b k : ℤ) → lesser (Some a) (Some b) ≡ Some k → IsAtLeast (Some a) k × IsAtLeast (Some b) k
lesser_both a b k = cond_both (int_lt b a) (Some b) (Some a) (λ o. o ≡ Some k → IsAtLeast (Some a) k × IsAtLeast (Some b) k)
    (λ e is.
    let same : b ≡ k = some_same b k is in
    (record { amount = a; is = refl; least = grind (arith, ints) }, record { amount = b; is = refl; least = omega (arith, ints, same) }))
    (λ e is.
    let same : a ≡ k = some_same a k is in
    (record { amount = a; is = refl; least = omega (arith, ints, same) }, record { amount = b; is = refl; least = grind (arith, ints) }))

steady_both : (a b k : ℤ) → steady (Some a) (Some b) ≡ Some k → IsAtLeast (Some a) k × IsAtLeast (Some b) k
steady_both a b k = cond_both (int_lt b a) None (Some a) (λ o. o ≡ Some k → IsAtLeast (Some a) k × IsAtLeast (Some b) k)
    (λ e is. absurd cc)
    (λ e is.
    let same : a ≡ k = some_same a k is in
    (record { amount = a; is = refl; least = omega (arith, ints, same) }, record { amount = b; is = refl; least = grind (arith, ints) }))

-- What becomes of two gaps is no more than each of them.
pub gap_both : (rule : Rule) (a b : Option ℤ) (k : ℤ) → gap_by rule a b ≡ Some k → IsAtLeast a k × IsAtLeast b k
gap_both Join None b k is = absurd cc
gap_both Join (Some a) None k is = absurd cc
gap_both Join (Some a) (Some b) k is = lesser_both a b k is
gap_both Widening None b k is = absurd cc
gap_both Widening (Some a) None k is = absurd cc
gap_both Widening (Some a) (Some b) k is = steady_both a b k is
