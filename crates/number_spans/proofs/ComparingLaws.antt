-- What spans say of the order of their numbers.
use Rattle.std.proofs.Common.{◌≡◌, ◌≢◌, ℤ, pos, ◌≤ℤ◌, ◌<ℤ◌, Bool, true, false, ◌&&◌, ◌||◌, int_lt, int_eq, Option, Some, None, ap, ⊎_elim, FitsSigned, w32, arith}
use Rattle.std.specs.Prelude.{nat_lt}
use Rattle.std.proofs.lemmas.Bool.{and_parts, or_cases, false_from_ne_true, true_from_ne_false}
use Rattle.std.proofs.lemmas.Bool.Decides.{Decides-int_eq}
use Rattle.std.proofs.lemmas.Int.{ints}
use Rattle.cil_model.specs.Arithmetic.{unsigned, truth}
use Rattle.interval_domain.specs.Interval.{between}
use Rattle.number_spans.specs.Spans.{Has, is_hole, is_one, excludes, one_excluded}
use Rattle.number_spans.specs.Stored.{Allows}
use Rattle.number_spans.specs.declared.span.Span.{Span}

pub lt_true : (m n : ℤ) → m <ℤ n → int_lt m n ≡ true
lt_true m n h = true_from_ne_false (int_lt m n) (λ e. omega (arith, ints))

pub lt_false : (m n : ℤ) → n ≤ℤ m → int_lt m n ≡ false
lt_false m n h = false_from_ne_true (int_lt m n) (λ e. grind (arith, ints, h, e))

-- a range excludes none of its numbers
is_hole-apart : (hole : Option ℤ) (n : ℤ) → hole ≢ Some n → is_hole hole n ≡ true → ⊥
is_hole-apart None n apart is = grind (arith, is)
is_hole-apart (Some h) n apart is = apart (ap Some ((Decides-int_eq h n).0 is))

pub excluded_apart : (r : Span) (k n : ℤ) → Has r n → excludes r k ≡ true → k ≢ n
unfolding excludes
excluded_apart r k n has e = λ is. ⊎_elim
    (λ low. grind (arith, ints, low, is, has.above))
    (λ other. ⊎_elim (λ high. grind (arith, ints, high, is, has.below)) (λ hole. is_hole-apart r.hole n has.no_hole (rw (← is) hole)) (or_cases (int_lt r.hi k) _ other))
    (or_cases (int_lt k r.lo) _ e)

pub one_apart : (r q : Span) (m n : ℤ) → Has r m → Has q n → one_excluded r q ≡ true → m ≢ n
one_apart r q m n first second e =
    let parts = and_parts (is_one r) _ e in
    let one = (Decides-int_eq r.lo r.hi).0 parts.0 in
    let other = excluded_apart q r.lo n second parts.1 in
    λ is. other (omega (arith, ints, one, first.above, first.below, is))

-- numbers that are not negative compare as they are
pub plain_less : (m n : ℤ) → FitsSigned w32 m → FitsSigned w32 n → pos 0 ≤ℤ m → pos 0 ≤ℤ n → nat_lt (unsigned m) (unsigned n) ≡ int_lt m n
plain_less m n first second low high = grind (arith, ints, first, second, low, high)

-- a truth value is 0 or 1
pub truth_allowed : (b : Bool) → Allows (between (pos 0) (pos 1)) (truth b)
truth_allowed true = record { above = omega (arith, ints); below = omega (arith, ints); no_hole = λ is. grind arith }
truth_allowed false = record { above = omega (arith, ints); below = omega (arith, ints); no_hole = λ is. grind arith }
