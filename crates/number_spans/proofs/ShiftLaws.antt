-- What is known of shifts is true of them.
use Rattle.std.proofs.Common.{◌≡◌, ℕ, ◌==◌, ◌-◌, ◌/◌, ◌^◌, ◌<◌, ◌≤◌, ℤ, pos, negsuc, ◌≤ℤ◌, true, false, unsigned_abs, FitsSigned, sym, ap, ◌∙◌, w32, to_z-of_z, arith}
use Rattle.std.specs.Int.{int_min, int_max, int_shr}
use Rattle.std.proofs.lemmas.Bool.{cond_both}
use Rattle.std.proofs.lemmas.Int.{ints, clamps, to_z_pos}
use Rattle.std.proofs.lemmas.Nat.{le-div, mul-le, pow_pos, shr_le}
use Rattle.std.proofs.lemmas.Grind.{common_steps}
use Rattle.std.proofs.Math.Nat.{div-mul-le_self, pow-le-pow_right}
use Rattle.domain_api.specs.declared.expr.Expr.{Expr}
use Rattle.cil_model.specs.Arithmetic.{signed, unsigned}
use Rattle.number_spans.specs.Shifts.{shifted_right}
use Rattle.number_spans.specs.Spans.{Has, between}
use Rattle.number_spans.specs.declared.span.Span.{Span}
use Rattle.number_spans.proofs.Wrapping.{between_has, bits_of}

places_rise : (a b d : ℕ) → 0 < d → a ≤ b → a / d ≤ b / d
places_rise a b d some h = le-div (a / d) b d some (omega (arith, h, div-mul-le_self a d))

-- shifts rise with the number
shr_rises : (x y : ℤ) (n : ℕ) → x ≤ℤ y → int_shr x n ≤ℤ int_shr y n
shr_rises (pos a) (pos b) n h = let le = places_rise a b (2 ^ n) (pow_pos n) (omega (arith, ints, h)) in omega (arith, ints, le)
shr_rises (pos a) (negsuc b) n h = omega (arith, ints, h)
shr_rises (negsuc a) (pos b) n h = omega (arith, ints)
shr_rises (negsuc a) (negsuc b) n h = let le = places_rise b a (2 ^ n) (pow_pos n) (omega (arith, ints, h)) in omega (arith, ints, le)

-- they come nearer to 0, or to -1
shr_above : (lo x : ℤ) (n : ℕ) → lo ≤ℤ x → int_min lo (pos 0) ≤ℤ int_shr x n
shr_above lo (pos a) n h = omega (arith, ints, clamps)
shr_above lo (negsuc a) n h = omega (arith, ints, clamps, h, shr_le a n)

shr_below : (hi x : ℤ) (n : ℕ) → x ≤ℤ hi → int_shr x n ≤ℤ int_max hi (negsuc 0)
shr_below hi (pos a) n h = omega (arith, ints, clamps, h, shr_le a n)
shr_below hi (negsuc a) n h = omega (arith, ints, clamps)

-- a number of a range, shifted by n places; a constant is the number of places itself
pub shifted_right_has : (r : Span) (b : Expr) (m n : ℤ) → Has r m → ((b.sym == 0) ≡ true → n ≡ b.k) → Has (shifted_right r b) (int_shr m (unsigned_abs n))
unfolding shifted_right
shifted_right_has r b m n has is = cond_both (b.sym == 0) _ _ (λ s. Has s (int_shr m (unsigned_abs n)))
    (λ e. rw (is e) (between_has _ _ _ (shr_rises r.lo m (unsigned_abs b.k) has.above) (shr_rises m r.hi (unsigned_abs b.k) has.below)))
    (λ e. between_has _ _ _ (shr_above r.lo m _ has.above) (shr_below r.hi m _ has.below))

-- ---- of unsigned numbers

pub plain_shift : (m : ℤ) (k : ℕ) → FitsSigned w32 m → pos 0 ≤ℤ m → signed (unsigned m / 2 ^ k) ≡ int_shr m k
plain_shift (negsuc a) k fits h = omega (arith, ints, h)
plain_shift (pos a) k fits h = to_z_pos w32 (a / 2 ^ k) (omega (arith, ints, fits, shr_le a k))

pub no_shift : (m : ℤ) (k : ℕ) → FitsSigned w32 m → k ≡ 0 → m ≡ signed (unsigned m / 2 ^ k)
no_shift m k fits is = rw is (sym (ap signed (by_one (unsigned m)) ∙ to_z-of_z fits))
  where
    by_one : (x : ℕ) → x / 2 ^ 0 ≡ x
    by_one x = omega arith

-- a number of 32 bits moved by one place and more has 31
halved : (x d : ℕ) → x < 4294967296 → 2 ≤ d → x / d < 2147483648
halved x d h two =
    let self = div-mul-le_self x d in
    let more = mul-le (x / d) 2 (x / d) d (omega arith) two in
    omega (arith, h, self, more)

pub places_has : (m : ℤ) (k : ℕ) → FitsSigned w32 m → 1 ≤ k → Has (between (pos 0) (pos ((2 ^ 32 - 1) / 2 ^ k))) (signed (unsigned m / 2 ^ k))
places_has m k fits some =
    let all : unsigned m < 4294967296 = omega (arith, ints, fits) in
    let two : 2 ^ 1 ≤ 2 ^ k = pow-le-pow_right (omega arith) some in
    let is = to_z_pos w32 (unsigned m / 2 ^ k) (halved (unsigned m) (2 ^ k) all (omega (arith, two))) in
    let le = places_rise (unsigned m) (2 ^ 32 - 1) (2 ^ k) (pow_pos k) (omega (arith, all)) in
    rw is (between_has _ _ _ (omega (arith, ints)) (omega (arith, ints, le)))

pub unsigned_fits : (m : ℤ) (k : ℕ) → FitsSigned w32 m → FitsSigned w32 (signed (unsigned m / 2 ^ k))
unsigned_fits m k fits =
    let le = shr_le (unsigned m) k in
    let all : unsigned m < 4294967296 = omega (arith, ints, fits) in
    bits_of (unsigned m / 2 ^ k) (omega (arith, le, all))

pub zero_places : (n : ℕ) → (n == 0) ≡ true → n ≡ 0
zero_places n e = grind (arith, common_steps, e)

pub some_places : (n : ℕ) → (n == 0) ≡ false → 1 ≤ n
some_places n e = grind (arith, common_steps, e)
