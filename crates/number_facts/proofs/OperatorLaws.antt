-- What is known of products, quotients, remainders, common bits and shifts is true of them.
use Rattle.std.proofs.Common.{◌≡◌, ◌≢◌, ℕ, zero, suc, ◌==◌, ◌/◌, ◌%◌, ◌^◌, ◌<◌, ◌≤◌, ℤ, pos, negsuc, ◌+ℤ◌, ◌*ℤ◌, ◌≤ℤ◌}
use Rattle.std.proofs.Common.{Bool, true, int_le, int_div, int_rem, unsigned_abs, refl, ◌∙◌, FitsSigned, w32, arith}
use Rattle.std.specs.Int.{int_bit_and, int_shr}
use Rattle.std.proofs.lemmas.Bool.{cond_both, and_parts, eqb-true}
use Rattle.std.proofs.lemmas.Bool.Decides.{Decides-int_eq}
use Rattle.std.proofs.lemmas.Int.{ints, clamps}
use Rattle.std.proofs.lemmas.Nat.{mod_below, mul-le}
use Rattle.std.proofs.Math.Nat.{div-le_self, div-mul-le_self, mod-le}
use lib.IntN.{*ℤ_comm}
use Rattle.domain_api.specs.declared.expr.Expr.{Expr}
use Rattle.cc_base.specs.Wrap.{wrap32}
use Rattle.cil_model.specs.Arithmetic.{signed, unsigned}
use Rattle.cil_model.specs.declared.instruction.BinOp.TheVariants as operators
use Rattle.symbolic_values.specs.Worth.{worth}
use Rattle.number_spans.specs.Bits.{common_bits}
use Rattle.number_spans.specs.Constants.{constant}
use Rattle.number_spans.specs.Product.{corners, is_the_constant}
use Rattle.number_spans.specs.Shifts.{shifted_right}
use Rattle.number_spans.specs.Spans.{Has, between, full, is_not_negative, shifted}
use Rattle.number_spans.proofs.BitLaws.{common_bits_have}
use Rattle.number_spans.proofs.OperatorLaws.{plain_quotient, plain_remainder, quotient_fits, remainder_fits}
use Rattle.number_spans.proofs.ProductLaws.{corners_have, by_one}
use Rattle.number_spans.proofs.QuotientLaws.{quotients_have}
use Rattle.number_spans.proofs.RemainderLaws.{remainders_have}
use Rattle.number_spans.proofs.ShiftLaws.{shifted_right_has, plain_shift, no_shift, places_has, unsigned_fits}
use Rattle.number_spans.proofs.ShiftLaws.{zero_places, some_places}
use Rattle.number_spans.proofs.Wrapping.{between_has, full_has, wrapped_has}
use Rattle.number_facts.specs.Arith as rule
use Rattle.number_facts.specs.Ends.{range_of, span_at}
use Rattle.number_facts.specs.Facts.{Facts, IsNamed, range_at}
use Rattle.number_facts.specs.Laws.Allowing.{AllowsNumbers}
use Rattle.number_facts.proofs.Knowing.{range_has, constant_worth, not_negative}
use Rattle.number_facts.proofs.ResultKeeping.{AreTrueOf, Covers, no_more_true, true_of_same, where_true}
use Rattle.number_facts.proofs.ResultNames.{all_both, zero_named}
use Rattle.number_facts.proofs.NearRanges.{span_above}

-- ---- products

the_constant : (facts : Facts) (number : ℕ → ℤ) (e : Expr) (k : ℤ) → AllowsNumbers facts number
    → is_the_constant e k ≡ true → worth number e ≡ k
the_constant facts number e k allowed is =
    let parts = and_parts (e.sym == 0) _ is in
    constant_worth facts number e allowed parts.0 ∙ (Decides-int_eq e.k k).0 parts.1

pub product_covers : (facts : Facts) (number : ℕ → ℤ) (a b : Expr) → AllowsNumbers facts number → IsNamed facts a
    → IsNamed facts b → FitsSigned w32 (worth number a)
    → (is_the_constant a (pos 1) ≡ true → FitsSigned w32 (worth number b))
    → Covers number (rule.product facts a b) (wrap32 (worth number a *ℤ worth number b))
unfolding rule.product
product_covers facts number a b allowed first second one other =
    cond_both (is_the_constant b (pos 1)) _ _ (λ o. Covers number o (wrap32 (worth number a *ℤ worth number b)))
    (λ e. by_one (worth number a) (worth number b) one (the_constant facts number b (pos 1) allowed e))
    (λ e. cond_both (is_the_constant a (pos 1)) _ _ (λ o. Covers number o (wrap32 (worth number a *ℤ worth number b)))
    (λ f. rw (*ℤ_comm (worth number a) (worth number b))
    (by_one (worth number b) (worth number a) (other f) (the_constant facts number a (pos 1) allowed f)))
    (λ f.
    let low = range_has facts number a allowed first in
    let high = range_has facts number b allowed second in
    let product = corners_have (range_of facts a) (range_of facts b) _ _ low high in
    wrapped_has (corners (range_of facts a) (range_of facts b)) _ product.above product.below))

pub shifted_left_covers : (facts : Facts) (number : ℕ → ℤ) (a b : Expr) → AllowsNumbers facts number → IsNamed facts a
    → FitsSigned w32 (worth number a)
    → FitsSigned w32 (wrap32 (worth number a *ℤ pos (2 ^ unsigned_abs (worth number b))))
    → ((b.sym == 0) ≡ true → is_the_constant a (pos 1) ≡ true → ⊥)
    → Covers number (rule.shifted_left facts a b) (wrap32 (worth number a *ℤ pos (2 ^ unsigned_abs (worth number b))))
unfolding rule.shifted_left
shifted_left_covers facts number a b allowed first one fits apart =
    cond_both (b.sym == 0) _ _
    (λ o. Covers number o (wrap32 (worth number a *ℤ pos (2 ^ unsigned_abs (worth number b)))))
    (λ e.
    let power = constant (pos (2 ^ unsigned_abs b.k)) in
    rw (constant_worth facts number b allowed e) (rw (constant_worth facts number power allowed refl) at
    (product_covers facts number a power allowed first (zero_named facts) one (λ f. elim (apart e f) [ ]))))
    (λ e. full_has _ fits)

-- ---- the end of a constant

zero_low : (facts : Facts) → pos 0 ≤ℤ (span_at facts 0).lo
unfolding range_at
zero_low facts = span_above facts 0

low_end : (facts : Facts) (e : Expr) → e.sym ≡ 0 → e.k ≤ℤ (range_of facts e).lo
unfolding range_of shifted
low_end facts e is = rw is (let least = zero_low facts in omega (arith, ints, least))

constant_end : (facts : Facts) (number : ℕ → ℤ) (e : Expr) → AllowsNumbers facts number → IsNamed facts e
    → (e.sym == 0) ≡ true → worth number e ≡ (range_of facts e).lo
constant_end facts number e allowed there is =
    let above = (range_has facts number e allowed there).above in
    let worth_is = constant_worth facts number e allowed is in
    let least = low_end facts e (eqb-true e.sym 0 is) in
    omega (arith, ints, above, worth_is, least)

-- ---- quotients and remainders

pub quotient_has : (facts : Facts) (number : ℕ → ℤ) (a b : Expr) → AllowsNumbers facts number → IsNamed facts a
    → IsNamed facts b → worth number b ≢ pos 0
    → Has (rule.quotient facts a b) (int_div (worth number a) (worth number b))
unfolding rule.quotient
quotient_has facts number a b allowed first second apart =
    quotients_have _ _ _ _ (b.sym == 0) (range_has facts number a allowed first)
    (range_has facts number b allowed second) apart (constant_end facts number b allowed second)

pub remainder_has : (facts : Facts) (number : ℕ → ℤ) (a b : Expr) → AllowsNumbers facts number → IsNamed facts a
    → IsNamed facts b → worth number b ≢ pos 0
    → Has (rule.remainder facts a b) (int_rem (worth number a) (worth number b))
unfolding rule.remainder
remainder_has facts number a b allowed first second apart =
    remainders_have _ _ _ _ (range_has facts number a allowed first) (range_has facts number b allowed second) apart

-- the quotient of a number that is not negative
quotient_no_more : (m n : ℤ) → pos 0 ≤ℤ m → pos 1 ≤ℤ n → (int_div m n +ℤ pos 0) ≤ℤ m
quotient_no_more (negsuc m) n p q = omega (arith, ints, p)
quotient_no_more (pos m) (negsuc n) p q = omega (arith, ints, q)
quotient_no_more (pos m) (pos n) p q = omega (arith, ints, div-le_self m n)

halved : (m n : ℕ) → 1 ≤ m → 2 ≤ n → m / n < m
halved m n some more =
    let least = mul-le (m / n) 2 (m / n) n (omega arith) more in omega (arith, some, least, div-mul-le_self m n)

quotient_less : (m n : ℤ) → pos 1 ≤ℤ m → pos 2 ≤ℤ n → (int_div m n +ℤ pos 1) ≤ℤ m
quotient_less (negsuc m) n p q = omega (arith, ints, p)
quotient_less (pos m) (negsuc n) p q = omega (arith, ints, q)
quotient_less (pos m) (pos n) p q = let less = halved m n (omega (arith, ints, p)) (omega (arith, ints, q)) in
    omega (arith, ints, less)

remainder_no_more : (m n : ℤ) → pos 0 ≤ℤ m → (int_rem m n +ℤ pos 0) ≤ℤ m
remainder_no_more (negsuc m) n p = omega (arith, ints, p)
remainder_no_more (pos m) n p = omega (arith, ints, mod-le m (unsigned_abs n))

remainder_less : (m n : ℤ) → pos 1 ≤ℤ n → (int_rem m n +ℤ pos 1) ≤ℤ n
remainder_less m (negsuc n) q = omega (arith, ints, q)
remainder_less m (pos zero) q = omega (arith, ints, q)
remainder_less (pos m) (pos (suc n)) q = let less = mod_below m (suc n) (omega arith) in omega (arith, ints, less)
remainder_less (negsuc m) (pos (suc n)) q = omega (arith, ints)

-- the numbers of an expression begin at k
begins : (facts : Facts) (number : ℕ → ℤ) (e : Expr) (k : ℤ) → AllowsNumbers facts number → IsNamed facts e
    → int_le k (range_of facts e).lo ≡ true → k ≤ℤ worth number e
begins facts number e k allowed there is =
    let least = le_true k (range_of facts e).lo is in let from = (range_has facts number e allowed there).above in
    omega (arith, ints, least, from)
  where
    le_true : (m n : ℤ) → int_le m n ≡ true → m ≤ℤ n
    le_true m n e = omega (arith, ints)

pub quotient_relations_true : (facts : Facts) (number : ℕ → ℤ) (is_null : ℕ → Bool) (a b : Expr)
    → AllowsNumbers facts number → IsNamed facts a → IsNamed facts b
    → AreTrueOf number is_null (int_div (worth number a) (worth number b)) (rule.quotient_relations facts a b)
unfolding rule.quotient_relations
quotient_relations_true facts number is_null a b allowed first second =
    let m = worth number a in
    let n = worth number b in
    where_true number is_null (int_div m n) _ _
    (λ e. let parts = and_parts (is_not_negative (range_of facts a)) _ e in
    all_both _ (rule.no_more a (pos 0)) _
    (no_more_true number is_null (int_div m n) a (pos 0)
    (quotient_no_more m n (begins facts number a (pos 0) allowed first parts.0)
    (begins facts number b (pos 1) allowed second parts.1)))
    (where_true number is_null (int_div m n) _ _
    (λ f. let more = and_parts (rule.is_positive (range_of facts a)) _ f in
    no_more_true number is_null (int_div m n) a (pos 1)
    (quotient_less m n (begins facts number a (pos 1) allowed first more.0)
    (begins facts number b (pos 2) allowed second more.1)))))

pub remainder_relations_true : (facts : Facts) (number : ℕ → ℤ) (is_null : ℕ → Bool) (a b : Expr)
    → AllowsNumbers facts number → IsNamed facts a → IsNamed facts b
    → AreTrueOf number is_null (int_rem (worth number a) (worth number b)) (rule.remainder_relations facts a b)
unfolding rule.remainder_relations
remainder_relations_true facts number is_null a b allowed first second =
    let m = worth number a in
    let n = worth number b in
    all_both _ (rule.where_so (is_not_negative (range_of facts a)) (rule.no_more a (pos 0))) _
    (where_true number is_null (int_rem m n) _ _
    (λ e. no_more_true number is_null (int_rem m n) a (pos 0)
    (remainder_no_more m n (begins facts number a (pos 0) allowed first e))))
    (where_true number is_null (int_rem m n) _ _
    (λ e. no_more_true number is_null (int_rem m n) b (pos 1)
    (remainder_less m n (begins facts number b (pos 1) allowed second e))))

-- ---- unsigned numbers that are not negative

are_plain : (facts : Facts) (number : ℕ → ℤ) (a b : Expr) → AllowsNumbers facts number → IsNamed facts a
    → IsNamed facts b → rule.are_plain facts a b ≡ true → (pos 0 ≤ℤ worth number a) × (pos 0 ≤ℤ worth number b)
are_plain facts number a b allowed first second e =
    let parts = and_parts (is_not_negative (range_of facts a)) _ e in
    (not_negative facts number a allowed first parts.0, not_negative facts number b allowed second parts.1)

plain_quotient_is : (facts : Facts) (number : ℕ → ℤ) (a b : Expr) → AllowsNumbers facts number → IsNamed facts a
    → IsNamed facts b → FitsSigned w32 (worth number a) → FitsSigned w32 (worth number b)
    → rule.are_plain facts a b ≡ true
    → signed (unsigned (worth number a) / unsigned (worth number b)) ≡ int_div (worth number a) (worth number b)
plain_quotient_is facts number a b allowed first second one other e =
    let plain = are_plain facts number a b allowed first second e in
    plain_quotient (worth number a) (worth number b) one plain.0 plain.1 other

plain_remainder_is : (facts : Facts) (number : ℕ → ℤ) (a b : Expr) → AllowsNumbers facts number → IsNamed facts a
    → IsNamed facts b → FitsSigned w32 (worth number a) → FitsSigned w32 (worth number b)
    → rule.are_plain facts a b ≡ true
    → signed (unsigned (worth number a) % unsigned (worth number b)) ≡ int_rem (worth number a) (worth number b)
plain_remainder_is facts number a b allowed first second one other e =
    let plain = are_plain facts number a b allowed first second e in
    plain_remainder (worth number a) (worth number b) one plain.0 plain.1 other

pub unsigned_quotient_has : (facts : Facts) (number : ℕ → ℤ) (a b : Expr) → AllowsNumbers facts number → IsNamed facts a
    → IsNamed facts b → FitsSigned w32 (worth number a) → FitsSigned w32 (worth number b) → worth number b ≢ pos 0
    → Covers number (rule.by_facts operators.DivUn facts a b)
    (signed (unsigned (worth number a) / unsigned (worth number b)))
unfolding rule.by_facts
unsigned_quotient_has facts number a b allowed first second one other apart =
    cond_both (rule.are_plain facts a b) _ _
    (λ r. Has r (signed (unsigned (worth number a) / unsigned (worth number b))))
    (λ e. rw (plain_quotient_is facts number a b allowed first second one other e)
    (quotient_has facts number a b allowed first second apart))
    (λ e. full_has _ (quotient_fits (worth number a) (unsigned (worth number b)) one))

pub unsigned_remainder_has : (facts : Facts) (number : ℕ → ℤ) (a b : Expr) → AllowsNumbers facts number
    → IsNamed facts a → IsNamed facts b → FitsSigned w32 (worth number a) → FitsSigned w32 (worth number b)
    → worth number b ≢ pos 0
    → Covers number (rule.by_facts operators.RemUn facts a b)
    (signed (unsigned (worth number a) % unsigned (worth number b)))
unfolding rule.by_facts
unsigned_remainder_has facts number a b allowed first second one other apart =
    cond_both (rule.are_plain facts a b) _ _
    (λ r. Has r (signed (unsigned (worth number a) % unsigned (worth number b))))
    (λ e. rw (plain_remainder_is facts number a b allowed first second one other e)
    (remainder_has facts number a b allowed first second apart))
    (λ e. full_has _ (remainder_fits (worth number a) (unsigned (worth number b)) one))

pub unsigned_quotient_relations_true : (facts : Facts) (number : ℕ → ℤ) (is_null : ℕ → Bool) (a b : Expr)
    → AllowsNumbers facts number → IsNamed facts a → IsNamed facts b → FitsSigned w32 (worth number a)
    → FitsSigned w32 (worth number b)
    → AreTrueOf number is_null (signed (unsigned (worth number a) / unsigned (worth number b)))
    (rule.where_so (rule.are_plain facts a b) (rule.quotient_relations facts a b))
unsigned_quotient_relations_true facts number is_null a b allowed first second one other =
    where_true number is_null _ (rule.are_plain facts a b) (rule.quotient_relations facts a b)
    (λ e. true_of_same number is_null _ _ (rule.quotient_relations facts a b)
    (plain_quotient_is facts number a b allowed first second one other e)
    (quotient_relations_true facts number is_null a b allowed first second))

pub unsigned_remainder_relations_true : (facts : Facts) (number : ℕ → ℤ) (is_null : ℕ → Bool) (a b : Expr)
    → AllowsNumbers facts number → IsNamed facts a → IsNamed facts b → FitsSigned w32 (worth number a)
    → FitsSigned w32 (worth number b)
    → AreTrueOf number is_null (signed (unsigned (worth number a) % unsigned (worth number b)))
    (rule.where_so (rule.are_plain facts a b) (rule.remainder_relations facts a b))
unsigned_remainder_relations_true facts number is_null a b allowed first second one other =
    where_true number is_null _ (rule.are_plain facts a b) (rule.remainder_relations facts a b)
    (λ e. true_of_same number is_null _ _ (rule.remainder_relations facts a b)
    (plain_remainder_is facts number a b allowed first second one other e)
    (remainder_relations_true facts number is_null a b allowed first second))

-- ---- common bits

le_from : (n : ℤ) → pos 0 ≤ℤ n → int_le (pos 0) n ≡ true
le_from n h = grind (arith, ints, h)

itself_has : (n : ℤ) → Has (between n n) n
itself_has n = between_has n n n (omega (arith, ints)) (omega (arith, ints))

-- the common bits of a number that is not negative and any other
first_no_more : (m n : ℤ) → FitsSigned w32 m → FitsSigned w32 n → pos 0 ≤ℤ m → (int_bit_and w32 m n +ℤ pos 0) ≤ℤ m
unfolding common_bits
first_no_more m n one other h =
    let have = common_bits_have (between m m) full m n one other (itself_has m) (full_has n other) in
    let common = rw (le_from m h) at have in
    omega (arith, ints, common.below)

second_no_more : (m n : ℤ) → FitsSigned w32 m → FitsSigned w32 n → pos 0 ≤ℤ n → (int_bit_and w32 m n +ℤ pos 0) ≤ℤ n
unfolding common_bits
second_no_more m n one other h =
    let have = common_bits_have full (between n n) m n one other (full_has m one) (itself_has n) in
    let common = rw (le_from n h) at have in
    omega (arith, ints, common.below)

pub common_relations_true : (facts : Facts) (number : ℕ → ℤ) (is_null : ℕ → Bool) (a b : Expr)
    → AllowsNumbers facts number → IsNamed facts a → IsNamed facts b → FitsSigned w32 (worth number a)
    → FitsSigned w32 (worth number b)
    → AreTrueOf number is_null (int_bit_and w32 (worth number a) (worth number b)) (rule.common_relations facts a b)
unfolding rule.common_relations
common_relations_true facts number is_null a b allowed first second one other =
    let m = worth number a in
    let n = worth number b in
    all_both _ (rule.where_so (is_not_negative (range_of facts a)) (rule.no_more a (pos 0))) _
    (where_true number is_null (int_bit_and w32 m n) _ _
    (λ e. no_more_true number is_null (int_bit_and w32 m n) a (pos 0)
    (first_no_more m n one other (not_negative facts number a allowed first e))))
    (where_true number is_null (int_bit_and w32 m n) _ _
    (λ e. no_more_true number is_null (int_bit_and w32 m n) b (pos 0)
    (second_no_more m n one other (not_negative facts number b allowed second e))))

-- ---- shifts

pub shifted_right_unsigned_covers : (facts : Facts) (number : ℕ → ℤ) (a b : Expr) → AllowsNumbers facts number
    → IsNamed facts a → FitsSigned w32 (worth number a)
    → Covers number (rule.shifted_right_unsigned facts a b)
    (signed (unsigned (worth number a) / 2 ^ unsigned_abs (worth number b)))
unfolding rule.shifted_right_unsigned
shifted_right_unsigned_covers facts number a b allowed first fits =
    let m = worth number a in
    let k = unsigned_abs (worth number b) in
    cond_both (is_not_negative (range_of facts a)) _ _ (λ o. Covers number o (signed (unsigned m / 2 ^ k)))
    (λ e. rw (plain_shift m k fits (not_negative facts number a allowed first e))
    (shifted_right_has (range_of facts a) b m (worth number b) (range_has facts number a allowed first)
    (constant_worth facts number b allowed)))
    (λ e. cond_both (b.sym == 0) _ _ (λ o. Covers number o (signed (unsigned m / 2 ^ k)))
    (λ f. rw (constant_worth facts number b allowed f)
    (cond_both (unsigned_abs b.k == 0) _ _ (λ o. Covers number o (signed (unsigned m / 2 ^ unsigned_abs b.k)))
    (λ g. no_shift m (unsigned_abs b.k) fits (zero_places (unsigned_abs b.k) g))
    (λ g. places_has m (unsigned_abs b.k) fits (some_places (unsigned_abs b.k) g))))
    (λ f. full_has (signed (unsigned m / 2 ^ k)) (unsigned_fits m k fits)))

-- a number that is not negative is no more than it was, by whatever number of places
shift_no_more : (m : ℤ) (n : ℤ) → pos 0 ≤ℤ m → (int_shr m (unsigned_abs n) +ℤ pos 0) ≤ℤ m
unfolding shifted_right
shift_no_more m n h =
    let other : Expr = record { sym = 1; k = pos 0 } in
    let shifted = shifted_right_has (between m m) other m n (itself_has m) (λ is. absurd cc) in
    omega (arith, ints, clamps, h, shifted.below)

pub shift_relations_true : (facts : Facts) (number : ℕ → ℤ) (is_null : ℕ → Bool) (a : Expr) (n : ℤ)
    → AllowsNumbers facts number → IsNamed facts a
    → AreTrueOf number is_null (int_shr (worth number a) (unsigned_abs n)) (rule.shift_relations facts a)
shift_relations_true facts number is_null a n allowed first =
    where_true number is_null (int_shr (worth number a) (unsigned_abs n)) _ _
    (λ e. no_more_true number is_null _ a (pos 0)
    (shift_no_more (worth number a) n (not_negative facts number a allowed first e)))

pub unsigned_shift_relations_true : (facts : Facts) (number : ℕ → ℤ) (is_null : ℕ → Bool) (a : Expr) (n : ℤ)
    → AllowsNumbers facts number → IsNamed facts a → FitsSigned w32 (worth number a)
    → AreTrueOf number is_null (signed (unsigned (worth number a) / 2 ^ unsigned_abs n)) (rule.shift_relations facts a)
unsigned_shift_relations_true facts number is_null a n allowed first fits =
    where_true number is_null _ _ _
    (λ e. let from = not_negative facts number a allowed first e in
    true_of_same number is_null _ _ (rule.no_more a (pos 0)) (plain_shift (worth number a) (unsigned_abs n) fits from)
    (no_more_true number is_null _ a (pos 0) (shift_no_more (worth number a) n from)))
