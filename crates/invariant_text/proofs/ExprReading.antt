-- Of two texts that begin with an expression and then end it, the expressions are the same where the texts are.
use Rattle.std.proofs.Common.{◌≡◌, ℕ, zero, suc, ◌<◌, ◌^◌, ◌==◌, ℤ, pos, negsuc, false, List, [], ◌∷◌, ◌++◌, nat_le}
use Rattle.std.proofs.Common.{true, drop, get_or, refl, sym, ap, ap₂, ◌∙◌, arith, append_assoc, if◌then◌else◌, codes}
use Rattle.std.specs.Fmt.{decimal, signed_decimal}
use Rattle.std.specs.Int.Signed.{mag}
use Rattle.std.proofs.lemmas.Bool.{and_parts, leb-true, ne_eqb, true≢false}
use Rattle.domain_api.specs.declared.expr.Expr.{Expr}
use Rattle.invariant_text.specs.NumberTexts.{added_text, expr_text, symbol_text}
use Rattle.invariant_text.proofs.NumberReading.{begins_digit, begins_signed, number_begins, number_read, signed_begins}
use Rattle.invariant_text.proofs.NumberReading.{signed_read}
use Prim.Native.Nat.compare
use lib.Dec.{leb-zero}

-- What is added: nothing is 0, more is 1, less is 2.
abbrev pub added_kind : List ℕ → ℕ
added_kind text =
    if get_or text 0 0 == 32
    then (if get_or text 1 0 == 43 then 1 else if get_or text 1 0 == 45 then 2 else 0)
    else 0

-- The text ends an expression before it: it goes on with no digit, and adds nothing.
pub record EndsExpr (text : List ℕ) : Type 0 where
  pub no_digit : begins_digit text ≡ false
  pub not_added : added_kind text ≡ 0

-- The numbers of the expression have 64 bits.
pub record IsSmall (e : Expr) : Type 0 where
  pub symbol : e.sym < 2 ^ 64
  pub constant : mag e.k < 2 ^ 63

pub nothing_added : added_text (pos zero) ≡ []
unfolding added_text
nothing_added = refl

pub more_added : (n : ℕ) → added_text (pos (suc n)) ≡ codes " + " ++ decimal (suc n)
unfolding added_text
more_added n = rw (compare.suc-zero, compare.suc-suc, leb-zero n)

pub less_added : (n : ℕ) → added_text (negsuc n) ≡ codes " - " ++ decimal (suc n)
unfolding added_text
less_added n = refl

abbrev pub kind_of : ℤ → ℕ
kind_of (pos zero) = 0
kind_of (pos (suc n)) = 1
kind_of (negsuc n) = 2

kind_added : (k : ℤ) (r : List ℕ) → EndsExpr r → added_kind (added_text k ++ r) ≡ kind_of k
kind_added (pos zero) r ends = rw nothing_added ends.not_added
kind_added (pos (suc n)) r ends = rw (more_added n)
kind_added (negsuc n) r ends = rw (less_added n)

pub added_no_digit : (k : ℤ) (r : List ℕ) → begins_digit r ≡ false → begins_digit (added_text k ++ r) ≡ false
added_no_digit (pos zero) r none = rw nothing_added none
added_no_digit (pos (suc n)) r none = rw (more_added n)
added_no_digit (negsuc n) r none = rw (less_added n)

pub same_added : (j k : ℤ) (r q : List ℕ) → mag j < 2 ^ 63 → mag k < 2 ^ 63 → begins_digit r ≡ false
    → begins_digit q ≡ false
    → kind_of j ≡ kind_of k → added_text j ++ r ≡ added_text k ++ q → (j ≡ k) × (r ≡ q)
same_added (pos zero) (pos zero) r q j_fits k_fits r_none q_none kinds same = (refl, rw nothing_added at same)
same_added (pos zero) (pos (suc n)) r q j_fits k_fits r_none q_none kinds same = absurd (omega (arith, kinds))
same_added (pos zero) (negsuc n) r q j_fits k_fits r_none q_none kinds same = absurd (omega (arith, kinds))
same_added (pos (suc m)) (pos zero) r q j_fits k_fits r_none q_none kinds same = absurd (omega (arith, kinds))
same_added (pos (suc m)) (pos (suc n)) r q j_fits k_fits r_none q_none kinds same =
    let texts = ap (drop 3) (rw (more_added m, more_added n) at same) in
    let read = number_read (suc m) (suc n) r q (omega (arith, j_fits)) (omega (arith, k_fits)) r_none q_none texts in
    (ap pos read.0, read.1)
same_added (pos (suc m)) (negsuc n) r q j_fits k_fits r_none q_none kinds same = absurd (omega (arith, kinds))
same_added (negsuc m) (pos zero) r q j_fits k_fits r_none q_none kinds same = absurd (omega (arith, kinds))
same_added (negsuc m) (pos (suc n)) r q j_fits k_fits r_none q_none kinds same = absurd (omega (arith, kinds))
same_added (negsuc m) (negsuc n) r q j_fits k_fits r_none q_none kinds same =
    let texts = ap (drop 3) (rw (less_added m, less_added n) at same) in
    let read = number_read (suc m) (suc n) r q (omega (arith, j_fits)) (omega (arith, k_fits)) r_none q_none texts in
    (ap negsuc (omega (arith, read.0)), read.1)

added_read : (j k : ℤ) (r q : List ℕ) → mag j < 2 ^ 63 → mag k < 2 ^ 63 → EndsExpr r → EndsExpr q
    → added_text j ++ r ≡ added_text k ++ q → (j ≡ k) × (r ≡ q)
added_read j k r q j_fits k_fits r_ends q_ends same =
    same_added j k r q j_fits k_fits r_ends.no_digit q_ends.no_digit
    (sym (kind_added j r r_ends) ∙ ap added_kind same ∙ kind_added k q q_ends) same

-- ---- expressions

pub number_text : (k : ℤ) → expr_text (record { sym = 0; k = k }) ≡ signed_decimal k
unfolding expr_text
number_text k = refl

pub symbol_first : (s : ℕ) (k : ℤ) → expr_text (record { sym = suc s; k = k }) ≡ symbol_text (suc s) ++ added_text k
unfolding expr_text
symbol_first s k = rw compare.suc-zero

-- The text goes on behind the letter of a symbol.
pub behind_letter : (s : ℕ) (k : ℤ) (r : List ℕ)
    → expr_text (record { sym = suc s; k = k }) ++ r ≡ 115 ∷ decimal (suc s) ++ (added_text k ++ r)
behind_letter s k r = rw (symbol_first s k) (append_assoc (symbol_text (suc s)) (added_text k) r)

parts_read : (s t : ℕ) (j k : ℤ) (r q : List ℕ) → s < 2 ^ 64 → t < 2 ^ 64 → mag j < 2 ^ 63 → mag k < 2 ^ 63 → EndsExpr r
    → EndsExpr q
    → expr_text (record { sym = s; k = j }) ++ r ≡ expr_text (record { sym = t; k = k }) ++ q → ((s ≡ t) × (j ≡ k))
    × (r ≡ q)
parts_read zero zero j k r q s_fits t_fits j_fits k_fits r_ends q_ends same =
    let read =
    signed_read j k r q j_fits k_fits r_ends.no_digit q_ends.no_digit (rw (number_text j, number_text k) at same) in
    ((refl, read.0), read.1)
parts_read zero (suc t) j k r q s_fits t_fits j_fits k_fits r_ends q_ends same =
    absurd (true≢false (sym (signed_begins j r j_fits) ∙ ap begins_signed
    (sym (ap (λ (text : List ℕ). text ++ r) (number_text j)) ∙ same ∙ behind_letter t k q)))
parts_read (suc s) zero j k r q s_fits t_fits j_fits k_fits r_ends q_ends same =
    absurd (true≢false (sym (signed_begins k q k_fits) ∙ ap begins_signed
    (sym (ap (λ (text : List ℕ). text ++ q) (number_text k)) ∙ sym same ∙ behind_letter s j r)))
parts_read (suc s) (suc t) j k r q s_fits t_fits j_fits k_fits r_ends q_ends same =
    let texts = ap (drop 1) (sym (behind_letter s j r) ∙ same ∙ behind_letter t k q) in
    let symbols = number_read (suc s) (suc t) (added_text j ++ r) (added_text k ++ q) s_fits t_fits
    (added_no_digit j r r_ends.no_digit) (added_no_digit k q q_ends.no_digit) texts in
    let added = added_read j k r q j_fits k_fits r_ends q_ends symbols.1 in
    ((symbols.0, added.0), added.1)

pub expr_read : (a b : Expr) (r q : List ℕ) → IsSmall a → IsSmall b → EndsExpr r → EndsExpr q
    → expr_text a ++ r ≡ expr_text b ++ q → (a ≡ b) × (r ≡ q)
expr_read a b r q a_small b_small r_ends q_ends same =
    let read = parts_read a.sym b.sym a.k b.k r q a_small.symbol b_small.symbol a_small.constant b_small.constant r_ends
    q_ends same in
    (ap₂ (λ (s : ℕ) (k : ℤ). record { sym = s; k = k }) read.0.0 read.0.1, read.1)

-- ---- what an expression does not begin with

pub letter_no_digit : (letter : ℕ) (text : List ℕ) → 57 < letter → begins_digit text ≡ true
    → (get_or text 0 0 == letter) ≡ false
letter_no_digit letter [] above is = absurd (true≢false (sym is))
letter_no_digit letter (c ∷ text) above is =
    let most = leb-true c 57 (and_parts (nat_le 48 c) (nat_le c 57) is).1 in
    ne_eqb c letter (λ e. omega (arith, most, above, e))

parts_no_letter : (letter s : ℕ) (k : ℤ) (r : List ℕ) → 57 < letter → (115 ≡ letter → ⊥) → mag k < 2 ^ 63
    → (get_or (expr_text (record { sym = s; k = k }) ++ r) 0 0 == letter) ≡ false
parts_no_letter letter zero (pos n) r above other fits =
    rw (number_text (pos n)) (letter_no_digit letter (decimal n ++ r) above (number_begins n r (omega (arith, fits))))
parts_no_letter letter zero (negsuc n) r above other fits =
    rw (number_text (negsuc n)) (ne_eqb 45 letter (λ e. omega (arith, above, e)))
parts_no_letter letter (suc s) k r above other fits = rw (behind_letter s k r) (ne_eqb 115 letter other)

-- An expression begins with a digit, a sign or the letter of a symbol.
pub expr_no_letter : (letter : ℕ) (e : Expr) (r : List ℕ) → 57 < letter → (115 ≡ letter → ⊥) → IsSmall e
    → (get_or (expr_text e ++ r) 0 0 == letter) ≡ false
expr_no_letter letter e r above other small = parts_no_letter letter e.sym e.k r above other small.constant
