-- Of two texts that begin with what a symbol is and then end the line, both say the same where the texts are the same.
use Rattle.std.proofs.Common.{◌≡◌, ℕ, zero, suc, ◌<◌, ◌^◌, ◌==◌, ℤ, pos, negsuc, Bool, true, false, ◌&&◌, ◌||◌, List}
use Rattle.std.proofs.Common.{◌∷◌, ◌++◌, drop, get_or, refl, sym, ap, ap₂, ◌∙◌, arith, append_assoc, if◌then◌else◌}
use Rattle.std.proofs.Common.{codes}
use Rattle.std.specs.Fmt.{decimal}
use Rattle.std.specs.Int.Signed.{mag}
use Rattle.std.proofs.lemmas.Bool.{true≢false}
use Rattle.std.proofs.lemmas.List.{append_cancel_left}
use Rattle.domain_api.specs.declared.expr.Expr.{Expr}
use Rattle.symbolic_values.specs.declared.def.Def.{Def}
use Rattle.symbolic_values.specs.declared.def.Def.TheVariants.{Eq, Lt, LtUn, NullTest, Sub}
use Rattle.invariant_text.specs.NumberTexts.{added_text, expr_text}
use Rattle.invariant_text.specs.SymbolLines.{both, def_text, null_test_text}
use Rattle.invariant_text.specs.VariableLines.{reference_text}
use Rattle.invariant_text.proofs.ExprReading.{IsSmall, added_no_digit, behind_letter, expr_no_letter, expr_read}
use Rattle.invariant_text.proofs.ExprReading.{kind_of, less_added, more_added, nothing_added, number_text, same_added}
use Rattle.invariant_text.proofs.NumberReading.{begins_digit, begins_signed, behind_digits, number_begins}
use Rattle.invariant_text.proofs.NumberReading.{number_behind, number_read, signed_begins, signed_read}
use Prim.Native.Nat.compare

-- ---- references

pub null_text : reference_text zero ≡ codes "null"
unfolding reference_text
null_text = refl

pub other_text : (r : ℕ) → reference_text (suc r) ≡ codes "r" ++ decimal (suc r)
unfolding reference_text
other_text r = rw compare.suc-zero

pub reference_read : (m n : ℕ) (r q : List ℕ) → m < 2 ^ 64 → n < 2 ^ 64 → begins_digit r ≡ false
    → begins_digit q ≡ false
    → reference_text m ++ r ≡ reference_text n ++ q → (m ≡ n) × (r ≡ q)
reference_read zero zero r q m_fits n_fits r_none q_none same = (refl, ap (drop 4) (rw null_text at same))
reference_read zero (suc n) r q m_fits n_fits r_none q_none same =
    absurd (omega (arith, ap (λ (text : List ℕ). get_or text 0 0) (rw (null_text, other_text n) at same)))
reference_read (suc m) zero r q m_fits n_fits r_none q_none same =
    absurd (omega (arith, ap (λ (text : List ℕ). get_or text 0 0) (rw (null_text, other_text m) at same)))
reference_read (suc m) (suc n) r q m_fits n_fits r_none q_none same =
    number_read (suc m) (suc n) r q m_fits n_fits r_none q_none (ap (drop 1) (rw (other_text m, other_text n) at same))

-- ---- operators

-- What stands between two expressions.
pub data Operator : Type 0 where
  Equal : Operator
  Less : Operator
  LessUnsigned : Operator
  Minus : Operator

abbrev pub operator_text : Operator → List ℕ
operator_text Equal = codes " == "
operator_text Less = codes " < "
operator_text LessUnsigned = codes " <u "
operator_text Minus = codes " - "

abbrev def_with : Operator → Expr → Expr → Def
def_with Equal a b = Eq a b
def_with Less a b = Lt a b
def_with LessUnsigned a b = LtUn a b
def_with Minus a b = Sub a b

abbrev operator_at : List ℕ → Operator
operator_at text =
    if get_or text 1 0 == 61 then Equal
    else if get_or text 1 0 == 45 then Minus
    else if get_or text 2 0 == 117 then LessUnsigned
    else Less

operator_told : (o : Operator) (text : List ℕ) → operator_at (operator_text o ++ text) ≡ o
operator_told Equal text = refl
operator_told Less text = refl
operator_told LessUnsigned text = refl
operator_told Minus text = refl

pub operator_no_digit : (o : Operator) (text : List ℕ) → begins_digit (operator_text o ++ text) ≡ false
operator_no_digit Equal text = refl
operator_no_digit Less text = refl
operator_no_digit LessUnsigned text = refl
operator_no_digit Minus text = refl

pub operator_first : (o : Operator) (text : List ℕ) → get_or (operator_text o ++ text) 0 0 ≡ 32
operator_first Equal text = refl
operator_first Less text = refl
operator_first LessUnsigned text = refl
operator_first Minus text = refl

-- An operator, an expression, and the end of the line.
abbrev pub operated : Operator → Expr → List ℕ → List ℕ
operated o b r = operator_text o ++ (expr_text b ++ 10 ∷ r)

operated_read : (o p : Operator) (b d : Expr) (r q : List ℕ) → IsSmall b → IsSmall d → operated o b r ≡ operated p d q
    → (o ≡ p) × (b ≡ d) × (r ≡ q)
operated_read o p b d r q b_small d_small same =
    let operators : o ≡ p =
    sym (operator_told o (expr_text b ++ 10 ∷ r)) ∙ ap operator_at same ∙ operator_told p (expr_text d ++ 10 ∷ q) in
    let behind = append_cancel_left (operator_text o) (expr_text b ++ 10 ∷ r) (expr_text d ++ 10 ∷ q)
    (same ∙ ap (λ (x : Operator). operated x d q) (sym operators)) in
    let read = expr_read b d (10 ∷ r) (10 ∷ q) b_small d_small (record { no_digit = refl; not_added = refl })
    (record { no_digit = refl; not_added = refl }) behind in
    (operators, read.0, ap (drop 1) read.1)

-- ---- a constant, or a difference

-- The text is that of a constant behind a sign, and goes on.
abbrev pub is_constant : List ℕ → Bool
is_constant text = begins_digit text && get_or (behind_digits text) 0 0 == 32

-- What is added to the first of two expressions: nothing is 0, more is 1, less is 2. A number that ends the line is the
-- second expression of a difference.
abbrev added_first : List ℕ → ℕ
added_first text =
    if get_or text 1 0 == 43 then 1
    else if get_or text 1 0 == 45 && is_constant (drop 3 text) then 2
    else 0

pub last_no_constant : (s : ℕ) (k : ℤ) (r : List ℕ) → mag k < 2 ^ 63
    → is_constant (expr_text (record { sym = s; k = k }) ++ 10 ∷ r) ≡ false
last_no_constant zero (pos n) r fits =
    let small : n < 2 ^ 64 = omega (arith, fits) in
    rw (number_text (pos n), number_begins n (10 ∷ r) small, number_behind n (10 ∷ r) small refl)
last_no_constant zero (negsuc n) r fits = rw (number_text (negsuc n))
last_no_constant (suc s) k r fits = rw (behind_letter s k (10 ∷ r))

none_added : (o : Operator) (b : Expr) (r : List ℕ) → IsSmall b → added_first (operated o b r) ≡ 0
none_added Equal b r small = refl
none_added Less b r small = refl
none_added LessUnsigned b r small = refl
none_added Minus b r small = rw (last_no_constant b.sym b.k r small.constant)

added_told : (k : ℤ) (o : Operator) (b : Expr) (r : List ℕ) → mag k < 2 ^ 63 → IsSmall b
    → added_first (added_text k ++ operated o b r) ≡ kind_of k
added_told (pos zero) o b r fits small = rw nothing_added (none_added o b r small)
added_told (pos (suc n)) o b r fits small = rw (more_added n)
added_told (negsuc n) o b r fits small =
    let few : suc n < 2 ^ 64 = omega (arith, fits) in
    let rest = operated o b r in
    rw (
      less_added n,
      number_begins (suc n) rest few,
      number_behind (suc n) rest few (operator_no_digit o (expr_text b ++ 10 ∷ r)),
      operator_first o (expr_text b ++ 10 ∷ r),
    )

-- ---- two expressions

both_parts_read : (o p : Operator) (s t : ℕ) (j k : ℤ) (b d : Expr) (r q : List ℕ) → s < 2 ^ 64 → t < 2 ^ 64
    → mag j < 2 ^ 63 → mag k < 2 ^ 63
    → IsSmall b → IsSmall d → expr_text (record { sym = s; k = j }) ++ operated o b r
    ≡ expr_text (record { sym = t; k = k }) ++ operated p d q
    → ((s ≡ t) × (j ≡ k)) × (operated o b r ≡ operated p d q)
both_parts_read o p zero zero j k b d r q s_fits t_fits j_fits k_fits b_small d_small same =
    let read =
    signed_read j k (operated o b r) (operated p d q) j_fits k_fits (operator_no_digit o (expr_text b ++ 10 ∷ r))
    (operator_no_digit p (expr_text d ++ 10 ∷ q)) (rw (number_text j, number_text k) at same) in
    ((refl, read.0), read.1)
both_parts_read o p zero (suc t) j k b d r q s_fits t_fits j_fits k_fits b_small d_small same =
    absurd (true≢false (sym (signed_begins j (operated o b r) j_fits)
    ∙ ap begins_signed (sym (ap (λ (text : List ℕ). text ++ operated o b r) (number_text j)) ∙ same ∙ behind_letter t k
    (operated p d q))))
both_parts_read o p (suc s) zero j k b d r q s_fits t_fits j_fits k_fits b_small d_small same =
    absurd (true≢false (sym (signed_begins k (operated p d q) k_fits)
    ∙ ap begins_signed (sym (ap (λ (text : List ℕ). text ++ operated p d q) (number_text k)) ∙ sym same ∙ behind_letter
    s j (operated o b r))))
both_parts_read o p (suc s) (suc t) j k b d r q s_fits t_fits j_fits k_fits b_small d_small same =
    let first = operated o b r in
    let second = operated p d q in
    let first_none = operator_no_digit o (expr_text b ++ 10 ∷ r) in
    let second_none = operator_no_digit p (expr_text d ++ 10 ∷ q) in
    let texts = ap (drop 1) (sym (behind_letter s j first) ∙ same ∙ behind_letter t k second) in
    let symbols = number_read (suc s) (suc t) (added_text j ++ first) (added_text k ++ second) s_fits t_fits
    (added_no_digit j first first_none) (added_no_digit k second second_none) texts in
    let kinds =
    sym (added_told j o b r j_fits b_small) ∙ ap added_first symbols.1 ∙ added_told k p d q k_fits d_small in
    let added = same_added j k first second j_fits k_fits first_none second_none kinds symbols.1 in
    ((symbols.0, added.0), added.1)

both_read : (o p : Operator) (a b c d : Expr) (r q : List ℕ) → IsSmall a → IsSmall b → IsSmall c → IsSmall d
    → both a (operator_text o) b ++ 10 ∷ r ≡ both c (operator_text p) d ++ 10 ∷ q
    → (def_with o a b ≡ def_with p c d) × (r ≡ q)
both_read o p a b c d r q a_small b_small c_small d_small same =
    let regrouped = λ (x : Operator) (e f : Expr) (text : List ℕ).
    append_assoc (expr_text e ++ operator_text x) (expr_text f) text
    ∙ append_assoc (expr_text e) (operator_text x) (expr_text f ++ text) in
    let first = both_parts_read o p a.sym c.sym a.k c.k b d r q a_small.symbol c_small.symbol a_small.constant
    c_small.constant b_small d_small
    (sym (regrouped o a b (10 ∷ r)) ∙ same ∙ regrouped p c d (10 ∷ q)) in
    let second = operated_read o p b d r q b_small d_small first.1 in
    let exprs : a ≡ c = ap₂ (λ (s : ℕ) (k : ℤ). record { sym = s; k = k }) first.0.0 first.0.1 in
    ((λ i. def_with (second.0 i) (exprs i) (second.1 i)), second.2)

-- ---- null tests

abbrev pub null_words : Bool → List ℕ
null_words is_null = if is_null then codes " is null" else codes " is not null"

words_read : (a b : Bool) (r q : List ℕ) → null_words a ++ 10 ∷ r ≡ null_words b ++ 10 ∷ q → (a ≡ b) × (r ≡ q)
words_read false false r q same = (refl, ap (drop 13) same)
words_read false true r q same = absurd (omega (arith, ap (λ (text : List ℕ). get_or text 5 0) same))
words_read true false r q same = absurd (omega (arith, ap (λ (text : List ℕ). get_or text 5 0) same))
words_read true true r q same = (refl, ap (drop 9) same)

pub words_no_digit : (a : Bool) (r : List ℕ) → begins_digit (null_words a ++ r) ≡ false
words_no_digit false r = refl
words_no_digit true r = refl

test_read : (m n : ℕ) (a b : Bool) (r q : List ℕ) → m < 2 ^ 64 → n < 2 ^ 64
    → null_test_text m a ++ 10 ∷ r ≡ null_test_text n b ++ 10 ∷ q → (NullTest m a ≡ NullTest n b) × (r ≡ q)
test_read m n a b r q m_fits n_fits same =
    let references = reference_read m n (null_words a ++ 10 ∷ r) (null_words b ++ 10 ∷ q) m_fits n_fits
    (words_no_digit a (10 ∷ r)) (words_no_digit b (10 ∷ q))
    (sym (append_assoc (reference_text m) (null_words a) (10 ∷ r)) ∙ same ∙ append_assoc (reference_text n)
    (null_words b) (10 ∷ q)) in
    let words = words_read a b r q references.1 in
    (ap₂ (λ (x : ℕ) (is_null : Bool). NullTest x is_null) references.0 words.0, words.1)

-- ---- definitions

-- The text begins as one of a reference does.
abbrev pub begins_reference : List ℕ → Bool
begins_reference text = get_or text 0 0 == 110 || get_or text 0 0 == 114

pub reference_begins : (r : ℕ) (text : List ℕ) → begins_reference (reference_text r ++ text) ≡ true
reference_begins zero text = rw null_text
reference_begins (suc r) text = rw (other_text r)

pub expr_no_reference : (e : Expr) (r : List ℕ) → IsSmall e → begins_reference (expr_text e ++ r) ≡ false
expr_no_reference e r small =
    rw (
      expr_no_letter 110 e r (omega arith) (λ is. omega (arith, is)) small,
      expr_no_letter 114 e r (omega arith)
          (λ is. omega (arith, is)) small,
    )

-- The numbers of a definition have 64 bits.
abbrev pub IsSmallDef : Def → Type 0
IsSmallDef (Eq a b) = IsSmall a × IsSmall b
IsSmallDef (Lt a b) = IsSmall a × IsSmall b
IsSmallDef (LtUn a b) = IsSmall a × IsSmall b
IsSmallDef (NullTest r is_null) = r < 2 ^ 64
IsSmallDef (Sub a b) = IsSmall a × IsSmall b

small_both : (o : Operator) (a b : Expr) → IsSmallDef (def_with o a b) → IsSmall a × IsSmall b
small_both Equal a b small = small
small_both Less a b small = small
small_both LessUnsigned a b small = small
small_both Minus a b small = small

text_both : (o : Operator) (a b : Expr) → def_text (def_with o a b) ≡ both a (operator_text o) b
text_both Equal a b = refl
text_both Less a b = refl
text_both LessUnsigned a b = refl
text_both Minus a b = refl

-- A definition is of two expressions, or a null test.
by_parts : (P : Def → Type 0) → ((o : Operator) (a b : Expr) → P (def_with o a b))
    → ((r : ℕ) (is_null : Bool) → P (NullTest r is_null)) → (d : Def) → P d
by_parts P two test (Eq a b) = two Equal a b
by_parts P two test (Lt a b) = two Less a b
by_parts P two test (LtUn a b) = two LessUnsigned a b
by_parts P two test (NullTest r is_null) = test r is_null
by_parts P two test (Sub a b) = two Minus a b

-- The two definitions are the same where their texts are, each with the end of its line.
abbrev ReadsDefs : Def → Def → Type 0
ReadsDefs d e =
    (r q : List ℕ) → IsSmallDef d → IsSmallDef e → def_text d ++ 10 ∷ r ≡ def_text e ++ 10 ∷ q → (d ≡ e) × (r ≡ q)

two_and_two : (o : Operator) (a b : Expr) (p : Operator) (c d : Expr) → ReadsDefs (def_with o a b) (def_with p c d)
two_and_two o a b p c d r q first second same =
    let ab = small_both o a b first in
    let cd = small_both p c d second in
    both_read o p a b c d r q ab.0 ab.1 cd.0 cd.1 (rw (text_both o a b, text_both p c d) at same)

-- No expression begins as a reference does.
two_no_reference : (o : Operator) (a b : Expr) (r : List ℕ) → IsSmallDef (def_with o a b)
    → begins_reference (def_text (def_with o a b) ++ r) ≡ false
two_no_reference o a b r small =
    rw (
      text_both o a b,
      append_assoc (expr_text a ++ operator_text o) (expr_text b) r,
      append_assoc (expr_text a)
          (operator_text o) (expr_text b ++ r),
    )
    (expr_no_reference a (operator_text o ++ (expr_text b ++ r)) (small_both o a b small).0)

test_reference : (m : ℕ) (is_null : Bool) (r : List ℕ) → begins_reference (def_text (NullTest m is_null) ++ r) ≡ true
test_reference m is_null r =
    rw (append_assoc (reference_text m) (null_words is_null) r) (reference_begins m (null_words is_null ++ r))

two_and_test : (o : Operator) (a b : Expr) (n : ℕ) (is_null : Bool) → ReadsDefs (def_with o a b) (NullTest n is_null)
two_and_test o a b n is_null r q first second same =
    absurd (true≢false (sym (test_reference n is_null (10 ∷ q)) ∙ ap begins_reference (sym same) ∙ two_no_reference o a
    b (10 ∷ r) first))

test_and_two : (m : ℕ) (is_null : Bool) (p : Operator) (c d : Expr) → ReadsDefs (NullTest m is_null) (def_with p c d)
test_and_two m is_null p c d r q first second same =
    absurd (true≢false (sym (test_reference m is_null (10 ∷ r)) ∙ ap begins_reference same ∙ two_no_reference p c d
    (10 ∷ q) second))

pub def_read : (d e : Def) → ReadsDefs d e
def_read d = by_parts (λ x. (e : Def) → ReadsDefs x e)
    (λ o a b. by_parts (ReadsDefs (def_with o a b)) (two_and_two o a b) (two_and_test o a b))
    (λ m is_null. by_parts (ReadsDefs (NullTest m is_null)) (test_and_two m is_null)
    (λ n b r q first second same. test_read m n is_null b r q first second same))
    d
