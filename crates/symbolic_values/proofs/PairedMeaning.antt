-- What two states share says in the state of both what it said in each.
use Rattle.std.proofs.Common.{◌≡◌, ℕ, ◌+◌, ◌==◌, ℤ, pos, ◌+ℤ◌, ◌-ℤ◌, Bool, true, false, ◌&&◌, int_lt, nat_lt, if◌then◌else◌, List, ◌∷◌, get_or, Option, None, Some, refl, sym, ap, ◌∙◌, arith, add-one}
use Rattle.std.specs.List.{position}
use Rattle.std.specs.Ordering.{int_eq}
use Rattle.std.proofs.lemmas.Int.{ints}
use Rattle.std.proofs.lemmas.Bool.Decides.{Decides-int_eq, Decides-eqb}
use Rattle.std.proofs.lemmas.List.Quantifiers.{position-Some}
use Rattle.domain_api.specs.declared.expr.Expr.{Expr}
use Rattle.symbolic_values.specs.declared.def.Def.{Def}
use Rattle.symbolic_values.specs.declared.def.Def.TheVariants.{Eq, Lt, LtUn, NullTest, Sub}
use Rattle.symbolic_values.specs.declared.pairs.Key.{Key}
use Rattle.symbolic_values.specs.Pairing.{Pairing, same_key, origin, use_of}
use Rattle.symbolic_values.specs.Names.{fitting, named_at, are_same_constant, paired_expr, as_expr, symbol_of, paired_reference, null_test, where_same, paired_def}
use Rattle.symbolic_values.specs.Worth.{worth, worth_of_use, behind_uses}
use Rattle.symbolic_values.specs.Meaning.{null_behind, truth, told}
use Rattle.symbolic_values.proofs.Keys.{HaveOneKey, same_key_is}
use Rattle.symbolic_values.proofs.WorthLaws.{worth_later, zero_behind}
use Rattle.symbolic_values.proofs.MeaningLaws.{fitting_is, both_told, null_told}

-- ---- expressions

second_worth : (number k l : ℤ) → (number +ℤ (k +ℤ (l -ℤ k))) ≡ (number +ℤ l)
second_worth number k l = omega (arith, ints)

use_worth : (is_first : Bool) (number : ℕ → ℤ) (e f : Expr) → worth_of_use is_first number (use_of e f) ≡ worth number (if is_first then e else f)
use_worth true number e f = refl
use_worth false number e f = second_worth (number f.sym) e.k f.k

at_place : (is_first : Bool) (number : ℕ → ℤ) (pairs : Pairing) (e f g : Expr) (place : ℕ) → same_key (use_of e f) (get_or pairs.keys place origin) ≡ true
    → record { sym = place + 1; k = e.k -ℤ (get_or pairs.keys place origin).first } ≡ g
    → worth (behind_uses is_first number (origin ∷ pairs.keys)) g ≡ worth number (if is_first then e else f)
at_place is_first number pairs e f g place same g_is =
    let known = origin ∷ pairs.keys in
    let first : Key = get_or pairs.keys place origin in
    ap (worth (behind_uses is_first number known)) (sym g_is)
    ∙ ap (λ n. behind_uses is_first number known n +ℤ (e.k -ℤ first.first)) (add-one place)
    ∙ worth_later is_first number (use_of e f) first (same_key_is (use_of e f) first same)
    ∙ use_worth is_first number e f

named_by : (is_first : Bool) (number : ℕ → ℤ) (pairs : Pairing) (e f g : Expr) (found : Option ℕ) → position (same_key (use_of e f)) pairs.keys ≡ found
    → named_at pairs e.k found ≡ Some g → worth (behind_uses is_first number (origin ∷ pairs.keys)) g ≡ worth number (if is_first then e else f)
named_by is_first number pairs e f g None at is = cc
named_by is_first number pairs e f g (Some place) at is = by (nat_lt place 4294967295) is
  where
    first : ℤ
    first = (get_or pairs.keys place origin).first

    by : (few : Bool) → (if few then fitting (place + 1) (e.k -ℤ (get_or pairs.keys place origin).first) else None) ≡ Some g
        → worth (behind_uses is_first number (origin ∷ pairs.keys)) g ≡ worth number (if is_first then e else f)
    by true made =
        at_place is_first number pairs e f g place (position-Some (same_key (use_of e f)) pairs.keys place origin at).1
        (fitting_is (place + 1) (e.k -ℤ (get_or pairs.keys place origin).first) g _ made)
    by false made = cc

three : (a b c : Bool) → (a && (b && c)) ≡ true → (a ≡ true) × (b ≡ true) × (c ≡ true)
three true true true is = (refl, refl, refl)
three true true false is = cc
three true false c is = cc
three false b c is = cc

constant_by : (is_first : Bool) (number : ℕ → ℤ) (pairs : Pairing) (e f : Expr) → e.sym ≡ 0 → f.sym ≡ 0 → e.k ≡ f.k
    → worth (behind_uses is_first number (origin ∷ pairs.keys)) e ≡ worth number (if is_first then e else f)
constant_by is_first number pairs e f first second same =
    ap (λ n. behind_uses is_first number (origin ∷ pairs.keys) n +ℤ e.k) first
    ∙ ap (λ n. n +ℤ e.k) (zero_behind is_first number pairs.keys) ∙ sides is_first
  where
    sides : (side : Bool) → (number 0 +ℤ e.k) ≡ worth number (if side then e else f)
    sides true = ap (λ n. number n +ℤ e.k) (sym first)
    sides false = ap (λ n. number n +ℤ e.k) (sym second) ∙ ap (λ k. number f.sym +ℤ k) same

-- The expression for two is worth, under the choice behind the keys, what each of the two is worth on its side.
pub paired_expr_worth : (is_first : Bool) (number : ℕ → ℤ) (pairs : Pairing) (e f g : Expr) → paired_expr pairs e f ≡ Some g
    → worth (behind_uses is_first number (origin ∷ pairs.keys)) g ≡ worth number (if is_first then e else f)
paired_expr_worth is_first number pairs e f g is = by (are_same_constant e f) refl is
  where
    by : (constant : Bool) → are_same_constant e f ≡ constant
        → (if constant then Some e else named_at pairs e.k (position (same_key (use_of e f)) pairs.keys)) ≡ Some g
        → worth (behind_uses is_first number (origin ∷ pairs.keys)) g ≡ worth number (if is_first then e else f)
    by true constant made =
        let parts = three (e.sym == 0) (f.sym == 0) (int_eq e.k f.k) constant in
        let g_is : e ≡ g = cc in
        ap (worth (behind_uses is_first number (origin ∷ pairs.keys))) (sym g_is)
        ∙ constant_by is_first number pairs e f ((Decides-eqb e.sym 0).0 parts.0) ((Decides-eqb f.sym 0).0 parts.1) ((Decides-int_eq e.k f.k).0 parts.2)
    by false constant made = named_by is_first number pairs e f g (position (same_key (use_of e f)) pairs.keys) refl made

-- ---- definitions

reference_at : (is_first : Bool) (is_null : ℕ → Bool) (keys : List Key) (r q p place : ℕ) → same_key (use_of (as_expr r) (as_expr q)) (get_or keys place origin) ≡ true
    → place + 1 ≡ p → null_behind is_first is_null (origin ∷ keys) p ≡ is_null (if is_first then r else q)
reference_at is_first is_null keys r q p place same p_is =
    let one : HaveOneKey (use_of (as_expr r) (as_expr q)) (get_or keys place origin) = same_key_is (use_of (as_expr r) (as_expr q)) (get_or keys place origin) same in
    ap (null_behind is_first is_null (origin ∷ keys)) (sym p_is) ∙ ap (null_behind is_first is_null (origin ∷ keys)) (add-one place)
    ∙ ap (λ s. is_null (if is_first then s else (get_or keys place origin).t)) (sym one.first_symbol) ∙ ap (λ t. is_null (if is_first then r else t)) (sym one.second_symbol)

reference_by : (is_first : Bool) (is_null : ℕ → Bool) (pairs : Pairing) (r q p : ℕ) (found : Option ℕ) → position (same_key (use_of (as_expr r) (as_expr q))) pairs.keys ≡ found
    → symbol_of (named_at pairs (pos 0) found) ≡ Some p → null_behind is_first is_null (origin ∷ pairs.keys) p ≡ is_null (if is_first then r else q)
reference_by is_first is_null pairs r q p None at is = cc
reference_by is_first is_null pairs r q p (Some place) at is = by (nat_lt place 4294967295) is
  where
    made_by : (name : Option Expr) → fitting (place + 1) (pos 0 -ℤ (get_or pairs.keys place origin).first) ≡ name → symbol_of name ≡ Some p → place + 1 ≡ p
    made_by None name_is made = cc
    made_by (Some g) name_is made =
        let g_is : record { sym = place + 1; k = pos 0 -ℤ (get_or pairs.keys place origin).first } ≡ g = fitting_is (place + 1) (pos 0 -ℤ (get_or pairs.keys place origin).first) g _ name_is in
        let sym_is : g.sym ≡ p = cc in
        ap (λ (e : Expr). e.sym) g_is ∙ sym_is

    by : (few : Bool) → symbol_of (if few then fitting (place + 1) (pos 0 -ℤ (get_or pairs.keys place origin).first) else None) ≡ Some p
        → null_behind is_first is_null (origin ∷ pairs.keys) p ≡ is_null (if is_first then r else q)
    by true made =
        reference_at is_first is_null pairs.keys r q p place (position-Some (same_key (use_of (as_expr r) (as_expr q))) pairs.keys place origin at).1
        (made_by (fitting (place + 1) (pos 0 -ℤ (get_or pairs.keys place origin).first)) refl made)
    by false made = cc

-- The reference for two is null, under the choice behind the keys, where each of the two is on its side.
pub paired_reference_null : (is_first : Bool) (is_null : ℕ → Bool) (pairs : Pairing) (r q p : ℕ) → paired_reference pairs r q ≡ Some p
    → null_behind is_first is_null (origin ∷ pairs.keys) p ≡ is_null (if is_first then r else q)
paired_reference_null is_first is_null pairs r q p is = by (are_same_constant (as_expr r) (as_expr q)) refl is
  where
    zeros : (side : Bool) → 0 ≡ r → 0 ≡ q → null_behind side is_null (origin ∷ pairs.keys) 0 ≡ is_null (if side then r else q)
    zeros true first second = ap is_null first
    zeros false first second = ap is_null second

    by : (constant : Bool) → are_same_constant (as_expr r) (as_expr q) ≡ constant
        → symbol_of (if constant then Some (as_expr r) else named_at pairs (pos 0) (position (same_key (use_of (as_expr r) (as_expr q))) pairs.keys)) ≡ Some p
        → null_behind is_first is_null (origin ∷ pairs.keys) p ≡ is_null (if is_first then r else q)
    by true constant made =
        let parts = three (r == 0) (q == 0) (int_eq (pos 0) (pos 0)) constant in
        let r_zero : r ≡ 0 = (Decides-eqb r 0).0 parts.0 in
        let q_zero : q ≡ 0 = (Decides-eqb q 0).0 parts.1 in
        let p_is : r ≡ p = cc in
        ap (null_behind is_first is_null (origin ∷ pairs.keys)) (sym p_is ∙ r_zero) ∙ zeros is_first (sym r_zero) (sym q_zero)
    by false constant made = reference_by is_first is_null pairs r q p (position (same_key (use_of (as_expr r) (as_expr q))) pairs.keys) refl made

flags : (is also : Bool) (made : Option Def) (new : Def) → where_same is also made ≡ Some new → (is ≡ also) × (made ≡ Some new)
flags true true made new is = (refl, is)
flags true false made new is = cc
flags false true made new is = cc
flags false false made new is = (refl, is)

-- A definition that both states have says, under the choices behind the keys, what it said on each side.
pub paired_told : (below : ℤ → ℤ → Bool) (number : ℕ → ℤ) (is_null : ℕ → Bool) (is_first : Bool) (pairs references : Pairing) (a b new : Def)
    → paired_def pairs references a b ≡ Some new
    → told below (behind_uses is_first number (origin ∷ pairs.keys)) (null_behind is_first is_null (origin ∷ references.keys)) new ≡ told below number is_null (if is_first then a else b)
paired_told below number is_null true pairs references (Eq x y) (Eq z w) new is =
    sym (both_told below number _ is_null _ (λ a b. Eq a b) (λ m n. truth (int_eq m n)) x y (paired_expr pairs x z) (paired_expr pairs y w) new (λ m n u v. refl)
    (λ f at. sym (paired_expr_worth true number pairs x z f at)) (λ f at. sym (paired_expr_worth true number pairs y w f at)) is)
paired_told below number is_null false pairs references (Eq x y) (Eq z w) new is =
    sym (both_told below number _ is_null _ (λ a b. Eq a b) (λ m n. truth (int_eq m n)) z w (paired_expr pairs x z) (paired_expr pairs y w) new (λ m n u v. refl)
    (λ f at. sym (paired_expr_worth false number pairs x z f at)) (λ f at. sym (paired_expr_worth false number pairs y w f at)) is)
paired_told below number is_null true pairs references (Lt x y) (Lt z w) new is =
    sym (both_told below number _ is_null _ (λ a b. Lt a b) (λ m n. truth (int_lt m n)) x y (paired_expr pairs x z) (paired_expr pairs y w) new (λ m n u v. refl)
    (λ f at. sym (paired_expr_worth true number pairs x z f at)) (λ f at. sym (paired_expr_worth true number pairs y w f at)) is)
paired_told below number is_null false pairs references (Lt x y) (Lt z w) new is =
    sym (both_told below number _ is_null _ (λ a b. Lt a b) (λ m n. truth (int_lt m n)) z w (paired_expr pairs x z) (paired_expr pairs y w) new (λ m n u v. refl)
    (λ f at. sym (paired_expr_worth false number pairs x z f at)) (λ f at. sym (paired_expr_worth false number pairs y w f at)) is)
paired_told below number is_null true pairs references (LtUn x y) (LtUn z w) new is =
    sym (both_told below number _ is_null _ (λ a b. LtUn a b) (λ m n. truth (below m n)) x y (paired_expr pairs x z) (paired_expr pairs y w) new (λ m n u v. refl)
    (λ f at. sym (paired_expr_worth true number pairs x z f at)) (λ f at. sym (paired_expr_worth true number pairs y w f at)) is)
paired_told below number is_null false pairs references (LtUn x y) (LtUn z w) new is =
    sym (both_told below number _ is_null _ (λ a b. LtUn a b) (λ m n. truth (below m n)) z w (paired_expr pairs x z) (paired_expr pairs y w) new (λ m n u v. refl)
    (λ f at. sym (paired_expr_worth false number pairs x z f at)) (λ f at. sym (paired_expr_worth false number pairs y w f at)) is)
paired_told below number is_null true pairs references (Sub x y) (Sub z w) new is =
    sym (both_told below number _ is_null _ (λ a b. Sub a b) (λ m n. m -ℤ n) x y (paired_expr pairs x z) (paired_expr pairs y w) new (λ m n u v. refl)
    (λ f at. sym (paired_expr_worth true number pairs x z f at)) (λ f at. sym (paired_expr_worth true number pairs y w f at)) is)
paired_told below number is_null false pairs references (Sub x y) (Sub z w) new is =
    sym (both_told below number _ is_null _ (λ a b. Sub a b) (λ m n. m -ℤ n) z w (paired_expr pairs x z) (paired_expr pairs y w) new (λ m n u v. refl)
    (λ f at. sym (paired_expr_worth false number pairs x z f at)) (λ f at. sym (paired_expr_worth false number pairs y w f at)) is)
paired_told below number is_null true pairs references (NullTest r flag) (NullTest q also) new is =
    let same = flags flag also (null_test (paired_reference references r q) flag) new is in
    sym (null_told below number _ is_null _ r flag (paired_reference references r q) new (λ p at. sym (paired_reference_null true is_null references r q p at)) same.1)
paired_told below number is_null false pairs references (NullTest r flag) (NullTest q also) new is =
    let same = flags flag also (null_test (paired_reference references r q) flag) new is in
    sym (null_told below number _ is_null _ q flag (paired_reference references r q) new (λ p at. sym (paired_reference_null false is_null references r q p at)) same.1)
    ∙ ap (λ b. told below number is_null (NullTest q b)) same.0
paired_told below number is_null is_first pairs references _ _ new is = cc
