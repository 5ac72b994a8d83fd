-- Names are written from the last key to the first, so that of two keys of one symbol the first one names it.
use Rattle.std.proofs.Common.{◌≡◌, ◌≢◌, ℕ, zero, suc, ◌+◌, ◌<◌, ◌≤◌, ◌==◌, nat_lt, ℤ, pos, ◌+ℤ◌, Bool, true, false, not, ◌&&◌, cond, if◌then◌else◌, List, [], ◌∷◌, length, get_or, set, take, drop, ◌++◌, append-nil, drop-cons, map, replicate, Option, Some, None, refl, sym, ap, ◌∙◌, subst, arith, inl, inr}
use Rattle.std.specs.List.{position, position_or_len, range_with_len}
use Rattle.std.specs.Ordering.{int_eq}
use Rattle.std.proofs.lemmas.Bool.{cases_Bool, cases_lt, eq-eqb, false≢true}
use Rattle.std.proofs.lemmas.Bool.Decides.{Decides-eqb, Decides-int_eq, nat_tests}
use Rattle.std.proofs.lemmas.List.{get_or_past, drop_all, take_all, length-set, length-replicate, get_or-replicate, get_or-set_same, get_or-set_other, ext_get_or}
use Rattle.std.proofs.lemmas.List.FromFn.{length-map-range_with_len, get_or-map-range_with_len}
use Rattle.std.proofs.lemmas.Int.{ints}
use Rattle.domain_api.specs.declared.expr.Expr.{Expr}
use Rattle.symbolic_values.specs.declared.pairs.Key.{Key}
use Rattle.symbolic_values.specs.Pairing.{Pairing, same_key, origin, use_of}
use Rattle.symbolic_values.specs.Names.{as_expr, named_at, paired_expr, are_same_constant}
use Rattle.symbolic_values.specs.OwnNames.{own_name, own_names, is_own, with_own}
use Rattle.symbolic_values.specs.Worth.{NamesAgree, worth, behind_uses}
use Rattle.symbolic_values.proofs.PairedMeaning.{paired_expr_worth}
use Rattle.symbolic_values.proofs.Keys.{HaveOneKey, same_key_is}

-- The key is that of this symbol paired with itself.
abbrev pub is_of : ℕ → Key → Bool
is_of s u = same_key (use_of (as_expr s) (as_expr s)) u

-- The first place of a key of this symbol, where the keys stand from a place on.
abbrev pub place_from : ℕ → ℕ → List Key → Option ℕ
place_from s i [] = None
place_from s i (u ∷ us) = if is_of s u then Some i else place_from s (suc i) us

one_more : (n : ℕ) → 1 + n ≡ suc n
one_more n = omega arith

-- ---- the first place is the one that is found

place_is : (s i : ℕ) (us : List Key) → place_from s i us ≡ cond (nat_lt (position_or_len (is_of s) us) (length us)) (Some (i + position_or_len (is_of s) us)) None
place_is s i [] = refl
place_is s i (u ∷ us) =
    elim (is_of s u) as (λ b. (if b then Some i else place_from s (suc i) us)
    ≡ cond (nat_lt (cond (not b) (1 + position_or_len (is_of s) us) 0) (suc (length us))) (Some (i + cond (not b) (1 + position_or_len (is_of s) us) 0)) None) [
      | true ↦ ap (λ n. Some n) (none i) ∙ ap (λ b. cond b (Some (i + 0)) None) (first_below (length us))
      | false ↦
          place_is s (suc i) us
          ∙ ap (λ n. cond (nat_lt (position_or_len (is_of s) us) (length us)) (Some n) None) (shift i (position_or_len (is_of s) us))
          ∙ ap (λ b. cond b (Some (i + suc (position_or_len (is_of s) us))) None) (both_more (position_or_len (is_of s) us) (length us))
          ∙ ap (λ n. cond (nat_lt n (suc (length us))) (Some (i + n)) None) (sym (one_more (position_or_len (is_of s) us)))
    ]
  where
    none : (n : ℕ) → n ≡ n + 0
    none n = omega arith

    first_below : (n : ℕ) → true ≡ nat_lt 0 (suc n)
    first_below n = grind (arith, nat_tests)

    shift : (a b : ℕ) → suc a + b ≡ a + suc b
    shift a b = omega arith

    both_more : (a b : ℕ) → nat_lt a b ≡ nat_lt (suc a) (suc b)
    both_more a b = grind (arith, nat_tests)

found : (s : ℕ) (us : List Key) → place_from s 0 us ≡ position (is_of s) us
found s us = place_is s 0 us ∙ ap (λ n. cond (nat_lt (position_or_len (is_of s) us) (length us)) (Some n) None) (none (position_or_len (is_of s) us))
  where
    none : (n : ℕ) → 0 + n ≡ n
    none n = omega arith

-- ---- one key more

-- The names that the keys from a place on give.
pub record NamesFrom (pairs : Pairing) (count i : ℕ) (names : List (Option Expr)) : Type 0 where
  pub within : i ≤ length pairs.keys
  pub long : length names ≡ count
  pub each : (s : ℕ) → s < count → get_or names s None ≡ named_at pairs (pos 0) (place_from s i (drop i pairs.keys))

pub names_begin : (pairs : Pairing) (count i : ℕ) → i ≡ length pairs.keys → NamesFrom pairs count i (replicate count None)
names_begin pairs count i end =
    let none : drop i pairs.keys ≡ [] = drop_all i pairs.keys (omega (arith, end)) in
    record {
      within = omega (arith, end);
      long = length-replicate count None;
      each = λ s below. get_or-replicate count s None None below ∙ ap (λ us. named_at pairs (pos 0) (place_from s i us)) (sym none);
    }

own : (u : Key) (s : ℕ) → is_of s u ≡ true → (is_own u ≡ true) × (u.s ≡ s)
own u s is =
    let one : HaveOneKey (use_of (as_expr s) (as_expr s)) u = same_key_is (use_of (as_expr s) (as_expr s)) u is in
    let first : s ≡ u.s = one.first_symbol in
    let second : s ≡ u.t = one.second_symbol in
    let shift : pos 0 ≡ u.shift = one.shifts in
    (ap (λ b. b && int_eq u.shift (pos 0)) (eq-eqb u.s u.t (sym first ∙ second)) ∙ ap (λ z. int_eq z (pos 0)) (sym shift), sym first)

other : (u : Key) (s : ℕ) → is_own u ≡ true → is_of s u ≡ false → s ≢ u.s
other u s own_is other_is same =
    let parts = and_both (u.s == u.t) (int_eq u.shift (pos 0)) own_is in
    let second : s ≡ u.t = same ∙ (Decides-eqb u.s u.t).0 parts.0 in
    let shift : u.shift ≡ pos 0 = (Decides-int_eq u.shift (pos 0)).0 parts.1 in
    false≢true (sym other_is ∙ ap (λ b. b && (s == u.t && int_eq (pos 0) u.shift)) (eq-eqb s u.s same)
    ∙ ap (λ b. b && int_eq (pos 0) u.shift) (eq-eqb s u.t second) ∙ ap (int_eq (pos 0)) shift)
  where
    and_both : (a b : Bool) → (a && b) ≡ true → (a ≡ true) × (b ≡ true)
    and_both true true is = (refl, refl)
    and_both true false is = cc
    and_both false b is = cc

name_one : (names : List (Option Expr)) (u : Key) (s : ℕ) (name rest : Option Expr) → s < length names → get_or names s None ≡ rest
    → get_or (if is_own u then set names u.s name else names) s None ≡ (if is_of s u then name else rest)
name_one names u s name rest below before =
    elim (cases_Bool (is_of s u)) [
      | inl here ↦
          let both = own u s here in
          ap (λ b. get_or (if b then set names u.s name else names) s None) both.0 ∙ ap (λ n. get_or (set names n name) s None) both.1
          ∙ get_or-set_same names s name None below ∙ sym (ap (λ b. if b then name else rest) here)
      | inr there ↦
          kept there ∙ before ∙ sym (ap (λ b. if b then name else rest) there)
    ]
  where
    kept : is_of s u ≡ false → get_or (if is_own u then set names u.s name else names) s None ≡ get_or names s None
    kept there =
        elim (cases_Bool (is_own u)) [
          | inl is ↦ ap (λ b. get_or (if b then set names u.s name else names) s None) is ∙ get_or-set_other names u.s s name None (other u s is there)
          | inr is ↦ ap (λ b. get_or (if b then set names u.s name else names) s None) is
        ]

name_of_choice : (pairs : Pairing) (i : ℕ) (rest : Option ℕ) (here : Bool) → (if here then named_at pairs (pos 0) (Some i) else named_at pairs (pos 0) rest)
    ≡ named_at pairs (pos 0) (if here then Some i else rest)
name_of_choice pairs i rest true = refl
name_of_choice pairs i rest false = refl

long_choice : (names : List (Option Expr)) (s : ℕ) (name : Option Expr) (here : Bool) → length (if here then set names s name else names) ≡ length names
long_choice names s name true = length-set names s name
long_choice names s name false = refl

pub names_more : (pairs : Pairing) (count i : ℕ) (names : List (Option Expr)) → i < length pairs.keys → NamesFrom pairs count (suc i) names
    → NamesFrom pairs count i (with_own pairs i names)
names_more pairs count i names inside so_far =
    let u : Key = get_or pairs.keys i origin in
    let split : drop i pairs.keys ≡ u ∷ drop (suc i) pairs.keys = drop-cons pairs.keys i origin inside in
    record {
      within = omega (arith, inside);
      long = long_choice names u.s (named_at pairs (pos 0) (Some i)) (is_own u) ∙ so_far.long;
      each = λ s below.
          name_one names u s (named_at pairs (pos 0) (Some i)) (named_at pairs (pos 0) (place_from s (suc i) (drop (suc i) pairs.keys)))
          (subst (λ n. s < n) (sym so_far.long) below) (so_far.each s below)
          ∙ name_of_choice pairs i (place_from s (suc i) (drop (suc i) pairs.keys)) (is_of s u)
          ∙ ap (λ us. named_at pairs (pos 0) (place_from s i us)) (sym split);
    }

-- ---- all names

plain_name : (pairs : Pairing) (s : ℕ) → s ≢ 0 → own_name pairs s ≡ named_at pairs (pos 0) (position (is_of s) pairs.keys)
plain_name pairs s other =
    elim (cases_Bool (s == 0)) [
      | inl is ↦ absurd (other ((Decides-eqb s 0).0 is))
      | inr is ↦ ap (λ b. if b && (b && int_eq (pos 0) (pos 0)) then Some (as_expr s) else named_at pairs (pos 0) (position (is_of s) pairs.keys)) is
    ]

pub names_end : (pairs : Pairing) (count i : ℕ) (names : List (Option Expr)) → i ≡ 0 → NamesFrom pairs count i names
    → set names 0 (Some (as_expr 0)) ≡ own_names pairs count
names_end pairs count i names zero_is so_far =
    ext_get_or None (set names 0 (Some (as_expr 0))) (own_names pairs count)
    (length-set names 0 (Some (as_expr 0)) ∙ so_far.long ∙ sym (length-map-range_with_len (own_name pairs) 0 count))
    (λ s inside. let below : s < count = omega (arith, inside, length-set names 0 (Some (as_expr 0)), so_far.long) in
    at s below ∙ sym (get_or-map-range_with_len (own_name pairs) 0 count s s None below (from_zero s)))
  where
    from_zero : (n : ℕ) → 0 + n ≡ n
    from_zero n = omega arith

    at : (s : ℕ) → s < count → get_or (set names 0 (Some (as_expr 0))) s None ≡ own_name pairs s
    at zero below = get_or-set_same names 0 (Some (as_expr 0)) None (subst (λ n. 0 < n) (sym so_far.long) below)
    at (suc s) below =
        let other : suc s ≢ 0 = λ same. absurd (omega (arith, same)) in
        get_or-set_other names 0 (suc s) (Some (as_expr 0)) None other ∙ so_far.each (suc s) below
        ∙ ap (λ n. named_at pairs (pos 0) (place_from (suc s) n (drop n pairs.keys))) zero_is
        ∙ ap (named_at pairs (pos 0)) (found (suc s) pairs.keys) ∙ sym (plain_name pairs (suc s) other)

-- ---- each name is worth what its symbol is

plain_worth : (n : ℤ) → n ≡ (n +ℤ pos 0)
plain_worth n = omega (arith, ints)

zero_plus : (n : ℕ) → 0 + n ≡ n
zero_plus n = omega arith

-- The number of each symbol is that of its name, under the choice behind the keys.
pub own_names_agree : (pairs : Pairing) (count : ℕ) (number : ℕ → ℤ) → NamesAgree (own_names pairs count) number (behind_uses true number (origin ∷ pairs.keys))
own_names_agree pairs count number s name at =
    elim (cases_lt s count) [
      | inl below ↦
          plain_worth (number s)
          ∙ sym (paired_expr_worth true number pairs (as_expr s) (as_expr s) name
          (sym (get_or-map-range_with_len (own_name pairs) 0 count s s None below (zero_plus s)) ∙ at))
      | inr past ↦
          none_is (sym (get_or_past (own_names pairs count) s None (omega (arith, past, length-map-range_with_len (own_name pairs) 0 count))) ∙ at)
    ]
  where
    none_is : None ≡ Some name → number s ≡ worth (behind_uses true number (origin ∷ pairs.keys)) name
    none_is is = cc

-- ---- a list behind a write to all of it

pub written : (new old : List (Option Expr)) (size : ℕ) → size ≡ length old → length new ≡ length old → take size (new ++ drop (length new) old) ≡ new
written new old size size_is long =
    ap (λ l. take size (new ++ l)) (drop_all (length new) old (omega (arith, long))) ∙ ap (take size) (append-nil new)
    ∙ take_all size new (omega (arith, size_is, long))

pub long_own : (pairs : Pairing) (place : ℕ) (names : List (Option Expr)) → length (with_own pairs place names) ≡ length names
long_own pairs place names =
    long_choice names (get_or pairs.keys place origin).s (named_at pairs (pos 0) (Some place)) (is_own (get_or pairs.keys place origin))
