-- The expressions of a common bound: how many there are, and what they are worth.
use Rattle.std.proofs.Common.{◌≡◌, ◌==◌, ℕ, zero, suc, ◌<◌, ◌≤◌, Bool, true, false, List, [], ◌∷◌, ◌++◌, length, get_or, take, drop, Option, None, Some, unwrap_or, arith, refl, sym, ap, ◌∙◌, length-append, if◌then◌else◌, ◌&&◌, ◌||◌, inl, inr}
use Rattle.std.specs.List.{AllByRecursion, cons_option, filter_map, insert, list_any, position}
use Rattle.std.specs.Ordering.{int_eq}
use Rattle.std.proofs.lemmas.Bool.{and_parts, false≢true, or_cases}
use Rattle.std.proofs.lemmas.Bool.Decides.{Decides-int_eq, Decides-eqb}
use Rattle.domain_api.specs.declared.expr.Expr.{Expr}
use Rattle.symbolic_values.specs.Names.{paired_expr}
use Rattle.symbolic_values.specs.Pairing.{Pairing}
use Rattle.array_segments.specs.CommonBounds.{lowest, paired_exprs, precedes, put, put_all, same_expr, with_must}
use Rattle.array_segments.specs.SegmentLists.{Has}

-- ---- what is so of each of them

module _ {X : Type 0} (W : X → Type 0) where
  pub all_append : (xs ys : List X) → AllByRecursion W xs → AllByRecursion W ys → AllByRecursion W (xs ++ ys)
  all_append [] ys all more = more
  all_append (x ∷ xs) ys all more = (all.0, all_append xs ys all.1 more)

  pub all_take : (n : ℕ) (xs : List X) → AllByRecursion W xs → AllByRecursion W (take n xs)
  all_take zero xs all = tt
  all_take (suc n) [] all = tt
  all_take (suc n) (x ∷ xs) all = (all.0, all_take n xs all.1)

  all_drop : (n : ℕ) (xs : List X) → AllByRecursion W xs → AllByRecursion W (drop n xs)
  all_drop zero xs all = all
  all_drop (suc n) [] all = tt
  all_drop (suc n) (x ∷ xs) all = all_drop n xs all.1

  all_insert : (n : ℕ) (xs : List X) (x : X) → AllByRecursion W xs → W x → AllByRecursion W (insert xs n x)
  all_insert n xs x all is = all_append (take n xs) (x ∷ drop n xs) (all_take n xs all) (is, all_drop n xs all)

module _ (W : Expr → Type 0) where
  put_by : (there : Bool) (exprs : List Expr) (n : ℕ) (expr : Expr) → AllByRecursion W exprs → W expr → AllByRecursion W (if there then exprs else insert exprs n expr)
  put_by true exprs n expr all is = all
  put_by false exprs n expr all is = all_insert W n exprs expr all is

  pub put_all_are : (known exprs : List Expr) → AllByRecursion W known → AllByRecursion W exprs → AllByRecursion W (put_all known exprs)
  put_all_are known [] all more = all
  put_all_are known (expr ∷ exprs) all more =
      put_all_are (put expr known) exprs (put_by (list_any (same_expr expr) known) known (unwrap_or (position (precedes expr) known) (length known)) expr all more.0) more.1

  must_by : (there : Bool) (exprs : List Expr) (must : Expr) → AllByRecursion W exprs → W must → AllByRecursion W (if there then exprs else take 3 exprs ++ must ∷ [])
  must_by true exprs must all is = all
  must_by false exprs must all is = all_append W (take 3 exprs) (must ∷ []) (all_take W 3 exprs all) (is, tt)

  with_must_are : (must : Option Expr) (exprs : List Expr) → AllByRecursion W exprs → ((expr : Expr) → must ≡ Some expr → W expr) → AllByRecursion W (with_must must exprs)
  with_must_are None exprs all is = all
  with_must_are (Some must) exprs all is = must_by (list_any (same_expr must) exprs) exprs must all (is must refl)

  pub lowest_are : (must : Option Expr) (exprs : List Expr) → AllByRecursion W exprs → ((expr : Expr) → must ≡ Some expr → W expr) → AllByRecursion W (lowest must exprs)
  lowest_are must exprs all is = with_must_are must (take 4 exprs) (all_take W 4 exprs all) is

  -- What stands for one of each bound, where what is so of these two makes W so of it.
  module _ (pairs : Pairing) (P Q : Expr → Type 0) (makes : (e f g : Expr) → P e → Q f → paired_expr pairs e f ≡ Some g → W g) where
    cons_are : (name : Option Expr) (rest : List Expr) → ((g : Expr) → name ≡ Some g → W g) → AllByRecursion W rest → AllByRecursion W (cons_option name rest)
    cons_are None rest is all = all
    cons_are (Some g) rest is all = (is g refl, all)

    one_paired : (e : Expr) (second : List Expr) → P e → AllByRecursion Q second → AllByRecursion W (filter_map (λ f. paired_expr pairs e f) second)
    one_paired e [] is all = tt
    one_paired e (f ∷ second) is all = cons_are (paired_expr pairs e f) (filter_map (λ x. paired_expr pairs e x) second) (λ g named. makes e f g is all.0 named) (one_paired e second is all.1)

    pub paired_are : (first second : List Expr) → AllByRecursion P first → AllByRecursion Q second → AllByRecursion W (paired_exprs pairs first second)
    paired_are [] second all more = tt
    paired_are (e ∷ first) second all more = all_append W (filter_map (λ f. paired_expr pairs e f) second) (paired_exprs pairs first second) (one_paired e second all.0 more) (paired_are first second all.1 more)

pub all_alike : {X : Type 0} (xs : List X) → AllByRecursion (λ x. Unit {0}) xs
all_alike [] = tt
all_alike (x ∷ xs) = (tt, all_alike xs)

-- ---- how many there are

take_short : {X : Type 0} (n : ℕ) (xs : List X) → length (take n xs) ≤ n
take_short zero xs = omega arith
take_short (suc n) [] = omega arith
take_short (suc n) (x ∷ xs) = let rest = take_short n xs in omega arith

must_short : (there : Bool) (exprs : List Expr) (must : Expr) → length exprs ≤ 4 → length (if there then exprs else take 3 exprs ++ must ∷ []) ≤ 4
must_short true exprs must few = few
must_short false exprs must few = let prefix = take_short 3 exprs in let both = length-append (take 3 exprs) (must ∷ []) in omega arith

with_must_short : (must : Option Expr) (exprs : List Expr) → length exprs ≤ 4 → length (with_must must exprs) ≤ 4
with_must_short None exprs few = few
with_must_short (Some must) exprs few = must_short (list_any (same_expr must) exprs) exprs must few

pub lowest_short : (must : Option Expr) (exprs : List Expr) → length (lowest must exprs) ≤ 4
lowest_short must exprs = with_must_short must (take 4 exprs) (take_short 4 exprs)

-- ---- what has to be there

pub same_is : (a b : Expr) → same_expr a b ≡ true → b ≡ a
same_is a b same =
    let both = and_parts (a.sym == b.sym) (int_eq a.k b.k) same in
    let symbol : a.sym ≡ b.sym = (Decides-eqb a.sym b.sym).0 both.0 in
    let constant : a.k ≡ b.k = (Decides-int_eq a.k b.k).0 both.1 in
    λ i. record { sym = sym symbol i; k = sym constant i }

has_later : (x must : Expr) (xs : List Expr) → Has must xs → Has must (x ∷ xs)
has_later x must xs has = let k : has.0 < length xs = has.1 in (suc has.0, omega arith, has.2)

pub any_has : (must : Expr) (exprs : List Expr) → list_any (same_expr must) exprs ≡ true → Has must exprs
any_has must [] there = absurd (false≢true there)
any_has must (x ∷ exprs) there = elim (or_cases (same_expr must x) (list_any (same_expr must) exprs) there) [
  | inl same ↦ (0, omega arith, same_is must x same)
  | inr later ↦ has_later x must exprs (any_has must exprs later)
]

pub same_itself : (a : Expr) → same_expr a a ≡ true
same_itself a = by (a.sym == a.sym) (int_eq a.k a.k) ((Decides-eqb a.sym a.sym).1 refl) ((Decides-int_eq a.k a.k).1 refl)
  where
    by : (one other : Bool) → one ≡ true → other ≡ true → (one && other) ≡ true
    by true true x y = refl
    by true false x y = absurd (false≢true y)
    by false other x y = absurd (false≢true x)

pub either : (a b : Bool) → b ≡ true → (a || b) ≡ true
either true b is = refl
either false b is = is

pub left_is : (a b : Bool) → a ≡ true → (a || b) ≡ true
left_is true b is = refl
left_is false b is = absurd (false≢true is)

pub has_any : (must : Expr) (exprs : List Expr) (k : ℕ) → k < length exprs → get_or exprs k must ≡ must → list_any (same_expr must) exprs ≡ true
has_any must [] k under at = absurd (omega arith)
has_any must (x ∷ exprs) zero under at = left_is (same_expr must x) (list_any (same_expr must) exprs) (ap (same_expr must) at ∙ same_itself must)
has_any must (x ∷ exprs) (suc k) under at = either (same_expr must x) (list_any (same_expr must) exprs) (has_any must exprs k (omega arith) at)

end_has : (must : Expr) (exprs : List Expr) → Has must (exprs ++ must ∷ [])
end_has must [] = (0, omega arith, refl)
end_has must (x ∷ exprs) = has_later x must (exprs ++ must ∷ []) (end_has must exprs)

must_has : (there : Bool) (must : Expr) (exprs : List Expr) → list_any (same_expr must) exprs ≡ there → Has must (if there then exprs else take 3 exprs ++ must ∷ [])
must_has true must exprs there = any_has must exprs there
must_has false must exprs there = end_has must (take 3 exprs)

-- What has to be among the lowest is.
pub lowest_has : (must : Expr) (exprs : List Expr) → Has must (lowest (Some must) exprs)
lowest_has must exprs = must_has (list_any (same_expr must) (take 4 exprs)) must (take 4 exprs) refl
