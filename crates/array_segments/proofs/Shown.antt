-- Facts that a gap shows are true of the numbers, and the searches for a place find them.
use Rattle.std.proofs.Common.{◌≡◌, ℕ, suc, ◌+◌, ◌<◌, ℤ, pos, ◌+ℤ◌, ◌-ℤ◌, ◌≤ℤ◌, ◌<ℤ◌, int_le, Bool, true, inl, inr, List, [], ◌∷◌, length, get_or, Option, None, Some, arith, refl, subst}
use Rattle.std.specs.Prelude.{if◌then◌else◌}
use Rattle.std.proofs.lemmas.Int.{ints}
use Rattle.std.proofs.lemmas.Bool.{and_parts, cond_both, false≢true, or_cases}
use Rattle.std.specs.List.{list_any}
use Rattle.domain_api.specs.declared.expr.Expr.{Expr}
use Rattle.domain_api.specs.Order.{gap_is_at_least}
use Rattle.array_segments.specs.Comparing.{at_most, below, ends_behind, equal, meets, starts_before, starts_by}
use Rattle.array_segments.specs.Loading.{first_place, last_place}
use Rattle.array_segments.specs.Meaning.{AreWorth, Obeys, worth}

le-true : (a b : ℤ) → int_le a b ≡ true → a ≤ℤ b
le-true a b is = omega (arith, ints)

reaches_worth : (gap : Option ℤ) (x y by : ℤ) → ((k : ℤ) → gap ≡ Some k → (x +ℤ k) ≤ℤ y) → gap_is_at_least gap by ≡ true → (x +ℤ by) ≤ℤ y
reaches_worth None x y by law is = absurd (false≢true is)
reaches_worth (Some most) x y by law is = let first : by ≤ℤ most = le-true by most is in let second : (x +ℤ most) ≤ℤ y = law most refl in omega (arith, ints)

-- The test passes for some expression of a bound, and then what it tells is true of the place that they are all worth.
pub some_worth : (number : ℕ → ℤ) (test : Expr → Bool) (P : ℤ → Type 0) (bound : List Expr) (place : ℤ) → ((expr : Expr) → test expr ≡ true → P (worth number expr)) →
    list_any test bound ≡ true → AreWorth number place bound → P place
some_worth number test P [] place each some are = absurd (false≢true some)
some_worth number test P (expr ∷ bound) place each some are =
    elim (or_cases (test expr) (list_any test bound) some) [
      | inl is ↦ subst P are.0 (each expr is)
      | inr later ↦ some_worth number test P bound place each later are.1
    ]

module _ (gap : ℕ → ℕ → Option ℤ) (number : ℕ → ℤ) (obeys : Obeys gap number) where
  pub at_most_worth : (a b : Expr) → at_most gap a b ≡ true → worth number a ≤ℤ worth number b
  at_most_worth a b is =
      let h : (number a.sym +ℤ (a.k -ℤ b.k)) ≤ℤ number b.sym = reaches_worth (gap a.sym b.sym) (number a.sym) (number b.sym) (a.k -ℤ b.k) (obeys a.sym b.sym) is in
      omega (arith, ints)

  pub below_worth : (a b : Expr) → below gap a b ≡ true → worth number a <ℤ worth number b
  below_worth a b is =
      let h : (number a.sym +ℤ ((a.k -ℤ b.k) +ℤ pos 1)) ≤ℤ number b.sym =
      reaches_worth (gap a.sym b.sym) (number a.sym) (number b.sym) ((a.k -ℤ b.k) +ℤ pos 1) (obeys a.sym b.sym) is in
      omega (arith, ints)

  pub equal_worth : (a b : Expr) → equal gap a b ≡ true → worth number a ≡ worth number b
  equal_worth a b is =
      let both = and_parts (at_most gap a b) (at_most gap b a) is in
      let one : worth number a ≤ℤ worth number b = at_most_worth a b both.0 in
      let two : worth number b ≤ℤ worth number a = at_most_worth b a both.1 in
      omega (arith, ints)

  pub starts_by_worth : (at : Expr) (bound : List Expr) (place : ℤ) → starts_by gap at bound ≡ true → AreWorth number place bound → place ≤ℤ worth number at
  starts_by_worth at bound place is are = some_worth number (λ expr. at_most gap expr at) (λ p. p ≤ℤ worth number at) bound place (λ expr. at_most_worth expr at) is are

  pub starts_before_worth : (at : Expr) (bound : List Expr) (place : ℤ) → starts_before gap at bound ≡ true → AreWorth number place bound → place <ℤ worth number at
  starts_before_worth at bound place is are = some_worth number (λ expr. below gap expr at) (λ p. p <ℤ worth number at) bound place (λ expr. below_worth expr at) is are

  pub ends_behind_worth : (at : Expr) (bound : List Expr) (place : ℤ) → ends_behind gap at bound ≡ true → AreWorth number place bound → worth number at <ℤ place
  ends_behind_worth at bound place is are = some_worth number (λ expr. below gap at expr) (λ p. worth number at <ℤ p) bound place (λ expr. below_worth at expr) is are

  pub meets_worth : (at : Expr) (bound : List Expr) (place : ℤ) → meets gap at bound ≡ true → AreWorth number place bound → place ≡ worth number at
  meets_worth at bound place is are = some_worth number (λ expr. equal gap expr at) (λ p. p ≡ worth number at) bound place (λ expr. equal_worth expr at) is are

-- ---- what the searches find

pub last_place_is : {X : Type 0} (test : X → Bool) (P : ℕ → Type 0) (d : X) (found place : ℕ) (xs : List X) → P found →
    ((k : ℕ) → k < length xs → test (get_or xs k d) ≡ true → P (place + k)) → P (last_place test found place xs)
last_place_is test P d found place [] is each = is
last_place_is test P d found place (x ∷ xs) is each =
    last_place_is test P d (if test x then place else found) (suc place) xs
    (cond_both (test x) place found P (λ passes. let e : place + 0 ≡ place = omega arith in subst P e (each 0 (omega arith) passes)) (λ fails. is))
    (λ k under passes. let e : place + suc k ≡ suc place + k = omega arith in subst P e (each (suc k) (omega arith) passes))

pub first_place_is : {X : Type 0} (test : X → Bool) (P : ℕ → Type 0) (d : X) (place : ℕ) (xs : List X) → P (place + length xs) →
    ((k : ℕ) → k < length xs → test (get_or xs k d) ≡ true → P (place + k)) → P (first_place test place xs)
first_place_is test P d place [] behind each = let e : place + 0 ≡ place = omega arith in subst P e behind
first_place_is test P d place (x ∷ xs) behind each =
    cond_both (test x) place (first_place test (suc place) xs) P
    (λ passes. let e : place + 0 ≡ place = omega arith in subst P e (each 0 (omega arith) passes))
    (λ fails. first_place_is test P d (suc place) xs
    (let e : place + suc (length xs) ≡ suc place + length xs = omega arith in subst P e behind)
    (λ k under passes. let e : place + suc k ≡ suc place + k = omega arith in subst P e (each (suc k) (omega arith) passes)))
