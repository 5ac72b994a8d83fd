-- Sums that are no greater than a gap need no look.
use Rattle.std.proofs.Common.{◌≡◌, ℕ, suc, ℤ, ◌+ℤ◌, ◌≤ℤ◌, ◌+◌, ◌<◌, ◌==◌, true, false, List, [], ◌∷◌, length, get_or, drop, Option, Some, None, refl, sym, ◌∙◌, arith, add-one, drop-cons, inl, inr}
use Rattle.std.specs.Prelude.{int_le, option_map, option_and_then, Bool, not, Result, Ok, Err, OnOk, OnErr}
use Rattle.std.specs.Int.{int_max}
use Rattle.std.specs.List.{AllByRecursion}
use Rattle.std.proofs.lemmas.Bool.{cases_Bool}
use Rattle.std.proofs.lemmas.Bool.Decides.{nat_tests}
use Rattle.std.proofs.lemmas.Int.{ints}
use Rattle.domain_api.specs.Order.{greater_gap}
use Rattle.pentagon_domain.specs.declared.bound_row.BoundRow.{BoundRow}
use Rattle.pentagon_domain.specs.Rows.{is_pair, is_before, is_of, AreBounds, rows_from, rows_to, stored, constant_to, put, with_bound, with_bounds}
use Rattle.pentagon_domain.specs.Gaps.{cut}
use Rattle.pentagon_domain.specs.Most.{AreUpTo, IsLow, IsUpTo, is_idle, is_reached}
use Rattle.pentagon_domain.proofs.Cuts.{greater_gap-none}

-- ---- numbers that no constant exceeds

pub up_more : (k m n : ℤ) → k ≤ℤ m → m ≤ℤ n → k ≤ℤ n
up_more k m n first second = grind (arith, ints)

pub up_to_more : (rows : List BoundRow) (m n : ℤ) → m ≤ℤ n → AreUpTo m rows → AreUpTo n rows
up_to_more [] m n more up = tt
up_to_more (row ∷ rows) m n more up = (λ pair. up_more row.k m n (up.0 pair) more, up_to_more rows m n more up.1)

max_up : (k l m : ℤ) → k ≤ℤ m → l ≤ℤ m → int_max k l ≤ℤ m
max_up k l m first second = grind (arith, ints)

put_up_to : (rows : List BoundRow) (s t : ℕ) (k m : ℤ) → AreUpTo m rows → k ≤ℤ m → AreUpTo m (put rows s t k)
put_up_to [] s t k m up more = (λ _. more, tt)
put_up_to (row ∷ rows) s t k m up more =
    elim (cases_Bool (is_before row s t)) [
      | inl before ↦ rw before (up.0, put_up_to rows s t k m up.1 more)
      | inr behind ↦
          elim (cases_Bool (is_of row s t)) [
            | inl here ↦ rw (behind, here) (λ pair. max_up row.k k m (up.0 pair) more, up.1)
            | inr other ↦ rw (behind, other) (λ _. more, (up.0, up.1))
          ]
    ]

pub with_bound_up_to : (rows : List BoundRow) (s t : ℕ) (k m : ℤ) → AreUpTo m rows → (is_pair s t ≡ true → k ≤ℤ m)
    → AreUpTo m (with_bound rows s t k)
with_bound_up_to rows s t k m up more =
    elim (cases_Bool (is_pair s t)) [ inl pair ↦ rw pair (put_up_to rows s t k m up (more pair)) | inr none ↦ rw none up ]

pub with_bounds_up_to : (rows bounds : List BoundRow) (m : ℤ) → AreUpTo m rows → AreUpTo m bounds → AreUpTo m (with_bounds rows bounds)
with_bounds_up_to rows [] m up more = up
with_bounds_up_to rows (bound ∷ bounds) m up more =
    with_bounds_up_to (with_bound rows bound.s bound.t bound.k) bounds m (with_bound_up_to rows bound.s bound.t bound.k m up more.0) more.1

-- ---- a loop over rows

pub up_to_step : (rows : List BoundRow) (i : ℕ) (m n : ℤ) (d : BoundRow) → i < length rows → m ≤ℤ n → IsUpTo n (get_or rows i d)
    → ((more : ℤ) → m ≤ℤ more → AreUpTo more (drop i rows) → AreUpTo more rows) → (more : ℤ) → n ≤ℤ more → AreUpTo more (drop (i + 1) rows) → AreUpTo more rows
up_to_step rows i m n d inside up is so_far more above rest =
    let split : drop i rows ≡ get_or rows i d ∷ drop (suc i) rows = drop-cons rows i d inside in
    let tail : AreUpTo more (drop (suc i) rows) = rw add-one at rest in
    let first : m ≤ℤ more = up_more m n more up above in
    let here : IsUpTo more (get_or rows i d) = λ pair. up_more (get_or rows i d).k n more (is pair) above in
    so_far more first (rw split (here, tail))

-- ---- what is stored

pub some_same : (k l : ℤ) → Some k ≡ Some l → k ≡ l
some_same k l is = cc

from_up_to : (rows : List BoundRow) (s : ℕ) (m : ℤ) → AreBounds rows → AreUpTo m rows → AllByRecursion (λ row. row.k ≤ℤ m) (rows_from rows s)
from_up_to [] s m form up = tt
from_up_to (row ∷ rows) s m form up =
    let rest = from_up_to rows s m form.2 up.1 in
    elim (cases_Bool (row.s == s)) [ inl here ↦ rw here (up.0 form.0, rest) | inr other ↦ rw other rest ]

constant_up_to : (rows : List BoundRow) (t : ℕ) (m k : ℤ) → AllByRecursion (λ row. row.k ≤ℤ m) rows → constant_to rows t ≡ Some k → k ≤ℤ m
constant_up_to [] t m k up is = absurd cc
constant_up_to (row ∷ rows) t m k up is =
    elim (cases_Bool (row.t == t)) [
      | inl here ↦ let told : Some row.k ≡ Some k = rw here at is in let same = some_same row.k k told in rw (← same) up.0
      | inr other ↦ constant_up_to rows t m k up.1 (rw other at is)
    ]

stored_up_to : (rows : List BoundRow) (s t : ℕ) (m k : ℤ) → AreBounds rows → AreUpTo m rows → stored rows s t ≡ Some k → k ≤ℤ m
stored_up_to rows s t m k form up is = constant_up_to (rows_from rows s) t m k (from_up_to rows s m form up) is

-- ---- sums that are no greater than the lowest gap

low_known : (low : ℤ) (gap : Option ℤ) → greater_gap gap (Some low) ≡ gap → (x : ℤ) → x ≤ℤ low → greater_gap gap (cut x) ≡ gap
unfolding cut
low_known low None is x less = absurd cc
low_known low (Some k) is x less = grind (arith, ints)

sum_up : (k l m low : ℤ) → l ≤ℤ m → int_le (k +ℤ m) low ≡ true → (k +ℤ l) ≤ℤ low
sum_up k l m low less is = grind (arith, ints)

idle_sum : (k most low : ℤ) (gap known : Option ℤ) → ((l : ℤ) → known ≡ Some l → l ≤ℤ most) → int_le (k +ℤ most) low ≡ true → greater_gap gap (Some low) ≡ gap
    → greater_gap gap (option_and_then cut (option_map (λ l. k +ℤ l) known)) ≡ gap
idle_sum k most low gap None up is below = greater_gap-none gap
idle_sum k most low gap (Some l) up is below = low_known low gap below (k +ℤ l) (sum_up k l most low (up l refl) is)

-- What is behind a bound changes no gap, where its constant is idle.
pub idle : (rows : List BoundRow) (u t : ℕ) (k most : ℤ) (low gap : Option ℤ) → AreBounds rows → AreUpTo most rows → is_idle k most low ≡ true → IsLow low gap
    → greater_gap gap (option_and_then cut (option_map (λ l. k +ℤ l) (stored rows u t))) ≡ gap
idle rows u t k most None gap form up is low = absurd cc
idle rows u t k most (Some l) gap form up is low = idle_sum k most l gap (stored rows u t) (λ c there. stored_up_to rows u t most c form up there) is (low l refl)

suc_some : (n : ℕ) → not (suc n == 0) ≡ true
suc_some n = grind (arith, nat_tests)

-- Nothing is stored of a symbol to which no bound goes.
pub unreached : (rows : List BoundRow) (u t : ℕ) → is_reached rows t ≡ false → stored rows u t ≡ None
unreached [] u t none = refl
unreached (row ∷ rows) u t none =
    elim (cases_Bool (row.t == t)) [
      | inl here ↦ let found : is_reached (row ∷ rows) t ≡ true = rw here (suc_some (length (rows_to rows t))) in absurd (both_ways found none)
      | inr past ↦
          let rest : stored rows u t ≡ None = unreached rows u t (rw past at none) in
          elim (cases_Bool (row.s == u)) [ inl same ↦ rw (same, past) rest | inr apart ↦ rw apart rest ]
    ]
  where
    both_ways : {b : Bool} → b ≡ true → b ≡ false → ⊥
    both_ways found none = let both : true ≡ false = sym found ∙ none in cc

nothing_more : (k : ℤ) (gap known : Option ℤ) → known ≡ None → greater_gap gap (option_and_then cut (option_map (λ l. k +ℤ l) known)) ≡ gap
nothing_more k gap known none = rw none (greater_gap-none gap)

-- What is behind a bound changes no gap that is not below the lowest one, and none of a symbol to which no bound goes.
pub idle_at : (rows : List BoundRow) (u t : ℕ) (k most : ℤ) (low gap : Option ℤ) → AreBounds rows → AreUpTo most rows → is_idle k most low ≡ true
    → (is_reached rows t ≡ true → IsLow low gap) → gap ≡ greater_gap gap (option_and_then cut (option_map (λ l. k +ℤ l) (stored rows u t)))
idle_at rows u t k most low gap form up is known =
    elim (cases_Bool (is_reached rows t)) [
      | inl reached ↦ sym (idle rows u t k most low gap form up is (known reached))
      | inr none ↦ sym (nothing_more k gap (stored rows u t) (unreached rows u t none))
    ]

-- The lowest gap is still not above a gap that is raised.
pub still_low : (low gap more : Option ℤ) → IsLow low gap → IsLow low (greater_gap gap more)
still_low low None more is = λ l there. absurd (no_low low l there is)
  where
    no_low : (low : Option ℤ) (l : ℤ) → low ≡ Some l → IsLow low None → ⊥
    no_low low l there is = let none : Some l ≡ None = is l there in cc
still_low low (Some k) None is = is
still_low low (Some k) (Some m) is = λ l there. let below : greater_gap (Some k) (Some l) ≡ Some k = is l there in grind (arith, ints)

-- What is not above the lowest gap is low too.
pub lesser_low : (low l : ℤ) (known : Option ℤ) → IsLow (Some low) known → l ≤ℤ low → greater_gap known (Some l) ≡ known
lesser_low low l None is less = let none : Some low ≡ None = is low refl in absurd cc
lesser_low low l (Some m) is less = let below : greater_gap (Some m) (Some low) ≡ Some m = is low refl in grind (arith, ints)

pub itself_low : (gap : Option ℤ) → IsLow gap gap
itself_low None = λ l is. absurd cc
itself_low (Some k) = λ l is. let same = some_same k l is in rw (← same) (greatest k)
  where
    greatest : (k : ℤ) → greater_gap (Some k) (Some k) ≡ Some k
    greatest k = grind (arith, ints)

-- ---- bounds that gain more

either_up : {E : Type 0} (r : Result (Unit {0}) E) (rows then whole : List BoundRow) (m n : ℤ) → AreUpTo m rows → m ≤ℤ n → (AreUpTo n rows → AreUpTo n whole)
    → OnOk r (then ≡ whole) → OnErr r (then ≡ rows) → AreUpTo n then
either_up (Ok u) rows then whole m n up more step put kept = rw put (step (up_to_more rows m n more up))
either_up (Err e) rows then whole m n up more step put kept = rw kept (up_to_more rows m n more up)

pub bound_up_to : {E : Type 0} (r : Result (Unit {0}) E) (rows then : List BoundRow) (new : BoundRow) (m n : ℤ) → AreUpTo m rows → m ≤ℤ n → IsUpTo n new
    → OnOk r (then ≡ with_bound rows new.s new.t new.k) → OnErr r (then ≡ rows) → AreUpTo n then
bound_up_to r rows then new m n up more is put kept =
    either_up r rows then (with_bound rows new.s new.t new.k) m n up more (λ all. with_bound_up_to rows new.s new.t new.k n all is) put kept

pub bounds_up_to : {E : Type 0} (r : Result (Unit {0}) E) (rows then bounds : List BoundRow) (m n : ℤ) → AreUpTo m rows → m ≤ℤ n → AreUpTo n bounds
    → OnOk r (then ≡ with_bounds rows bounds) → OnErr r (then ≡ rows) → AreUpTo n then
bounds_up_to r rows then bounds m n up more all put kept =
    either_up r rows then (with_bounds rows bounds) m n up more (λ old. with_bounds_up_to rows bounds n old all) put kept
