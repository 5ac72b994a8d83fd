-- Rows of gaps of which no way through a third key tells more are tight over any ranges.
use Rattle.std.proofs.Common.{◌≡◌, ◌≢◌, ℕ, zero, suc, ◌+◌, ◌<◌, ℤ, pos, ◌+ℤ◌, ◌≤ℤ◌, true, false, List, [], ◌∷◌, length, map, get_or, Option, Some, None, refl, sym, ap, subst, ◌∙◌, add-one, arith, inl, inr}
use Rattle.std.specs.Prelude.{int_lt}
use Rattle.std.specs.List.{AllByRecursion}
use Rattle.std.proofs.lemmas.Bool.{cases_Bool}
use Rattle.std.proofs.lemmas.Int.{ints}
use Rattle.std.proofs.lemmas.List.{length-map}
use Rattle.interval_domain.specs.Interval.{Interval, one}
use Rattle.pentagon_domain.specs.declared.bound_row.BoundRow.{BoundRow}
use Rattle.pentagon_domain.specs.Gaps.{AreBelow}
use Rattle.pentagon_domain.specs.Rows.{stored}
use Rattle.pentagon_domain.specs.Tight.{AreTightOver, apart, is_told, no_ends}
use Rattle.pentagon_domain.proofs.StoredPairs.{tight_by_sums}
use Rattle.symbolic_values.specs.declared.pairs.Key.{Key}
use Rattle.merged_numbers.specs.Merging.{is_constant, rows_of, told}
use Rattle.merged_numbers.specs.Settled.{ends_at, ends_of}
use Rattle.merged_numbers.proofs.FormLaws.{bounds_below}
use Rattle.merged_numbers.proofs.StoredRows.{IsGap, gap_at, rows_form, rows_gaps, rows_stored}

-- Gaps of keys are closed: each is known and near, and no way through a third key tells more.
pub record AreClosed (gap : Key → Key → Option ℤ) (keys : List Key) : Type 0 where
  pub amount : ℕ → ℕ → ℤ
  pub is : (i j : ℕ) → i < length keys → j < length keys → gap_at gap keys i j ≡ Some (amount i j)
  pub constant : (i j : ℕ) → i < length keys → j < length keys → is_constant (amount i j) ≡ true
  pub through : (i u j : ℕ) → i < length keys → u < length keys → j < length keys → (amount i u +ℤ amount u j) ≤ℤ amount i j

ends_at_place : (rs : List Interval) (i : ℕ) → i < length rs → get_or (map ends_at rs) i no_ends ≡ ends_at (get_or rs i (one (pos 0)))
ends_at_place [] i inside = absurd (omega (arith, inside))
ends_at_place (r ∷ rs) zero inside = refl
ends_at_place (r ∷ rs) (suc i) inside = ends_at_place rs i (omega (arith, inside))

ends_behind : (rs : List Interval) (i : ℕ) → i < length rs → get_or (ends_of rs) (i + 1) no_ends ≡ ends_at (get_or rs i (one (pos 0)))
ends_behind rs i inside = rw (add-one i) (ends_at_place rs i inside)

apart_told : (rs : List Interval) (i j : ℕ) → i < length rs → j < length rs → apart (ends_of rs) (i + 1) (j + 1) ≡ told rs i j
apart_told rs i j inside also = rw (ends_behind rs i inside, ends_behind rs j also) refl

told_stored : (sum far n : ℤ) (known : Option ℤ) → known ≡ Some n → sum ≤ℤ n → is_told sum known far ≡ true
told_stored sum far n None is less = absurd cc
told_stored sum far n (Some k) is less = let same : k ≡ n = some_same k n is in grind (arith, ints)
  where
    some_same : (k l : ℤ) → Some k ≡ Some l → k ≡ l
    some_same k l is = cc

told_ends : (sum far : ℤ) (known : Option ℤ) → sum ≤ℤ far → is_told sum known far ≡ true
told_ends sum far None less = grind (arith, ints)
told_ends sum far (Some k) less = grind (arith, ints)

upto_far : (sum n far : ℤ) → sum ≤ℤ n → int_lt far n ≡ false → sum ≤ℤ far
upto_far sum n far less told = grind (arith, ints)

-- The sum of the gaps of two pairs of keys behind each other is told.
sum_told : (gap : Key → Key → Option ℤ) (keys : List Key) (rs : List Interval) (i u j : ℕ) → length rs ≡ length keys → i < length keys
    → u < length keys → j < length keys → i ≢ j → (closed : AreClosed gap keys)
    → is_told (closed.amount i u +ℤ closed.amount u j) (stored (rows_of gap keys rs (length keys) []) (i + 1) (j + 1)) (apart (ends_of rs) (i + 1) (j + 1)) ≡ true
sum_told gap keys rs i u j count first middle last distinct closed =
    let rows : List BoundRow = rows_of gap keys rs (length keys) [] in
    let less = closed.through i u j first middle last in
    elim (cases_Bool (int_lt (told rs i j) (closed.amount i j))) [
      | inl more ↦
          told_stored (closed.amount i u +ℤ closed.amount u j) (apart (ends_of rs) (i + 1) (j + 1)) (closed.amount i j) (stored rows (i + 1) (j + 1))
          (rows_stored gap keys rs i j (closed.amount i j) first last
          (record { is = closed.is i j first last; distinct = distinct; more = more; constant = closed.constant i j first last }))
          less
      | inr upto ↦
          rw (apart_told rs i j (omega (arith, count, first)) (omega (arith, count, last)))
          (told_ends (closed.amount i u +ℤ closed.amount u j) (told rs i j) (stored rows (i + 1) (j + 1))
          (upto_far (closed.amount i u +ℤ closed.amount u j) (closed.amount i j) (told rs i j) less upto))
    ]

some_same : (k l : ℤ) → Some k ≡ Some l → k ≡ l
some_same k l is = cc

of_gaps : (gap : Key → Key → Option ℤ) (keys : List Key) (rs : List Interval) (s u t : ℕ) (k l : ℤ) → length rs ≡ length keys → AreClosed gap keys → s ≢ t
    → IsGap gap keys s u k → IsGap gap keys u t l
    → is_told (k +ℤ l) (stored (rows_of gap keys rs (length keys) []) s t) (apart (ends_of rs) s t) ≡ true
of_gaps gap keys rs s u t k l count closed distinct first second =
    let middle : second.from ≡ first.to = omega (arith, first.second, second.first) in
    let one : k ≡ closed.amount first.from first.to =
    some_same k (closed.amount first.from first.to) (sym first.is ∙ closed.is first.from first.to first.inside first.inside_too) in
    let other : l ≡ closed.amount first.to second.to =
    some_same l (closed.amount first.to second.to) (sym (rw middle at second.is) ∙ closed.is first.to second.to first.inside_too second.inside_too) in
    let apart_places : first.from ≢ second.to = λ e. distinct (first.first ∙ ap (λ n. n + 1) e ∙ sym second.second) in
    rw (first.first, second.second, one, other)
    (sum_told gap keys rs first.from first.to second.to count first.inside first.inside_too second.inside_too apart_places closed)

ends_count : (rs : List Interval) (keys : List Key) → length rs ≡ length keys → length (ends_of rs) ≡ length keys + 1
ends_count rs keys count = ap suc (length-map rs ends_at ∙ count) ∙ sym (add-one (length keys))

-- Whatever the ranges are, the rows are tight over these.
pub rows_tight : (gap : Key → Key → Option ℤ) (keys : List Key) (rs : List Interval) → AreClosed gap keys → length rs ≡ length keys
    → AreTightOver (ends_of rs) (rows_of gap keys rs (length keys) [])
rows_tight gap keys rs closed count =
    tight_by_sums (ends_of rs) (rows_of gap keys rs (length keys) []) (rows_form gap keys rs)
    (subst (λ n. AllByRecursion (AreBelow n) (rows_of gap keys rs (length keys) [])) (sym (ends_count rs keys count)) (bounds_below gap keys rs))
    (λ s u t k l distinct first second.
    of_gaps gap keys rs s u t k l count closed distinct (rows_gaps gap keys rs s u k first) (rows_gaps gap keys rs u t l second))
