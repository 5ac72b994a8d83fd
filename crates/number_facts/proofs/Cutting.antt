-- Ends that are cut by one bound after another.
use Rattle.std.proofs.Common.{◌≡◌, ℕ, suc, ◌==◌, ◌+◌, ◌<◌, ◌≤◌, ℤ, Bool, true, false, not, ◌&&◌, List, [], ◌∷◌, length, get_or, drop, drop-cons, add-one, filter, refl, inl, inr, ◌∙◌}
use Rattle.std.proofs.lemmas.List.{drop_all}
use Rattle.pentagon_domain.specs.declared.bound_row.BoundRow.{BoundRow}
use Rattle.pentagon_domain.specs.Rows.{AreBounds, rows_from, rows_to}
use Rattle.std.proofs.lemmas.Bool.{cases_Bool}
use Rattle.number_facts.specs.Ends.{cut_by_all, lowered_by, raised_by}
use Rattle.number_facts.specs.Facts.{Facts}

-- one more bound
pub cut_more : (by : ℤ → BoundRow → ℤ) (rows : List BoundRow) (i : ℕ) (n now whole : ℤ) (d : BoundRow) → i < length rows
    → now ≡ by n (get_or rows i d) → cut_by_all by (drop i rows) n ≡ whole → cut_by_all by (drop (i + 1) rows) now ≡ whole
cut_more by rows i n now whole d inside becomes so_far =
    let split : drop i rows ≡ get_or rows i d ∷ drop (suc i) rows = drop-cons rows i d inside in
    rw (add-one, becomes) (rw split at so_far)

-- none is left
pub cut_all : (by : ℤ → BoundRow → ℤ) (rows : List BoundRow) (i : ℕ) (n whole : ℤ) → length rows ≤ i → cut_by_all by (drop i rows) n ≡ whole → n ≡ whole
cut_all by rows i n whole past so_far = let none : drop i rows ≡ [] = drop_all i rows past in rw none at so_far

-- ---- those of the bounds that are of a symbol

one_first : (by : ℤ → BoundRow → ℤ) (p : BoundRow → Bool) (row : BoundRow) (rows : List BoundRow) (n : ℤ)
    → cut_by_all by (filter p rows) (cut_by_all by (filter p (row ∷ [])) n) ≡ cut_by_all by (filter p (row ∷ rows)) n
one_first by p row rows n = elim (cases_Bool (p row)) [
  | inl is ↦ rw is refl
  | inr other ↦ rw other refl
]

more_of : (by : ℤ → BoundRow → ℤ) (p : BoundRow → Bool) (rows : List BoundRow) (i : ℕ) (n now whole : ℤ) (d : BoundRow) → i < length rows
    → now ≡ cut_by_all by (filter p (get_or rows i d ∷ [])) n → cut_by_all by (filter p (drop i rows)) n ≡ whole
    → cut_by_all by (filter p (drop (i + 1) rows)) now ≡ whole
more_of by p rows i n now whole d inside becomes so_far =
    let split : drop i rows ≡ get_or rows i d ∷ drop (suc i) rows = drop-cons rows i d inside in
    rw (add-one, becomes) (one_first by p (get_or rows i d) (drop (suc i) rows) n ∙ rw split at so_far)

all_of : (by : ℤ → BoundRow → ℤ) (p : BoundRow → Bool) (rows : List BoundRow) (i : ℕ) (n whole : ℤ) → length rows ≤ i
    → cut_by_all by (filter p (drop i rows)) n ≡ whole → n ≡ whole
all_of by p rows i n whole past so_far = let none : drop i rows ≡ [] = drop_all i rows past in rw none at so_far

pub raised_more : (facts : Facts) (s : ℕ) (rows : List BoundRow) (i : ℕ) (n now whole : ℤ) (d : BoundRow) → i < length rows
    → now ≡ cut_by_all (raised_by facts) (rows_to (get_or rows i d ∷ []) s) n
    → cut_by_all (raised_by facts) (rows_to (drop i rows) s) n ≡ whole
    → cut_by_all (raised_by facts) (rows_to (drop (i + 1) rows) s) now ≡ whole
raised_more facts s rows i n now whole d = more_of (raised_by facts) (λ (row : BoundRow). row.t == s) rows i n now whole d

pub lowered_more : (facts : Facts) (s : ℕ) (rows : List BoundRow) (i : ℕ) (n now whole : ℤ) (d : BoundRow) → i < length rows
    → now ≡ cut_by_all (lowered_by facts) (rows_from (get_or rows i d ∷ []) s) n
    → cut_by_all (lowered_by facts) (rows_from (drop i rows) s) n ≡ whole
    → cut_by_all (lowered_by facts) (rows_from (drop (i + 1) rows) s) now ≡ whole
lowered_more facts s rows i n now whole d = more_of (lowered_by facts) (λ (row : BoundRow). row.s == s) rows i n now whole d

pub raised_all : (facts : Facts) (s : ℕ) (rows : List BoundRow) (i : ℕ) (n whole : ℤ) → length rows ≤ i
    → cut_by_all (raised_by facts) (rows_to (drop i rows) s) n ≡ whole → n ≡ whole
raised_all facts s = all_of (raised_by facts) (λ (row : BoundRow). row.t == s)

pub lowered_all : (facts : Facts) (s : ℕ) (rows : List BoundRow) (i : ℕ) (n whole : ℤ) → length rows ≤ i
    → cut_by_all (lowered_by facts) (rows_from (drop i rows) s) n ≡ whole → n ≡ whole
lowered_all facts s = all_of (lowered_by facts) (λ (row : BoundRow). row.s == s)

pub ruleset chosen = (raised_more, lowered_more, raised_all, lowered_all)

-- ---- no bound is of symbol 0

second_false : (a b c : Bool) → (not a && not b && not c) ≡ true → b ≡ false
second_false a false c e = refl
second_false true true c e = absurd cc
second_false false true c e = absurd cc

first_false : (a b c : Bool) → (not a && not b && not c) ≡ true → a ≡ false
first_false false b c e = refl
first_false true b c e = absurd cc

pub none_from_zero : (rows : List BoundRow) → AreBounds rows → rows_from rows 0 ≡ []
none_from_zero [] form = refl
none_from_zero (row ∷ rows) form = rw (first_false (row.s == 0) (row.t == 0) (row.s == row.t) form.0) (none_from_zero rows form.2)

pub none_to_zero : (rows : List BoundRow) → AreBounds rows → rows_to rows 0 ≡ []
none_to_zero [] form = refl
none_to_zero (row ∷ rows) form = rw (second_false (row.s == 0) (row.t == 0) (row.s == row.t) form.0) (none_to_zero rows form.2)

pub ruleset cuts = (cut_more, cut_all)
