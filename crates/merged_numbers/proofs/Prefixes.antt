-- The rows that stand before two symbols: they are all in the end, and each bound is put behind those before it.
use Rattle.std.proofs.Common.{◌≡◌, ℕ, ◌+◌, ◌<◌, ◌==◌, ℤ, Bool, true, false, List, [], ◌∷◌, filter, Option, Some, None, refl, sym, ap, subst, ◌∙◌, arith, inl, inr}
use Rattle.std.specs.Prelude.{if◌then◌else◌}
use Rattle.std.specs.List.{AllByRecursion}
use Rattle.std.proofs.lemmas.Bool.{and_parts, cases_Bool, eqb-true}
use Rattle.std.proofs.lemmas.Bool.Decides.{nat_tests}
use Rattle.pentagon_domain.specs.declared.bound_row.BoundRow.{BoundRow}
use Rattle.pentagon_domain.specs.Rows.{AreBounds, StandsBefore, is_before, is_of, is_pair, put, stored}
use Rattle.pentagon_domain.specs.Gaps.{AreBelow}
use Rattle.pentagon_domain.proofs.Searches.{before_other, hit, nothing_later, skipped}

-- The rows before any of two symbols.
abbrev pub prefix : ℕ → ℕ → List BoundRow → List BoundRow
prefix s t rows = filter (λ row. is_before row s t) rows

-- The rows with a bound, if there is one.
abbrev pub put_some : List BoundRow → ℕ → ℕ → Option ℤ → List BoundRow
put_some rows s t None = rows
put_some rows s t (Some k) = put rows s t k

-- ---- one bound more

before_next : (row : BoundRow) (s t : ℕ) → is_before row s t ≡ true → is_before row s (t + 1) ≡ true
before_next row s t before = grind (arith, nat_tests)

itself_next : (row : BoundRow) (s t : ℕ) → is_of row s t ≡ true → is_before row s (t + 1) ≡ true
itself_next row s t here = grind (arith, nat_tests)

behind_next : (row : BoundRow) (s t : ℕ) → is_before row s t ≡ false → is_of row s t ≡ false → is_before row s (t + 1) ≡ false
behind_next row s t behind other = grind (arith, nat_tests)

later_behind : (row later : BoundRow) (s t : ℕ) → is_before row s t ≡ false → is_before row later.s later.t ≡ true → is_before later s t ≡ false
later_behind row later s t behind before = grind (arith, nat_tests)

later_next : (row later : BoundRow) (s t : ℕ) → is_of row s t ≡ true → is_before row later.s later.t ≡ true → is_before later s (t + 1) ≡ false
later_next row later s t here before = grind (arith, nat_tests)

none_before : (row : BoundRow) (rows : List BoundRow) (s t : ℕ) → is_before row s t ≡ false → AllByRecursion (StandsBefore row) rows → prefix s t rows ≡ []
none_before row [] s t behind later = refl
none_before row (next ∷ rows) s t behind later = rw (later_behind row next s t behind later.0) (none_before row rows s t behind later.1)

none_next : (row : BoundRow) (rows : List BoundRow) (s t : ℕ) → is_of row s t ≡ true → AllByRecursion (StandsBefore row) rows → prefix s (t + 1) rows ≡ []
none_next row [] s t here later = refl
none_next row (next ∷ rows) s t here later = rw (later_next row next s t here later.0) (none_next row rows s t here later.1)

put_behind : (row : BoundRow) (rows : List BoundRow) (s t : ℕ) (known : Option ℤ) → is_before row s t ≡ true
    → put_some (row ∷ rows) s t known ≡ row ∷ put_some rows s t known
put_behind row rows s t None before = refl
put_behind row rows s t (Some k) before = rw before refl

-- A row of two symbols is the bound of them.
is_bound : (row : BoundRow) (s t : ℕ) → is_of row s t ≡ true → record { s = s; t = t; k = row.k } ≡ row
is_bound row s t here =
    let parts = and_parts (row.s == s) (row.t == t) here in
    let from : row.s ≡ s = eqb-true row.s s parts.0 in
    let to : row.t ≡ t = eqb-true row.t t parts.1 in
    rw (sym from, sym to) refl

-- Behind the rows before two symbols comes what is stored of them.
pub put_prefix : (rows : List BoundRow) (s t : ℕ) → AreBounds rows → put_some (prefix s t rows) s t (stored rows s t) ≡ prefix s (t + 1) rows
put_prefix [] s t form = refl
put_prefix (row ∷ rows) s t form =
    elim (cases_Bool (is_before row s t)) [
      | inl before ↦
          let rest = put_prefix rows s t form.2 in
          rw (before, before_next row s t before, skipped row rows s t (before_other row s t before))
          (put_behind row (prefix s t rows) s t (stored rows s t) before ∙ ap (λ ys. row ∷ ys) rest)
      | inr behind ↦
          elim (cases_Bool (is_of row s t)) [
            | inl here ↦
                rw (behind, itself_next row s t here, hit row rows s t here, none_before row rows s t behind form.1, none_next row rows s t here form.1)
                (ap (λ r. r ∷ []) (is_bound row s t here))
            | inr other ↦
                let next : is_before row s (t + 1) ≡ false = behind_next row s t behind other in
                rw (behind, next, skipped row rows s t other, nothing_later row rows s t behind other form.1)
                (none_before row rows s t behind form.1 ∙ sym (none_before row rows s (t + 1) next form.1))
          ]
    ]

-- ---- the first and the last

pair_from : (row : BoundRow) → is_pair row.s row.t ≡ true → is_before row 1 1 ≡ false
pair_from row pair = grind (arith, nat_tests)

-- No row stands before the symbols 1 and 1.
pub none_first : (rows : List BoundRow) → AreBounds rows → prefix 1 1 rows ≡ []
none_first [] form = refl
none_first (row ∷ rows) form = rw (pair_from row form.0) (none_first rows form.2)

below_next : (row : BoundRow) (s n : ℕ) → is_pair row.s row.t ≡ true → row.t < n + 1 → is_before row s (n + 1) ≡ is_before row (s + 1) 1
below_next row s n pair below =
    elim (cases_Bool (is_before row s (n + 1))) [
      | inl before ↦ before ∙ sym (on row s n pair below before)
      | inr behind ↦ behind ∙ sym (off row s n pair below behind)
    ]
  where
    on : (row : BoundRow) (s n : ℕ) → is_pair row.s row.t ≡ true → row.t < n + 1 → is_before row s (n + 1) ≡ true → is_before row (s + 1) 1 ≡ true
    on row s n pair below before = grind (arith, nat_tests)

    off : (row : BoundRow) (s n : ℕ) → is_pair row.s row.t ≡ true → row.t < n + 1 → is_before row s (n + 1) ≡ false → is_before row (s + 1) 1 ≡ false
    off row s n pair below behind = grind (arith, nat_tests)

same_step : (row : BoundRow) (rows others : List BoundRow) (p q : Bool) → p ≡ q → rows ≡ others → (if p then row ∷ rows else rows) ≡ (if q then row ∷ others else others)
same_step row rows others p q same rest = rw (same, rest) refl

-- Behind all symbols up to a number come those from the next symbol.
pub prefix_next : (rows : List BoundRow) (s n : ℕ) → AreBounds rows → AllByRecursion (AreBelow (n + 1)) rows → prefix s (n + 1) rows ≡ prefix (s + 1) 1 rows
prefix_next [] s n form below = refl
prefix_next (row ∷ rows) s n form below =
    same_step row (prefix s (n + 1) rows) (prefix (s + 1) 1 rows) (is_before row s (n + 1)) (is_before row (s + 1) 1)
    (below_next row s n form.0 below.0.to) (prefix_next rows s n form.2 below.1)

below_all : (row : BoundRow) (n : ℕ) → row.s < n + 1 → is_before row (n + 1) 1 ≡ true
below_all row n below = grind (arith, nat_tests)

-- All rows stand before a symbol that is greater than each of theirs.
pub all_prefix : (rows : List BoundRow) (n : ℕ) → AllByRecursion (AreBelow (n + 1)) rows → prefix (n + 1) 1 rows ≡ rows
all_prefix [] n below = refl
all_prefix (row ∷ rows) n below = rw (below_all row n below.0.from) (ap (λ ys. row ∷ ys) (all_prefix rows n below.1))

-- ---- what is stored

-- Of a symbol and itself nothing is.
pub stored_itself : (rows : List BoundRow) (s : ℕ) → AreBounds rows → stored rows s s ≡ None
stored_itself [] s form = refl
stored_itself (row ∷ rows) s form = skipped row rows s s (distinct row s form.0) ∙ stored_itself rows s form.2
  where
    distinct : (row : BoundRow) (s : ℕ) → is_pair row.s row.t ≡ true → is_of row s s ≡ false
    distinct row s pair = grind (arith, nat_tests)

-- What is so of each row is so of what is stored.
pub stored_so : (P : BoundRow → Type 0) (rows : List BoundRow) (s t : ℕ) (k : ℤ) → AllByRecursion P rows → stored rows s t ≡ Some k → P (record { s = s; t = t; k = k })
stored_so P [] s t k all is = absurd cc
stored_so P (row ∷ rows) s t k all is =
    elim (cases_Bool (is_of row s t)) [
      | inl here ↦
          let same : row.k ≡ k = some_same row.k k (sym (hit row rows s t here) ∙ is) in
          subst P (sym (is_bound row s t here) ∙ ap (λ l. record { s = s; t = t; k = l }) same) all.0
      | inr other ↦ stored_so P rows s t k all.1 (sym (skipped row rows s t other) ∙ is)
    ]
  where
    some_same : (k l : ℤ) → Some k ≡ Some l → k ≡ l
    some_same k l is = cc
