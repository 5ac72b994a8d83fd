-- What is found among rows that rise.
use Rattle.std.proofs.Common.{◌≡◌, ℕ, zero, suc, ◌+◌, ◌<◌, ◌≤◌, ◌==◌, nat_le, nat_lt, Bool, true, false, List, [], ◌∷◌, length, get_or, take, drop, filter, Some, None, refl, ap, ◌∙◌, arith, inl, inr}
use Rattle.std.specs.List.{AllByRecursion, AllWithin}
use Rattle.std.specs.List.Sorted.{IsPartitionedBy, IsNonDecreasingBy}
use Rattle.std.proofs.lemmas.Bool.{cases_Bool, cases_order, and_parts, eq-eqb, ne_eqb, le-leb, lt-leb}
use Rattle.std.proofs.lemmas.Bool.Decides.{nat_tests}
use Rattle.std.proofs.lemmas.List.{get_or_default}
use Rattle.pentagon_domain.specs.declared.bound_row.BoundRow.{BoundRow}
use Rattle.pentagon_domain.specs.Rows.{is_before, is_of, is_found, StandsBefore, AreBounds, stored, place_of}

-- ---- the row at a place

pub found_here : (rows : List BoundRow) (place s t : ℕ) (d : BoundRow) → place < length rows → is_found rows place s t ≡ is_of (get_or rows place d) s t
found_here [] place s t d inside = absurd (omega arith)
found_here (row ∷ rows) zero s t d inside = refl
found_here (row ∷ rows) (suc place) s t d inside = found_here rows place s t d (omega arith)

pub found_past : (rows : List BoundRow) (place s t : ℕ) → length rows ≤ place → is_found rows place s t ≡ false
found_past [] place s t past = refl
found_past (row ∷ rows) zero s t past = absurd (omega arith)
found_past (row ∷ rows) (suc place) s t past = found_past rows place s t (omega arith)

pub inside_found : (rows : List BoundRow) (place s t : ℕ) → is_found rows place s t ≡ true → place < length rows
inside_found [] place s t found = absurd cc
inside_found (row ∷ rows) zero s t found = omega arith
inside_found (row ∷ rows) (suc place) s t found = let rest = inside_found rows place s t found in omega (arith, rest)

-- ---- the order of rows

pub before_trans : (a b : BoundRow) (s t : ℕ) → is_before a b.s b.t ≡ true → is_before b s t ≡ true → is_before a s t ≡ true
before_trans a b s t first second = grind (arith, nat_tests)

before_low : (row : BoundRow) (s t : ℕ) → is_before row s t ≡ true → row.s ≤ s
before_low row s t before = grind (arith, nat_tests)

later_at : (row : BoundRow) (rows : List BoundRow) (k : ℕ) (d : BoundRow) → AllByRecursion (StandsBefore row) rows → k < length rows → StandsBefore row (get_or rows k d)
later_at row [] k d later inside = absurd (omega arith)
later_at row (next ∷ rows) zero d later inside = later.0
later_at row (next ∷ rows) (suc k) d later inside = later_at row rows k d later.1 (omega arith)

partitioned_more : (row : BoundRow) (rows : List BoundRow) (s t : ℕ) → AllByRecursion (StandsBefore row) rows → IsPartitionedBy (λ row. is_before row s t) rows
    → (i j : ℕ) (d : BoundRow) → i ≤ j → j < length (row ∷ rows) → is_before (get_or (row ∷ rows) j d) s t ≡ true → is_before (get_or (row ∷ rows) i d) s t ≡ true
partitioned_more row rows s t later rest zero zero d up inside is = is
partitioned_more row rows s t later rest zero (suc j) d up inside is = before_trans row (get_or rows j d) s t (later_at row rows j d later (omega arith)) is
partitioned_more row rows s t later rest (suc i) zero d up inside is = absurd (omega (arith, up))
partitioned_more row rows s t later rest (suc i) (suc j) d up inside is = rest i j d (omega (arith, up)) (omega (arith, inside)) is

-- Rows before those of two symbols come first.
pub partitioned : (rows : List BoundRow) (s t : ℕ) → AreBounds rows → IsPartitionedBy (λ row. is_before row s t) rows
partitioned [] s t form = λ i j d up inside is. absurd (omega (arith, inside))
partitioned (row ∷ rows) s t form = partitioned_more row rows s t form.1 (partitioned rows s t form.2)

-- So many rows stand before them.
pub place_is : (rows : List BoundRow) (s t i : ℕ) → i ≤ length rows → AllWithin (λ row. is_before row s t ≡ true) rows 0 i
    → AllWithin (λ row. is_before row s t ≡ false) rows i (length rows) → i ≡ place_of rows s t
place_is [] s t i le prefix behind = omega arith
place_is (row ∷ rows) s t zero le prefix behind = rw (behind zero row (omega arith) (omega arith)) refl
place_is (row ∷ rows) s t (suc i) le prefix behind =
    rw (prefix zero row (omega arith) (omega arith))
    (ap suc
    (place_is rows s t i (omega (arith, le)) (λ k d low high. prefix (suc k) d (omega arith) (omega (arith, high)))
    (λ k d low high. behind (suc k) d (omega (arith, low)) (omega (arith, high)))))

pub none_before : (rows : List BoundRow) (s t : ℕ) → length rows ≡ 0 → length rows ≡ place_of rows s t
none_before [] s t none = refl
none_before (row ∷ rows) s t none = absurd (omega (arith, none))

-- Where the last row stands before them, all do.
pub all_before : (rows : List BoundRow) (s t i : ℕ) (d : BoundRow) → AreBounds rows → i + 1 ≡ length rows → is_before (get_or rows i d) s t ≡ true
    → length rows ≡ place_of rows s t
all_before rows s t i d form last before =
    place_is rows s t (length rows) (omega arith)
    (λ k e low high. partitioned rows s t form k i e (omega (arith, last, high)) (omega (arith, last)) (rw (get_or_default rows i e d (omega (arith, last))) before))
    (λ k e low high. absurd (omega (arith, low, high)))

-- ---- the rows of one symbol

rise_more : (row : BoundRow) (rows : List BoundRow) → AllByRecursion (StandsBefore row) rows → IsNonDecreasingBy (λ row. row.s) rows
    → (i j : ℕ) (d : BoundRow) → i ≤ j → j < length (row ∷ rows) → (get_or (row ∷ rows) i d).s ≤ (get_or (row ∷ rows) j d).s
rise_more row rows later rest zero zero d up inside = omega arith
rise_more row rows later rest zero (suc j) d up inside = before_low row (get_or rows j d).s (get_or rows j d).t (later_at row rows j d later (omega arith))
rise_more row rows later rest (suc i) zero d up inside = absurd (omega (arith, up))
rise_more row rows later rest (suc i) (suc j) d up inside = rest i j d (omega (arith, up)) (omega (arith, inside))

pub symbols_rise : (rows : List BoundRow) → AreBounds rows → IsNonDecreasingBy (λ row. row.s) rows
symbols_rise [] form = λ i j d up inside. absurd (omega (arith, inside))
symbols_rise (row ∷ rows) form = rise_more row rows form.1 (symbols_rise rows form.2)

-- Where those that pass come first, they are so many from the prefix.
pub passing_prefix : {X : Type 0} (p : X → Bool) (xs : List X) (k : ℕ) → k ≤ length xs → AllWithin (λ x. p x ≡ true) xs 0 k → AllWithin (λ x. p x ≡ false) xs k (length xs)
    → take k xs ≡ filter p xs
passing_prefix p [] zero le prefix behind = refl
passing_prefix p [] (suc k) le prefix behind = refl
passing_prefix p (x ∷ xs) zero le prefix behind =
    rw (behind zero x (omega arith) (omega arith))
    (passing_prefix p xs zero (omega arith) (λ j d low high. absurd (omega (arith, low, high))) (λ j d low high. behind (suc j) d (omega arith) (omega (arith, high))))
passing_prefix p (x ∷ xs) (suc k) le prefix behind =
    rw (prefix zero x (omega arith) (omega arith))
    (ap (λ ys. x ∷ ys)
    (passing_prefix p xs k (omega (arith, le)) (λ j d low high. prefix (suc j) d (omega arith) (omega (arith, high)))
    (λ j d low high. behind (suc j) d (omega (arith, low)) (omega (arith, high)))))

-- Where those that pass come last, they are what is left behind so many.
pub passing_rest : {X : Type 0} (p : X → Bool) (xs : List X) (k : ℕ) → k ≤ length xs → AllWithin (λ x. p x ≡ false) xs 0 k → AllWithin (λ x. p x ≡ true) xs k (length xs)
    → drop k xs ≡ filter p xs
passing_rest p [] zero le prefix behind = refl
passing_rest p [] (suc k) le prefix behind = refl
passing_rest p (x ∷ xs) zero le prefix behind =
    rw (behind zero x (omega arith) (omega arith))
    (ap (λ ys. x ∷ ys)
    (passing_rest p xs zero (omega arith) (λ j d low high. absurd (omega (arith, low, high))) (λ j d low high. behind (suc j) d (omega arith) (omega (arith, high)))))
passing_rest p (x ∷ xs) (suc k) le prefix behind =
    rw (prefix zero x (omega arith) (omega arith))
    (passing_rest p xs k (omega (arith, le)) (λ j d low high. prefix (suc j) d (omega arith) (omega (arith, high)))
    (λ j d low high. behind (suc j) d (omega (arith, low)) (omega (arith, high))))

-- Where the last row before a place goes from a symbol below a number, all before the place do.
pub low_before : (rows : List BoundRow) (n last place : ℕ) (e : BoundRow) → IsNonDecreasingBy (λ row. row.s) rows → last + 1 ≡ place → last < length rows
    → nat_lt (get_or rows last e).s n ≡ true → AllWithin (λ row. nat_lt row.s n ≡ true) rows 0 place
low_before rows n last place e rise is inside below = λ k d low high.
    let here : nat_lt (get_or rows last d).s n ≡ true = rw (get_or_default rows last e d inside) at below in
    let up : (get_or rows k d).s ≤ (get_or rows last d).s = rise k last d (omega (arith, is, high)) inside in
    grind (arith, nat_tests)

-- Where the row at a place goes from no symbol below a number, none behind it does.
pub high_from : (rows : List BoundRow) (n place : ℕ) (e : BoundRow) → IsNonDecreasingBy (λ row. row.s) rows → place < length rows
    → nat_le n (get_or rows place e).s ≡ true → AllWithin (λ row. nat_lt row.s n ≡ false) rows place (length rows)
high_from rows n place e rise inside above = λ k d low high.
    let here : nat_le n (get_or rows place d).s ≡ true = rw (get_or_default rows place e d inside) at above in
    let up : (get_or rows place d).s ≤ (get_or rows k d).s = rise place k d low high in
    grind (arith, nat_tests)

-- Items from a number on and up to it are those of the number.
pub from_and_up_to : {X : Type 0} (n : X → ℕ) (xs : List X) (s : ℕ) → filter (λ x. nat_le (n x) s) (filter (λ x. nat_le s (n x)) xs) ≡ filter (λ x. n x == s) xs
from_and_up_to n [] s = refl
from_and_up_to n (x ∷ xs) s =
    let rest = from_and_up_to n xs s in
    elim (cases_order (n x) s) [
      | inl same ↦ rw (le-leb s (n x) (omega (arith, same)), le-leb (n x) s (omega (arith, same)), eq-eqb (n x) s same) (ap (λ ys. x ∷ ys) rest)
      | inr (inl low) ↦ rw (lt-leb s (n x) low, ne_eqb (n x) s (λ e. omega (arith, e, low))) rest
      | inr (inr high) ↦ rw (le-leb s (n x) (omega (arith, high)), lt-leb (n x) s high, ne_eqb (n x) s (λ e. omega (arith, e, high))) rest
    ]

-- ---- the constant of two symbols

pub skipped : (row : BoundRow) (rows : List BoundRow) (s t : ℕ) → is_of row s t ≡ false → stored (row ∷ rows) s t ≡ stored rows s t
skipped row rows s t other =
    elim (cases_Bool (row.s == s)) [
      | inl same ↦ let there : (row.t == t) ≡ false = rw same at other in rw (same, there) refl
      | inr apart ↦ rw apart refl
    ]

pub hit : (row : BoundRow) (rows : List BoundRow) (s t : ℕ) → is_of row s t ≡ true → stored (row ∷ rows) s t ≡ Some row.k
hit row rows s t is = let parts = and_parts (row.s == s) (row.t == t) is in rw (parts.0, parts.1) refl

pub before_other : (row : BoundRow) (s t : ℕ) → is_before row s t ≡ true → is_of row s t ≡ false
before_other row s t before = grind (arith, nat_tests)

pub stored_found : (rows : List BoundRow) (s t : ℕ) (d : BoundRow) → is_found rows (place_of rows s t) s t ≡ true → stored rows s t ≡ Some (get_or rows (place_of rows s t) d).k
stored_found [] s t d found = absurd cc
stored_found (row ∷ rows) s t d found =
    elim (cases_Bool (is_before row s t)) [
      | inl before ↦
          let later : is_found rows (place_of rows s t) s t ≡ true = rw before at found in
          rw before (skipped row rows s t (before_other row s t before) ∙ stored_found rows s t d later)
      | inr behind ↦ let here : is_of row s t ≡ true = rw behind at found in rw behind (hit row rows s t here)
    ]

pub later_other : (row later : BoundRow) (s t : ℕ) → is_before row s t ≡ false → is_of row s t ≡ false → is_before row later.s later.t ≡ true → is_of later s t ≡ false
later_other row later s t behind other before = grind (arith, nat_tests)

pub nothing_later : (row : BoundRow) (rows : List BoundRow) (s t : ℕ) → is_before row s t ≡ false → is_of row s t ≡ false → AllByRecursion (StandsBefore row) rows → stored rows s t ≡ None
nothing_later row [] s t behind other later = refl
nothing_later row (next ∷ rows) s t behind other later =
    skipped next rows s t (later_other row next s t behind other later.0) ∙ nothing_later row rows s t behind other later.1

pub stored_nowhere : (rows : List BoundRow) (s t : ℕ) → AreBounds rows → is_found rows (place_of rows s t) s t ≡ false → stored rows s t ≡ None
stored_nowhere [] s t form missing = refl
stored_nowhere (row ∷ rows) s t form missing =
    elim (cases_Bool (is_before row s t)) [
      | inl before ↦
          let later : is_found rows (place_of rows s t) s t ≡ false = rw before at missing in
          skipped row rows s t (before_other row s t before) ∙ stored_nowhere rows s t form.2 later
      | inr behind ↦
          let here : is_of row s t ≡ false = rw behind at missing in
          skipped row rows s t here ∙ nothing_later row rows s t behind here form.1
    ]

-- ---- a place that was guessed

before_itself : (row : BoundRow) (s t : ℕ) → is_of row s t ≡ true → is_before row s t ≡ false
before_itself row s t here = grind (arith, nat_tests)

before_found : (row : BoundRow) (rows : List BoundRow) (place s t : ℕ) → AllByRecursion (StandsBefore row) rows → is_found rows place s t ≡ true
    → is_before row s t ≡ true
before_found row [] place s t later found = absurd cc
before_found row (next ∷ rows) zero s t later found = before_of row next s t later.0 found
  where
    before_of : (row next : BoundRow) (s t : ℕ) → is_before row next.s next.t ≡ true → is_of next s t ≡ true → is_before row s t ≡ true
    before_of row next s t before here = grind (arith, nat_tests)
before_found row (next ∷ rows) (suc place) s t later found = before_found row rows place s t later.1 found

found_place : (rows : List BoundRow) (place s t : ℕ) → AreBounds rows → is_found rows place s t ≡ true → place_of rows s t ≡ place
found_place [] place s t form found = absurd cc
found_place (row ∷ rows) zero s t form found = rw (before_itself row s t found) refl
found_place (row ∷ rows) (suc place) s t form found =
    rw (before_found row rows place s t form.1 found) (ap suc (found_place rows place s t form.2 found))

-- Wherever the row of two symbols is found, it has their constant.
pub found_stored : (rows : List BoundRow) (place s t : ℕ) (d : BoundRow) → AreBounds rows → is_found rows place s t ≡ true
    → stored rows s t ≡ Some (get_or rows place d).k
found_stored rows place s t d form found =
    let is = found_place rows place s t form found in
    rw is at (stored_found rows s t d (rw is found))

-- What a search for a constant rests on.
pub ruleset finds = (stored_found, stored_nowhere, inside_found)
