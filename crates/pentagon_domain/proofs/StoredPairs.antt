-- What is stored of two symbols.
use Rattle.std.proofs.Common.{◌≡◌, ◌≢◌, ◌⊎◌, ℕ, ◌==◌, ℤ, ◌+ℤ◌, true, false, List, [], ◌∷◌, length, Option, Some, None}
use Rattle.std.proofs.Common.{refl, sym, ap, subst, ◌∙◌, arith, inl, inr}
use Rattle.std.specs.Int.{int_max}
use Rattle.std.specs.List.{AllByRecursion}
use Rattle.std.proofs.lemmas.Bool.{and_parts, cases_Bool, eqb-true, eq-eqb}
use Rattle.std.proofs.lemmas.Bool.Decides.{nat_tests}
use Rattle.std.proofs.lemmas.Int.{ints}
use Rattle.domain_api.specs.Order.{greater_gap}
use Rattle.pentagon_domain.specs.declared.bound_row.BoundRow.{BoundRow}
use Rattle.pentagon_domain.specs.declared.ends.Ends.{Ends}
use Rattle.pentagon_domain.specs.Rows.{AreBounds, StandsBefore, is_before, is_of, is_pair, put, rows_from, stored}
use Rattle.pentagon_domain.specs.Rows.{with_bound}
use Rattle.pentagon_domain.specs.Gaps.{AreBelow}
use Rattle.pentagon_domain.specs.Tight.{AddNothing, AreTightOver, adds_nothing, apart, is_told}
use Rattle.pentagon_domain.specs.Settled.{IsSettled}
use Rattle.pentagon_domain.proofs.Searches.{before_other, hit, nothing_later, skipped}
use Rattle.pentagon_domain.proofs.Puts.{bound, lifted, put_bounds}

-- ---- with one bound more

itself : (s t : ℕ) (k : ℤ) → is_of (bound s t k) s t ≡ true
itself s t k = grind (arith, nat_tests)

of_none : (k : ℤ) (known : Option ℤ) → known ≡ None → Some k ≡ greater_gap known (Some k)
of_none k known is = rw is refl

of_some : (k l : ℤ) (known : Option ℤ) → known ≡ Some l → Some (int_max l k) ≡ greater_gap known (Some k)
of_some k l known is = rw is (greatest k l)
  where
    greatest : (k l : ℤ) → Some (int_max l k) ≡ greater_gap (Some l) (Some k)
    greatest k l = grind (arith, ints)

put_before : (row : BoundRow) (rows : List BoundRow) (s t : ℕ) (k : ℤ) → is_before row s t ≡ true
    → put (row ∷ rows) s t k ≡ row ∷ put rows s t k
put_before row rows s t k before = rw before refl

put_over_row : (row : BoundRow) (rows : List BoundRow) (s t : ℕ) (k : ℤ)
    → is_before row s t ≡ false → is_of row s t ≡ true → put (row ∷ rows) s t k ≡ lifted row k ∷ rows
put_over_row row rows s t k behind here = rw (behind, here) refl

put_between : (row : BoundRow) (rows : List BoundRow) (s t : ℕ) (k : ℤ)
    → is_before row s t ≡ false → is_of row s t ≡ false → put (row ∷ rows) s t k ≡ bound s t k ∷ row ∷ rows
put_between row rows s t k behind other = rw (behind, other) refl

-- Of its symbols the greater constant is stored.
pub stored_put_here : (rows : List BoundRow) (s t : ℕ) (k : ℤ) → AreBounds rows
    → stored (put rows s t k) s t ≡ greater_gap (stored rows s t) (Some k)
stored_put_here [] s t k form = hit (bound s t k) [] s t (itself s t k)
stored_put_here (row ∷ rows) s t k form =
    elim (cases_Bool (is_before row s t)) [
      | inl before ↦
          let other : is_of row s t ≡ false = before_other row s t before in
          ap (λ ys. stored ys s t) (put_before row rows s t k before)
          ∙ (skipped row (put rows s t k) s t other
          ∙ (stored_put_here rows s t k form.2
          ∙ ap (λ known. greater_gap known (Some k)) (sym (skipped row rows s t other))))
      | inr behind ↦
          elim (cases_Bool (is_of row s t)) [
            | inl here ↦
                ap (λ ys. stored ys s t) (put_over_row row rows s t k behind here)
                ∙ (hit (lifted row k) rows s t here ∙ of_some k row.k (stored (row ∷ rows) s t) (hit row rows s t here))
            | inr other ↦
                ap (λ ys. stored ys s t) (put_between row rows s t k behind other)
                ∙ (hit (bound s t k) (row ∷ rows) s t (itself s t k)
                ∙ of_none k (stored (row ∷ rows) s t)
                (skipped row rows s t other ∙ nothing_later row rows s t behind other form.1))
          ]
    ]

not_of : (row : BoundRow) (s t a b : ℕ) → (s ≢ a) ⊎ (t ≢ b) → is_of row s t ≡ true → is_of row a b ≡ false
not_of row s t a b (inl distinct) here = grind (arith, nat_tests)
not_of row s t a b (inr distinct) here = grind (arith, nat_tests)

-- Rows that begin alike, and store alike behind that, store alike.
same_behind : (row : BoundRow) (rows others : List BoundRow) (a b : ℕ) → stored rows a b ≡ stored others a b
    → stored (row ∷ rows) a b ≡ stored (row ∷ others) a b
same_behind row rows others a b same =
    elim (cases_Bool (is_of row a b)) [
      | inl here ↦ hit row rows a b here ∙ sym (hit row others a b here)
      | inr other ↦ skipped row rows a b other ∙ (same ∙ sym (skipped row others a b other))
    ]

-- Of other symbols the same is stored.
pub stored_put_other : (rows : List BoundRow) (s t : ℕ) (k : ℤ) (a b : ℕ) → (s ≢ a) ⊎ (t ≢ b)
    → stored (put rows s t k) a b ≡ stored rows a b
stored_put_other [] s t k a b distinct =
    skipped (bound s t k) [] a b (not_of (bound s t k) s t a b distinct (itself s t k))
stored_put_other (row ∷ rows) s t k a b distinct =
    elim (cases_Bool (is_before row s t)) [
      | inl before ↦
          ap (λ ys. stored ys a b) (put_before row rows s t k before)
          ∙ same_behind row (put rows s t k) rows a b (stored_put_other rows s t k a b distinct)
      | inr behind ↦
          elim (cases_Bool (is_of row s t)) [
            | inl here ↦
                let other : is_of row a b ≡ false = not_of row s t a b distinct here in
                ap (λ ys. stored ys a b) (put_over_row row rows s t k behind here)
                ∙ (skipped (lifted row k) rows a b other ∙ sym (skipped row rows a b other))
            | inr other ↦
                ap (λ ys. stored ys a b) (put_between row rows s t k behind other)
                ∙ skipped (bound s t k) (row ∷ rows) a b (not_of (bound s t k) s t a b distinct (itself s t k))
          ]
    ]

put_pair : (rows : List BoundRow) (s t : ℕ) (k : ℤ) → is_pair s t ≡ true → with_bound rows s t k ≡ put rows s t k
put_pair rows s t k pair = rw pair refl

pub stored_with_bound_here : (rows : List BoundRow) (s t : ℕ) (k : ℤ) → AreBounds rows → is_pair s t ≡ true
    → stored (with_bound rows s t k) s t ≡ greater_gap (stored rows s t) (Some k)
stored_with_bound_here rows s t k form pair =
    ap (λ ys. stored ys s t) (put_pair rows s t k pair) ∙ stored_put_here rows s t k form

pub stored_with_bound_other : (rows : List BoundRow) (s t : ℕ) (k : ℤ) (a b : ℕ) → (s ≢ a) ⊎ (t ≢ b)
    → stored (with_bound rows s t k) a b ≡ stored rows a b
stored_with_bound_other rows s t k a b distinct =
    elim (cases_Bool (is_pair s t)) [
      | inl pair ↦ ap (λ ys. stored ys a b) (put_pair rows s t k pair) ∙ stored_put_other rows s t k a b distinct
      | inr none ↦ ap (λ ys. stored ys a b) (no_pair rows s t k none)
    ]
  where
    no_pair : (rows : List BoundRow) (s t : ℕ) (k : ℤ) → is_pair s t ≡ false → with_bound rows s t k ≡ rows
    no_pair rows s t k none = rw none refl

-- They are rows of bounds again.
pub with_bound_bounds : (rows : List BoundRow) (s t : ℕ) (k : ℤ) → AreBounds rows → AreBounds (with_bound rows s t k)
with_bound_bounds rows s t k form =
    elim (cases_Bool (is_pair s t)) [ inl pair ↦ rw pair (put_bounds rows s t k pair form) | inr none ↦ rw none form ]

-- ---- what is stored of one symbol

distinct_symbols : (row : BoundRow) (s : ℕ) → is_pair row.s row.t ≡ true → is_of row s s ≡ false
distinct_symbols row s pair = grind (arith, nat_tests)

-- Of a symbol and itself nothing is.
pub stored_itself : (rows : List BoundRow) (s : ℕ) → AreBounds rows → stored rows s s ≡ None
stored_itself [] s form = refl
stored_itself (row ∷ rows) s form =
    skipped row rows s s (distinct_symbols row s form.0) ∙ stored_itself rows s form.2

not_from_zero : (row : BoundRow) (t : ℕ) → is_pair row.s row.t ≡ true → is_of row 0 t ≡ false
not_from_zero row t pair = grind (arith, nat_tests)

not_to_zero : (row : BoundRow) (s : ℕ) → is_pair row.s row.t ≡ true → is_of row s 0 ≡ false
not_to_zero row s pair = grind (arith, nat_tests)

-- From symbol 0 nothing is, and to it.
pub stored_from_zero : (rows : List BoundRow) (t : ℕ) → AreBounds rows → stored rows 0 t ≡ None
stored_from_zero [] t form = refl
stored_from_zero (row ∷ rows) t form =
    skipped row rows 0 t (not_from_zero row t form.0) ∙ stored_from_zero rows t form.2

pub stored_to_zero : (rows : List BoundRow) (s : ℕ) → AreBounds rows → stored rows s 0 ≡ None
stored_to_zero [] s form = refl
stored_to_zero (row ∷ rows) s form = skipped row rows s 0 (not_to_zero row s form.0) ∙ stored_to_zero rows s form.2

-- ---- each row

stored_later : (row : BoundRow) (rows items : List BoundRow) → AllByRecursion (StandsBefore row) items
    → AllByRecursion (λ r. stored rows r.s r.t ≡ Some r.k) items
    → AllByRecursion (λ r. stored (row ∷ rows) r.s r.t ≡ Some r.k) items
stored_later row rows [] later each = tt
stored_later row rows (next ∷ items) later each = (
  skipped row rows next.s next.t (before_other row next.s next.t later.0) ∙ each.0,
  stored_later row rows items later.1 each.1,
)

of_itself : (row : BoundRow) → is_of row row.s row.t ≡ true
of_itself row = grind (arith, nat_tests)

-- Of the symbols of each row its constant is stored.
pub each_stored : (rows : List BoundRow) → AreBounds rows
    → AllByRecursion (λ row. stored rows row.s row.t ≡ Some row.k) rows
each_stored [] form = tt
each_stored (row ∷ rows) form =
    (hit row rows row.s row.t (of_itself row), stored_later row rows rows form.1 (each_stored rows form.2))

-- A row of two symbols is the bound of them.
is_bound : (row : BoundRow) (s t : ℕ) → is_of row s t ≡ true → bound s t row.k ≡ row
is_bound row s t here =
    let parts = and_parts (row.s == s) (row.t == t) here in
    let from : row.s ≡ s = eqb-true row.s s parts.0 in
    let to : row.t ≡ t = eqb-true row.t t parts.1 in
    rw (sym from, sym to) refl

-- What is so of each row is so of what is stored.
pub stored_so : (P : BoundRow → Type 0) (rows : List BoundRow) (s t : ℕ) (k : ℤ) → AllByRecursion P rows
    → stored rows s t ≡ Some k → P (bound s t k)
stored_so P [] s t k all is = absurd cc
stored_so P (row ∷ rows) s t k all is =
    elim (cases_Bool (is_of row s t)) [
      | inl here ↦
          let same : row.k ≡ k = some_same row.k k (sym (hit row rows s t here) ∙ is) in
          subst P (sym (is_bound row s t here) ∙ ap (λ l. bound s t l) same) all.0
      | inr other ↦ stored_so P rows s t k all.1 (sym (skipped row rows s t other) ∙ is)
    ]
  where
    some_same : (k l : ℤ) → Some k ≡ Some l → k ≡ l
    some_same k l is = cc

pub settled_stored : (ends : List Ends) (rows : List BoundRow) (s t : ℕ) (k : ℤ) → AllByRecursion (IsSettled ends) rows
    → stored rows s t ≡ Some k → IsSettled ends (bound s t k)
settled_stored ends rows s t k each is = stored_so (IsSettled ends) rows s t k each is

-- ---- tight rows

-- What is so of each row, and tells of each from a symbol something else, tells it of all from the symbol.
from_each : (P Q : BoundRow → Type 0) (rows : List BoundRow) (s : ℕ) → ((row : BoundRow) → row.s ≡ s → P row → Q row)
    → AllByRecursion P rows → AllByRecursion Q (rows_from rows s)
from_each P Q [] s tells all = tt
from_each P Q (row ∷ rows) s tells all =
    let rest = from_each P Q rows s tells all.1 in
    elim (cases_Bool (row.s == s)) [
      | inl here ↦ rw here (tells row (eqb-true row.s s here) all.0, rest)
      | inr other ↦ rw other rest
    ]

told_nothing : (ends : List Ends) (known : ℕ → Option ℤ) (s : ℕ) (k : ℤ) (next : BoundRow)
    → (s ≢ next.t → is_told (k +ℤ next.k) (known next.t) (apart ends s next.t) ≡ true)
    → adds_nothing ends known s k next ≡ true
told_nothing ends known s k next told =
    elim (cases_Bool (next.t == s)) [
      | inl back ↦ rw back refl
      | inr on ↦ rw on (told (λ e. false_true (sym on ∙ eq-eqb next.t s (sym e))))
    ]
  where
    false_true : false ≡ true → ⊥
    false_true e = cc

all_nothing : (ends : List Ends) (rows : List BoundRow)
    → ((s u t : ℕ) (k l : ℤ) → s ≢ t → stored rows s u ≡ Some k → stored rows u t ≡ Some l
    → is_told (k +ℤ l) (stored rows s t) (apart ends s t) ≡ true)
    → AllByRecursion (λ row. stored rows row.s row.t ≡ Some row.k) rows
    → (s : ℕ) (first : BoundRow) → first.s ≡ s → stored rows first.s first.t ≡ Some first.k
    → AddNothing ends (stored rows s) s first.k (rows_from rows first.t)
all_nothing ends rows told all s first is known =
    from_each (λ row. stored rows row.s row.t ≡ Some row.k)
    (λ next. adds_nothing ends (stored rows s) s first.k next ≡ true) rows first.t
    (λ next from here. told_nothing ends (stored rows s) s first.k next
    (λ distinct. told s first.t next.t first.k next.k distinct (rw is at known) (rw from at here)))
    all

-- Rows are tight where each sum of two stored constants behind each other is told.
pub tight_by_sums : (ends : List Ends) (rows : List BoundRow) → AreBounds rows
    → AllByRecursion (AreBelow (length ends)) rows
    → ((s u t : ℕ) (k l : ℤ) → s ≢ t → stored rows s u ≡ Some k → stored rows u t ≡ Some l
    → is_told (k +ℤ l) (stored rows s t) (apart ends s t) ≡ true)
    → AreTightOver ends rows
tight_by_sums ends rows form below told =
    let all = each_stored rows form in
    record {
      below = below;
      sums = λ s. from_each (λ row. stored rows row.s row.t ≡ Some row.k)
          (λ first. AddNothing ends (stored rows s) s first.k (rows_from rows first.t)) rows s
          (λ first. all_nothing ends rows told all s first) all;
    }
