-- Gaps that are raised by one row after another.
use Rattle.std.proofs.Common.{◌≡◌, ◌≢◌, ℕ, suc, ℤ, pos, ◌+ℤ◌, ◌+◌, ◌<◌, ◌≤◌, ◌==◌, true, false, List, [], ◌∷◌, length, get_or, set, drop, Option, Some, None, refl, sym, ap, subst, ◌∙◌, arith, add-one, drop-cons, inl, inr}
use Rattle.std.specs.Prelude.{option_map, option_and_then, if◌then◌else◌}
use Rattle.std.specs.List.{AllByRecursion}
use Rattle.std.proofs.lemmas.Bool.{cases_Bool, eqb-true, eqb-false, eq-eqb, ne_eqb}
use Rattle.std.proofs.lemmas.Bool.Decides.{nat_tests}
use Rattle.std.proofs.lemmas.List.{drop_all, get_or-set_same, get_or-set_other}
use Rattle.std.proofs.lemmas.Int.{ints}
use Rattle.domain_api.specs.Order.{greater_gap}
use Rattle.pentagon_domain.specs.declared.bound_row.BoundRow.{BoundRow}
use Rattle.pentagon_domain.specs.Rows.{is_before, StandsBefore, AreBounds, rows_from, stored}
use Rattle.pentagon_domain.specs.Reach.{reach}
use Rattle.pentagon_domain.specs.Gaps.{cut, greatest_sum, exact_gap, gap, gap_with}
use Rattle.pentagon_domain.proofs.Cuts.{greater_gap_assoc, greater_gap-none, cut-greater_gap}

-- ---- what the rows of one symbol reach

beyond : (row next : BoundRow) → (next.s == row.s) ≡ true → is_before row next.s next.t ≡ true → (next.t == row.t) ≡ false
beyond row next same before = grind (arith, nat_tests)

-- Behind a row, no other row of its symbol goes to where it goes.
unreached : (k : ℤ) (row : BoundRow) (rows : List BoundRow) → AllByRecursion (StandsBefore row) rows → reach k (rows_from rows row.s) row.t ≡ None
unfolding reach
unreached k row [] later = refl
unreached k row (next ∷ rows) later =
    let rest = unreached k row rows later.1 in
    elim (cases_Bool (next.s == row.s)) [
      | inl same ↦ let other : (next.t == row.t) ≡ false = beyond row next same later.0 in rw (same, other) rest
      | inr apart ↦ rw apart rest
    ]

reach_hit : (k : ℤ) (row : BoundRow) (rows : List BoundRow) (t : ℕ) → (row.t == t) ≡ true → reach k rows row.t ≡ None → reach k (row ∷ rows) t ≡ cut (k +ℤ row.k)
unfolding reach
reach_hit k row rows t here none =
    let there : reach k rows t ≡ None = ap (reach k rows) (sym (eqb-true row.t t here)) ∙ none in
    rw (here, there) (greater_gap-none (cut (k +ℤ row.k)))

reach_miss : (k : ℤ) (row : BoundRow) (rows : List BoundRow) (t : ℕ) → (row.t == t) ≡ false → reach k (row ∷ rows) t ≡ reach k rows t
unfolding reach
reach_miss k row rows t other = rw other refl

reach_nothing : (k : ℤ) (t : ℕ) → reach k [] t ≡ None
unfolding reach
reach_nothing k t = refl

-- The rows of a symbol reach what is stored, each once.
pub reach_is : (k : ℤ) (rows : List BoundRow) (s t : ℕ) → AreBounds rows → reach k (rows_from rows s) t ≡ option_and_then cut (option_map (λ l. k +ℤ l) (stored rows s t))
reach_is k [] s t form = reach_nothing k t
reach_is k (row ∷ rows) s t form =
    let rest = reach_is k rows s t form.2 in
    elim (cases_Bool (row.s == s)) [
      | inl same ↦
          elim (cases_Bool (row.t == t)) [
            | inl here ↦
                let none : reach k (rows_from rows s) row.t ≡ None = ap (λ s. reach k (rows_from rows s) row.t) (sym (eqb-true row.s s same)) ∙ unreached k row rows form.1 in
                rw (same, here) (reach_hit k row (rows_from rows s) t here none)
            | inr other ↦ rw (same, other) (reach_miss k row (rows_from rows s) t other ∙ rest)
          ]
      | inr apart ↦ rw apart rest
    ]

-- With no constant before them.
no_more : (known : Option ℤ) → option_map (λ l. pos 0 +ℤ l) known ≡ known
no_more None = refl
no_more (Some k) = grind (arith, ints)

pub reach_first : (rows : List BoundRow) (s t : ℕ) → AreBounds rows → reach (pos 0) (rows_from rows s) t ≡ option_and_then cut (stored rows s t)
reach_first rows s t form = reach_is (pos 0) rows s t form ∙ ap (option_and_then cut) (no_more (stored rows s t))

-- ---- one step of a loop over the rows

step_hit : (k : ℤ) (row : BoundRow) (rows : List BoundRow) (t : ℕ) (known whole : Option ℤ) → (row.t == t) ≡ true
    → greater_gap known (reach k (row ∷ rows) t) ≡ whole → greater_gap (greater_gap known (cut (k +ℤ row.k))) (reach k rows t) ≡ whole
unfolding reach
step_hit k row rows t known whole here so_far =
    let whole_is : greater_gap known (greater_gap (cut (k +ℤ row.k)) (reach k rows t)) ≡ whole = rw here at so_far in
    greater_gap_assoc known (cut (k +ℤ row.k)) (reach k rows t) ∙ whole_is

-- What is known of t when so many rows were looked at, and the rest, is the whole.
pub reach_more : (k : ℤ) (rows : List BoundRow) (i t : ℕ) (known now whole : Option ℤ) (d : BoundRow) → i < length rows
    → now ≡ (if (get_or rows i d).t == t then greater_gap known (cut (k +ℤ (get_or rows i d).k)) else known)
    → greater_gap known (reach k (drop i rows) t) ≡ whole → greater_gap now (reach k (drop (i + 1) rows) t) ≡ whole
reach_more k rows i t known now whole d inside becomes so_far =
    let row = get_or rows i d in
    let rest = drop (suc i) rows in
    let split : drop i rows ≡ row ∷ rest = drop-cons rows i d inside in
    let before : greater_gap known (reach k (row ∷ rest) t) ≡ whole = rw split at so_far in
    rw add-one
    (elim (cases_Bool (row.t == t)) [
      | inl here ↦
          let is : now ≡ greater_gap known (cut (k +ℤ row.k)) = rw here at becomes in
          rw is (step_hit k row rest t known whole here before)
      | inr other ↦
          let is : now ≡ known = rw other at becomes in
          rw is (ap (λ more. greater_gap known more) (sym (reach_miss k row rest t other)) ∙ before)
    ])

-- Nothing is left behind the last.
pub reached_all : (k : ℤ) (rows : List BoundRow) (i t : ℕ) (known whole : Option ℤ) → length rows ≤ i → greater_gap known (reach k (drop i rows) t) ≡ whole → known ≡ whole
reached_all k rows i t known whole past so_far =
    let none : drop i rows ≡ [] = drop_all i rows past in
    sym (greater_gap-none known) ∙ (ap (λ rest. greater_gap known rest) (sym (reach_nothing k t)) ∙ (rw none at so_far))

-- ---- the same of those rows that go on from where a first one goes

pub next_hit : (first row : BoundRow) (t : ℕ) (known now : Option ℤ) → (row.s == first.t) ≡ true
    → now ≡ (if row.t == t then greater_gap known (cut (first.k +ℤ row.k)) else known)
    → now ≡ greater_gap known (reach first.k (rows_from (row ∷ []) first.t) t)
unfolding reach
next_hit first row t known now same is =
    elim (cases_Bool (row.t == t)) [
      | inl here ↦ rw (same, here, greater_gap-none (cut (first.k +ℤ row.k))) (rw here at is)
      | inr other ↦ rw (same, other, greater_gap-none known) (rw other at is)
    ]

pub next_miss : (first row : BoundRow) (t : ℕ) (known : Option ℤ) → (row.s == first.t) ≡ false
    → known ≡ greater_gap known (reach first.k (rows_from (row ∷ []) first.t) t)
unfolding reach
next_miss first row t known apart = rw apart (sym (greater_gap-none known))

next_first : (k : ℤ) (row : BoundRow) (rest : List BoundRow) (s t : ℕ) → reach k (rows_from (row ∷ rest) s) t
    ≡ greater_gap (reach k (rows_from (row ∷ []) s) t) (reach k (rows_from rest s) t)
unfolding reach
next_first k row rest s t =
    elim (cases_Bool (row.s == s)) [
      | inl same ↦
          elim (cases_Bool (row.t == t)) [
            | inl here ↦ rw (same, here, greater_gap-none (cut (k +ℤ row.k))) refl
            | inr other ↦ rw (same, other) refl
          ]
      | inr apart ↦ rw apart refl
    ]

pub next_more : (first : BoundRow) (rows : List BoundRow) (i t : ℕ) (known now whole : Option ℤ) (d : BoundRow) → i < length rows
    → now ≡ greater_gap known (reach first.k (rows_from (get_or rows i d ∷ []) first.t) t)
    → greater_gap known (reach first.k (rows_from (drop i rows) first.t) t) ≡ whole
    → greater_gap now (reach first.k (rows_from (drop (i + 1) rows) first.t) t) ≡ whole
next_more first rows i t known now whole d inside becomes so_far =
    let row = get_or rows i d in
    let rest = drop (suc i) rows in
    let split : drop i rows ≡ row ∷ rest = drop-cons rows i d inside in
    let one = reach first.k (rows_from (row ∷ []) first.t) t in
    rw (add-one, becomes)
    (greater_gap_assoc known one (reach first.k (rows_from rest first.t) t)
    ∙ ap (greater_gap known) (sym (next_first first.k row rest first.t t)) ∙ (rw split at so_far))

pub next_all : (first : BoundRow) (rows : List BoundRow) (i t : ℕ) (known whole : Option ℤ) → length rows ≤ i
    → greater_gap known (reach first.k (rows_from (drop i rows) first.t) t) ≡ whole → known ≡ whole
next_all first rows i t known whole past so_far =
    let none : drop i rows ≡ [] = drop_all i rows past in
    sym (greater_gap-none known) ∙ (ap (λ rest. greater_gap known rest) (sym (reach_nothing first.k t)) ∙ (rw none at so_far))

-- ---- the same over bounds of which each has others behind it

pub behind_more : (rows firsts : List BoundRow) (i t : ℕ) (known whole : Option ℤ) (d : BoundRow) → i < length firsts
    → greater_gap known (option_and_then cut (greatest_sum rows (drop i firsts) t)) ≡ whole
    → greater_gap (greater_gap known (option_and_then cut (option_map (λ k. (get_or firsts i d).k +ℤ k) (stored rows (get_or firsts i d).t t))))
    (option_and_then cut (greatest_sum rows (drop (i + 1) firsts) t))
    ≡ whole
unfolding greatest_sum
behind_more rows firsts i t known whole d inside so_far =
    let first = get_or firsts i d in
    let split : drop i firsts ≡ first ∷ drop (suc i) firsts = drop-cons firsts i d inside in
    let one = option_map (λ k. first.k +ℤ k) (stored rows first.t t) in
    let rest = greatest_sum rows (drop (suc i) firsts) t in
    let whole_is : greater_gap known (option_and_then cut (greater_gap one rest)) ≡ whole = rw split at so_far in
    rw add-one
    (greater_gap_assoc known (option_and_then cut one) (option_and_then cut rest)
    ∙ (ap (λ more. greater_gap known more) (sym (cut-greater_gap one rest)) ∙ whole_is))

-- What the rows behind a bound raise, by what is stored.
pub beyond_is : (rows : List BoundRow) (first : BoundRow) (t : ℕ) (known now : Option ℤ) → AreBounds rows → now ≡ greater_gap known (reach first.k (rows_from rows first.t) t)
    → now ≡ greater_gap known (option_and_then cut (option_map (λ l. first.k +ℤ l) (stored rows first.t t)))
beyond_is rows first t known now form is = is ∙ ap (greater_gap known) (reach_is first.k rows first.t t form)

-- The same step, for all symbols but one, while the lowest gap stays the lowest.
pub beyond_step : (rows firsts : List BoundRow) (i t : ℕ) (known now whole : Option ℤ) (d : BoundRow) → i < length firsts
    → now ≡ greater_gap known (option_and_then cut (option_map (λ k. (get_or firsts i d).k +ℤ k) (stored rows (get_or firsts i d).t t)))
    → greater_gap known (option_and_then cut (greatest_sum rows (drop i firsts) t)) ≡ whole
    → greater_gap now (option_and_then cut (greatest_sum rows (drop (i + 1) firsts) t)) ≡ whole
beyond_step rows firsts i t known now whole d inside becomes so_far = rw becomes (behind_more rows firsts i t known whole d inside so_far)

pub behind_all : (rows firsts : List BoundRow) (i t : ℕ) (known whole : Option ℤ) → length firsts ≤ i
    → greater_gap known (option_and_then cut (greatest_sum rows (drop i firsts) t)) ≡ whole → known ≡ whole
unfolding greatest_sum
behind_all rows firsts i t known whole past so_far =
    let none : drop i firsts ≡ [] = drop_all i firsts past in
    sym (greater_gap-none known) ∙ (rw none at so_far)

-- ---- gaps

-- Of two symbols that are not the same, a gap is the greater of what is stored and of what is found behind.
pub gap_apart : (rows : List BoundRow) (s t : ℕ) → s ≢ t → greater_gap (option_and_then cut (stored rows s t)) (option_and_then cut (greatest_sum rows (rows_from rows s) t)) ≡ gap rows s t
unfolding gap exact_gap
gap_apart rows s t apart = rw (ne_eqb s t apart) (sym (cut-greater_gap (stored rows s t) (greatest_sum rows (rows_from rows s) t)))

pub gap_same : (rows : List BoundRow) (s t : ℕ) → s ≡ t → gap rows s t ≡ Some (pos 0)
unfolding gap
gap_same rows s t same = rw (eq-eqb s t same) refl

pub gap_with_apart : (rows : List BoundRow) (between : ℤ) (s t : ℕ) → s ≢ t → greater_gap (gap rows s t) (cut between) ≡ gap_with rows between s t
unfolding gap gap_with
gap_with_apart rows between s t apart = rw (ne_eqb s t apart) (sym (cut-greater_gap (exact_gap rows s t) (Some between)))

pub gap_with_same : (rows : List BoundRow) (between : ℤ) (s t : ℕ) → s ≡ t → gap_with rows between s t ≡ Some (pos 0)
unfolding gap_with
gap_with_same rows between s t same = rw (eq-eqb s t same) refl

-- What is written of a symbol, after all bounds from s.
pub direct_row : (rows : List BoundRow) (s t : ℕ) (start first : Option ℤ) → AreBounds rows → start ≡ None
    → first ≡ greater_gap start (reach (pos 0) (rows_from rows s) t) → first ≡ option_and_then cut (stored rows s t)
direct_row rows s t start first form nothing then_is = (rw nothing at then_is) ∙ reach_first rows s t form

-- What is written of a symbol that is not s, after all bounds from s and all behind them.
pub gap_row : (rows : List BoundRow) (s t : ℕ) (start first last : Option ℤ) → AreBounds rows → s ≢ t → start ≡ None
    → first ≡ greater_gap start (reach (pos 0) (rows_from rows s) t) → last ≡ greater_gap first (option_and_then cut (greatest_sum rows (rows_from rows s) t))
    → last ≡ gap rows s t
gap_row rows s t start first last form apart nothing then_is last_is =
    let first_is = direct_row rows s t start first form nothing then_is in
    (rw first_is at last_is) ∙ gap_apart rows s t apart

-- ---- one place of a slice of gaps

pub raise_there : (gaps : List (Option ℤ)) (t i : ℕ) (raised more : Option ℤ) → t < length gaps → raised ≡ greater_gap (get_or gaps t None) more
    → get_or (set gaps t raised) i None ≡ (if t == i then greater_gap (get_or gaps i None) more else get_or gaps i None)
raise_there gaps t i raised more inside is =
    elim (cases_Bool (t == i)) [
      | inl same ↦
          let here : t ≡ i = eqb-true t i same in
          let place : i < length gaps = omega (arith, here, inside) in
          rw same (subst (λ j. get_or (set gaps j raised) i None ≡ greater_gap (get_or gaps i None) more) (sym here) (get_or-set_same gaps i raised None place ∙ (rw here at is)))
      | inr apart ↦
          let other : i ≢ t = λ e. eqb-false t i apart (sym e) in
          rw apart (get_or-set_other gaps t i raised None other)
    ]

pub raise_past : (gaps : List (Option ℤ)) (t i : ℕ) (more : Option ℤ) → length gaps ≤ t → i < length gaps
    → get_or gaps i None ≡ (if t == i then greater_gap (get_or gaps i None) more else get_or gaps i None)
raise_past gaps t i more past inside = rw (ne_eqb t i (λ e. omega (arith, e, past, inside))) refl
