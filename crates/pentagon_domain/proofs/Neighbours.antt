-- Rows that rise from each to the next rise from each to all later ones.
use Rattle.std.proofs.Common.{Bool, ◌&&◌, ◌≡◌, ◌↔◌, IsTrue, ℕ, suc, ◌+◌, ◌<◌, ◌≤◌, true, false, List, [], ◌∷◌, length, get_or, drop, drop-cons, add-one, Option, Some, None, refl, sym, ◌∙◌}
use Rattle.std.specs.List.{AllByRecursion}
use Rattle.std.proofs.lemmas.Bool.{and_parts, and_from, false≢true}
use Rattle.std.proofs.lemmas.List.{drop_all}
use Rattle.pentagon_domain.specs.declared.bound_row.BoundRow.{BoundRow}
use Rattle.pentagon_domain.specs.Rows.{is_pair, StandsBefore, AreBounds}
use Rattle.pentagon_domain.specs.Rising.{follows, stands_behind}
use Rattle.pentagon_domain.proofs.Searches.{before_trans}

-- Each of the rows is of two symbols of which a bound is stored, and stands behind the one before it.
abbrev pub rise_behind : Option BoundRow → List BoundRow → Bool
rise_behind previous [] = true
rise_behind previous (row ∷ rows) = stands_behind previous row && rise_behind (Some row) rows

-- All rows stand behind one, if there is one.
abbrev AllFollow : Option BoundRow → List BoundRow → Type 0
AllFollow previous rows = AllByRecursion (λ row. follows previous row ≡ true) rows

carried : (previous : Option BoundRow) (row : BoundRow) (rows : List BoundRow) → follows previous row ≡ true → AllByRecursion (StandsBefore row) rows → AllFollow previous rows
carried previous row [] first later = tt
carried None row (next ∷ rows) first later = (refl, carried None row rows first later.1)
carried (Some previous) row (next ∷ rows) first later = (before_trans previous row next.s next.t first later.0, carried (Some previous) row rows first later.1)

pub form_from_rise : (previous : Option BoundRow) (rows : List BoundRow) → rise_behind previous rows ≡ true → AreBounds rows × AllFollow previous rows
form_from_rise previous [] rise = (tt, tt)
form_from_rise previous (row ∷ rows) rise =
    let parts = and_parts (stands_behind previous row) (rise_behind (Some row) rows) rise in
    let here = and_parts (is_pair row.s row.t) (follows previous row) parts.0 in
    let rest = form_from_rise (Some row) rows parts.1 in
    ((here.0, rest.1, rest.0), (here.1, carried previous row rows here.1 rest.1))

pub rise_from_form : (previous : Option BoundRow) (rows : List BoundRow) → AreBounds rows → AllFollow previous rows → rise_behind previous rows ≡ true
rise_from_form previous [] form all = refl
rise_from_form previous (row ∷ rows) form all =
    and_from (stands_behind previous row) (rise_behind (Some row) rows) (and_from (is_pair row.s row.t) (follows previous row) form.0 all.0)
    (rise_from_form (Some row) rows form.2 form.1)

after_none : (rows : List BoundRow) → AllFollow None rows
after_none [] = tt
after_none (row ∷ rows) = (refl, after_none rows)

-- Told by neighbours, rows are those of bounds exactly where they are.
pub rise_exactly : (rows : List BoundRow) → (rise_behind None rows ≡ true → AreBounds rows) × (AreBounds rows → rise_behind None rows ≡ true)
rise_exactly rows = (λ rise. (form_from_rise None rows rise).0, λ form. rise_from_form None rows form (after_none rows))

-- ---- a loop over neighbours

pub one_more : (previous : Option BoundRow) (rows : List BoundRow) (i : ℕ) (d : BoundRow) → i < length rows → stands_behind previous (get_or rows i d) ≡ true
    → rise_behind previous (drop i rows) ≡ rise_behind None rows → rise_behind (Some (get_or rows i d)) (drop (i + 1) rows) ≡ rise_behind None rows
one_more previous rows i d inside here so_far =
    let split : drop i rows ≡ get_or rows i d ∷ drop (suc i) rows = drop-cons rows i d inside in
    rw add-one (rw here at (rw split at so_far))

pub no_more : (previous : Option BoundRow) (rows : List BoundRow) (i : ℕ) → length rows ≤ i → rise_behind previous (drop i rows) ≡ rise_behind None rows
    → IsTrue true ↔ AreBounds rows
no_more previous rows i past so_far =
    let none : drop i rows ≡ [] = drop_all i rows past in
    let all : true ≡ rise_behind None rows = rw none at so_far in
    (λ _. (rise_exactly rows).0 (sym all), λ _. refl)

pub fails_here : (previous : Option BoundRow) (rows : List BoundRow) (i : ℕ) (d : BoundRow) → i < length rows → stands_behind previous (get_or rows i d) ≡ false
    → rise_behind previous (drop i rows) ≡ rise_behind None rows → IsTrue false ↔ AreBounds rows
fails_here previous rows i d inside here so_far =
    let split : drop i rows ≡ get_or rows i d ∷ drop (suc i) rows = drop-cons rows i d inside in
    let none : false ≡ rise_behind None rows = rw here at (rw split at so_far) in
    (λ yes. absurd (false≢true yes), λ form. none ∙ (rise_exactly rows).1 form)
