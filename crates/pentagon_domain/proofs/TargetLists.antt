-- Rows by the symbol to which they go.
use Rattle.std.proofs.Common.{◌≡◌, ℕ, zero, suc, ◌≤◌, ◌<◌, ◌==◌, pos, Bool, true, false, not, ◌&&◌, List, [], ◌∷◌, length, get_or, map, filter, drop, drop-cons, add-one, ◌+◌, refl, sym, ap, subst, ◌∙◌, arith, inl, inr}
use Rattle.std.specs.Prelude.{Result, Ok, Err, IsOk, OnOk}
use Rattle.std.specs.List.{AllByRecursion, AllWithin}
use Rattle.std.specs.List.Sorted.{IsPartitionedBy, IsNonDecreasingBy, IsStableByKey}
use Rattle.std.specs.Ordering.{is_lt, nat_cmp}
use Rattle.std.proofs.lemmas.Bool.{cases_Bool, cases_order, and_parts, eq-eqb, eqb-true}
use Rattle.std.proofs.lemmas.Bool.Decides.{nat_tests}
use Rattle.std.proofs.lemmas.List.{drop_all, get_or-map, length-map, map-id}
use Rattle.pentagon_domain.specs.declared.bound_row.BoundRow.{BoundRow}
use Rattle.pentagon_domain.specs.Rows.{is_pair, is_before, is_of, StandsBefore, AreBounds, rows_to, place_of, put, with_bound, with_bounds}
use Rattle.pentagon_domain.specs.Targets.{turned, AreTargets, put_at}
use Rattle.pentagon_domain.proofs.Puts.{put_in_order, put_bounds}
use Rattle.pentagon_domain.proofs.Searches.{later_other, partitioned, place_is, symbols_rise}

-- ---- searches among them

-- Their symbols rise.
pub targets_rise : (targets : List BoundRow) → AreBounds (map turned targets) → IsNonDecreasingBy (λ row. row.t) targets
targets_rise targets form = λ i j d up inside.
    let there : j < length (map turned targets) = rw (length-map targets turned) inside in
    rw (get_or-map turned targets i d d (omega (arith, up, inside)), get_or-map turned targets j d d inside) at (symbols_rise (map turned targets) form i j d up there)

-- Rows before those of two symbols come first.
pub targets_partitioned : (targets : List BoundRow) (s t : ℕ) → AreBounds (map turned targets) → IsPartitionedBy (λ row. is_before (turned row) t s) targets
targets_partitioned targets s t form = λ i j d up inside is.
    let there : j < length (map turned targets) = rw (length-map targets turned) inside in
    let first = get_or-map turned targets i d d (omega (arith, up, inside)) in
    let second = get_or-map turned targets j d d inside in
    rw first at (partitioned (map turned targets) t s form i j d up there (rw second is))

turned_within : (targets : List BoundRow) (s t low high : ℕ) (so : Bool) → high ≤ length targets → AllWithin (λ row. is_before (turned row) t s ≡ so) targets low high
    → AllWithin (λ row. is_before row t s ≡ so) (map turned targets) low high
turned_within targets s t low high so inside all = λ k d above below.
    rw (get_or-map turned targets k d d (omega (arith, inside, below))) (all k d above below)

-- So many rows stand before them.
pub place_to_is : (targets : List BoundRow) (s t i : ℕ) → i ≤ length targets → AllWithin (λ row. is_before (turned row) t s ≡ true) targets 0 i
    → AllWithin (λ row. is_before (turned row) t s ≡ false) targets i (length targets) → i ≡ place_of (map turned targets) t s
place_to_is targets s t i le prefix behind =
    let long = length-map targets turned in
    place_is (map turned targets) t s i (rw long le) (turned_within targets s t 0 i true le prefix)
    (rw long (turned_within targets s t i (length targets) false (omega arith) behind))

-- ---- one more bound

-- The row at a place, exchanged, is put among exchanged rows.
of_turned : (row : BoundRow) (s t : ℕ) → is_of (turned row) t s ≡ is_of row s t
of_turned row s t = elim (cases_Bool (row.s == s)) [
  | inl first ↦ elim (cases_Bool (row.t == t)) [ inl second ↦ rw (first, second) refl | inr second ↦ rw (first, second) refl ]
  | inr first ↦ elim (cases_Bool (row.t == t)) [ inl second ↦ rw (first, second) refl | inr second ↦ rw (first, second) refl ]
]

put_turned : (rows : List BoundRow) (place : ℕ) (new : BoundRow) → map turned (put_at rows place new) ≡ put_at (map turned rows) place (turned new)
put_turned [] place new = refl
put_turned (row ∷ rows) zero new =
    elim (cases_Bool (is_of row new.s new.t)) [
      | inl here ↦ rw (of_turned row new.s new.t, here) refl
      | inr other ↦ rw (of_turned row new.s new.t, other) refl
    ]
put_turned (row ∷ rows) (suc place) new = ap (λ ys. turned row ∷ ys) (put_turned rows place new)

pair_turned : (s t : ℕ) → is_pair s t ≡ true → is_pair t s ≡ true
pair_turned s t pair = grind (arith, nat_tests)

form_kept : (targets : List BoundRow) (new : BoundRow) → is_pair new.s new.t ≡ true → AreBounds (map turned targets)
    → AreBounds (map turned (put_at targets (place_of (map turned targets) new.t new.s) new))
form_kept targets new pair form =
    let is = put_turned targets (place_of (map turned targets) new.t new.s) new ∙ put_in_order (map turned targets) (turned new) in
    subst AreBounds (sym is) (put_bounds (map turned targets) new.t new.s new.k (pair_turned new.s new.t pair) form)

-- The rows to another symbol stay.
to_other : (rows : List BoundRow) (place : ℕ) (new : BoundRow) (u : ℕ) → (new.t == u) ≡ false → rows_to (put_at rows place new) u ≡ rows_to rows u
to_other [] place new u other = rw other refl
to_other (row ∷ rows) zero new u other =
    elim (cases_Bool (is_of row new.s new.t)) [
      | inl here ↦
          let same = eqb-true row.t new.t (and_parts (row.s == new.s) (row.t == new.t) here).1 in
          let past : (row.t == u) ≡ false = rw same other in
          rw (here, past) refl
      | inr apart ↦ rw (apart, other) refl
    ]
to_other (row ∷ rows) (suc place) new u other =
    elim (cases_Bool (row.t == u)) [
      | inl here ↦ rw here (ap (λ ys. row ∷ ys) (to_other rows place new u other))
      | inr past ↦ rw past (to_other rows place new u other)
    ]

later_behind : (row later : BoundRow) (s t : ℕ) → is_before row s t ≡ false → is_of row s t ≡ false → is_before row later.s later.t ≡ true
    → is_before later s t ≡ false
later_behind row later s t behind other before = grind (arith, nat_tests)

-- Rows are in order when seen through f, which leaves that of the rows to t as it is.
record Sees (f : BoundRow → BoundRow) (new : BoundRow) (a b : ℕ) : Type 0 where
  order : (row : BoundRow) → (row.t == new.t) ≡ true → is_before (f row) a b ≡ is_before row new.s new.t
  is : (row : BoundRow) → is_of (f row) a b ≡ is_of row new.s new.t

module _ (f : BoundRow → BoundRow) (new : BoundRow) (a b : ℕ) (sees : Sees f new a b) where
  -- what is behind a row that is not before the new one is not before it either
  behind_all : (row : BoundRow) (rows : List BoundRow) → is_before (f row) a b ≡ false → is_of (f row) a b ≡ false
      → AllByRecursion (StandsBefore (f row)) (map f rows) → put (rows_to rows new.t) new.s new.t new.k ≡ new ∷ rows_to rows new.t
  behind_all row [] behind other later = refl
  behind_all row (next ∷ rows) behind other later =
      elim (cases_Bool (next.t == new.t)) [
        | inl here ↦
            let past : is_before next new.s new.t ≡ false = sym (sees.order next here) ∙ later_behind (f row) (f next) a b behind other later.0 in
            let apart : is_of next new.s new.t ≡ false = sym (sees.is next) ∙ later_other (f row) (f next) a b behind other later.0 in
            rw (here, past, apart) refl
        | inr elsewhere ↦ rw elsewhere (behind_all row rows behind other later.1)
      ]

  -- Among the rows to its symbol the new row is put in order.
  to_same : (rows : List BoundRow) → AreBounds (map f rows) → rows_to (put_at rows (place_of (map f rows) a b) new) new.t ≡ put (rows_to rows new.t) new.s new.t new.k
  to_same [] form = rw (eq-eqb new.t new.t refl) refl
  to_same (row ∷ rows) form =
      let rest = to_same rows form.2 in
      let own = eq-eqb new.t new.t refl in
      elim (cases_Bool (is_before (f row) a b)) [
        | inl before ↦
            elim (cases_Bool (row.t == new.t)) [
              | inl here ↦ let first : is_before row new.s new.t ≡ true = sym (sees.order row here) ∙ before in rw (before, here, first) (ap (λ ys. row ∷ ys) rest)
              | inr elsewhere ↦ rw (before, elsewhere) rest
            ]
        | inr behind ↦
            elim (cases_Bool (is_of row new.s new.t)) [
              | inl here ↦
                  let same = (and_parts (row.s == new.s) (row.t == new.t) here).1 in
                  let past : is_before row new.s new.t ≡ false = sym (sees.order row same) ∙ behind in
                  rw (behind, here, same, past, here) refl
              | inr other ↦
                  elim (cases_Bool (row.t == new.t)) [
                    | inl same ↦ let past : is_before row new.s new.t ≡ false = sym (sees.order row same) ∙ behind in rw (behind, other, own, same, past, other) refl
                    | inr elsewhere ↦ rw (behind, other, own, elsewhere) (sym (behind_all row rows behind (sees.is row ∙ other) form.1))
                  ]
            ]
      ]

order_turned : (new row : BoundRow) → (row.t == new.t) ≡ true → is_before (turned row) new.t new.s ≡ is_before row new.s new.t
order_turned new row same = grind (arith, nat_tests)

sees_turned : (new : BoundRow) → Sees turned new new.t new.s
sees_turned new = record { order = order_turned new; is = λ row. of_turned row new.s new.t }

sees_itself : (new : BoundRow) → Sees (λ row. row) new new.s new.t
sees_itself new = record { order = λ row same. refl; is = λ row. refl }

put_same : (rows : List BoundRow) (new : BoundRow) → AreBounds rows
    → rows_to (put_at rows (place_of rows new.s new.t) new) new.t ≡ put (rows_to rows new.t) new.s new.t new.k
put_same rows new form =
    let as_is = map-id rows in
    rw as_is at (to_same (λ row. row) new new.s new.t (sees_itself new) rows (rw as_is form))

same_kept : (targets rows : List BoundRow) (new : BoundRow) → AreBounds rows → AreTargets targets rows → (u : ℕ)
    → rows_to (put_at targets (place_of (map turned targets) new.t new.s) new) u ≡ rows_to (put_at rows (place_of rows new.s new.t) new) u
same_kept targets rows new form are u =
    elim (cases_Bool (new.t == u)) [
      | inl here ↦
          let is = eqb-true new.t u here in
          rw (sym is) (to_same turned new new.t new.s (sees_turned new) targets are.form ∙ ap (λ ys. put ys new.s new.t new.k) (are.same new.t) ∙ sym (put_same rows new form))
      | inr other ↦ to_other targets _ new u other ∙ are.same u ∙ sym (to_other rows _ new u other)
    ]

-- A row that is put at its place in both orders keeps them.
pub both_kept : (targets rows : List BoundRow) (new : BoundRow) → is_pair new.s new.t ≡ true → AreBounds rows → AreTargets targets rows
    → AreTargets (put_at targets (place_of (map turned targets) new.t new.s) new) (put_at rows (place_of rows new.s new.t) new)
both_kept targets rows new pair form are = record { form = form_kept targets new pair are.form; same = same_kept targets rows new form are }

-- So it is where the second put is not refused.
pub both_put : {E : Type 0} (r : Result (Unit {0}) E) (targets rows targets_then rows_then : List BoundRow) (new : BoundRow) (target place : ℕ)
    → is_pair new.s new.t ≡ true → AreBounds rows → AreTargets targets rows → place ≡ place_of rows new.s new.t → target ≡ place_of (map turned targets) new.t new.s
    → rows_then ≡ put_at rows place new → IsOk r → OnOk r (targets_then ≡ put_at targets target new) → AreTargets targets_then rows_then
both_put (Ok u) targets rows targets_then rows_then new target place pair form are place_is target_is put room put_too =
    rw (put, put_too, place_is, target_is) (both_kept targets rows new pair form are)
both_put (Err e) targets rows targets_then rows_then new target place pair form are place_is target_is put room put_too = absurd cc

-- ---- more bounds, one after another

pub added_more : (bounds : List BoundRow) (i : ℕ) (rows now whole : List BoundRow) (d : BoundRow) → i < length bounds
    → now ≡ with_bound rows (get_or bounds i d).s (get_or bounds i d).t (get_or bounds i d).k → with_bounds rows (drop i bounds) ≡ whole → with_bounds now (drop (i + 1) bounds) ≡ whole
added_more bounds i rows now whole d inside is so_far =
    let split : drop i bounds ≡ get_or bounds i d ∷ drop (suc i) bounds = drop-cons bounds i d inside in
    rw (add-one, is) (rw split at so_far)

pub added_all : (bounds : List BoundRow) (i : ℕ) (rows whole : List BoundRow) → length bounds ≤ i → with_bounds rows (drop i bounds) ≡ whole → rows ≡ whole
added_all bounds i rows whole past so_far = let none : drop i bounds ≡ [] = drop_all i bounds past in rw none at so_far

pub ruleset additions = (added_more, added_all)

-- ---- rows that are sorted

kept_before : (row : BoundRow) (rows : List BoundRow) (t : ℕ) → AllByRecursion (StandsBefore row) rows → AllByRecursion (StandsBefore row) (rows_to rows t)
kept_before row [] t later = tt
kept_before row (next ∷ rows) t later =
    elim (cases_Bool (next.t == t)) [
      | inl here ↦ rw here (later.0, kept_before row rows t later.1)
      | inr past ↦ rw past (kept_before row rows t later.1)
    ]

pub bounds_to : (rows : List BoundRow) (t : ℕ) → AreBounds rows → AreBounds (rows_to rows t)
bounds_to [] t form = tt
bounds_to (row ∷ rows) t form =
    elim (cases_Bool (row.t == t)) [
      | inl here ↦ rw here (form.0, kept_before row rows t form.1, bounds_to rows t form.2)
      | inr past ↦ rw past (bounds_to rows t form.2)
    ]

turned_before : (row later : BoundRow) → row.t ≤ later.t → ((later.t == row.t) ≡ true → StandsBefore row later) → StandsBefore (turned row) (turned later)
turned_before row later up same =
    elim (cases_order row.t later.t) [
      | inl is ↦ let before = same (eq-eqb later.t row.t (sym is)) in grind (arith, nat_tests)
      | inr (inl low) ↦ grind (arith, nat_tests)
      | inr (inr high) ↦ absurd (omega (arith, up, high))
    ]

turned_all : (row : BoundRow) (rows : List BoundRow) → AllByRecursion (λ later. row.t ≤ later.t) rows → AllByRecursion (StandsBefore row) (rows_to rows row.t)
    → AllByRecursion (StandsBefore (turned row)) (map turned rows)
turned_all row [] up same = tt
turned_all row (next ∷ rows) up same =
    elim (cases_Bool (next.t == row.t)) [
      | inl here ↦
          let both : AllByRecursion (StandsBefore row) (next ∷ rows_to rows row.t) = rw here at same in
          (turned_before row next up.0 (λ _. both.0), turned_all row rows up.1 both.1)
      | inr past ↦ (turned_before row next up.0 (λ is. absurd cc), turned_all row rows up.1 (rw past at same))
    ]

at_least : (n : ℕ) (rows : List BoundRow) → ((k : ℕ) (d : BoundRow) → k < length rows → n ≤ (get_or rows k d).t) → AllByRecursion (λ later. n ≤ later.t) rows
at_least n [] all = tt
at_least n (row ∷ rows) all = (all zero row (omega arith), at_least n rows (λ k d inside. all (suc k) d (omega (arith, inside))))

tail_form : (row : BoundRow) (rows : List BoundRow) (t : ℕ) → AreBounds (rows_to (row ∷ rows) t) → AreBounds (rows_to rows t)
tail_form row rows t form =
    elim (cases_Bool (row.t == t)) [
      | inl here ↦ let both : AreBounds (row ∷ rows_to rows t) = rw here at form in both.2
      | inr past ↦ rw past at form
    ]

bounds_sorted : (targets : List BoundRow) → IsNonDecreasingBy (λ row. row.t) targets → ((t : ℕ) → AreBounds (rows_to targets t)) → AreBounds (map turned targets)
bounds_sorted [] rise form = tt
bounds_sorted (row ∷ rows) rise form =
    let here : AreBounds (row ∷ rows_to rows row.t) = rw (eq-eqb row.t row.t refl) at (form row.t) in
    let up = at_least row.t rows (λ k d inside. rise zero (suc k) d (omega arith) (omega (arith, inside))) in
    let rest : IsNonDecreasingBy (λ r. r.t) rows = λ i j d low inside. rise (suc i) (suc j) d (omega (arith, low)) (omega (arith, inside)) in
    (pair_turned row.s row.t here.0, turned_all row rows up here.1, bounds_sorted rows rest (λ t. tail_form row rows t (form t)))

-- ties in a sort by the second symbol are rows to one symbol
pub filter_alike : {X : Type 0} (p q : X → Bool) (xs : List X) → ((x : X) → p x ≡ q x) → filter p xs ≡ filter q xs
filter_alike p q [] alike = refl
filter_alike p q (x ∷ xs) alike =
    elim (cases_Bool (q x)) [
      | inl so ↦ let first : p x ≡ true = alike x ∙ so in rw (first, so) (ap (λ ys. x ∷ ys) (filter_alike p q xs alike))
      | inr not_so ↦ let first : p x ≡ false = alike x ∙ not_so in rw (first, not_so) (filter_alike p q xs alike)
    ]

tie_is : (t u : ℕ) → (not (is_lt (nat_cmp t u)) && not (is_lt (nat_cmp u t))) ≡ (u == t)
tie_is t u = grind (arith, nat_tests)

pub same_from_stable : (rows targets : List BoundRow) → IsStableByKey (λ row. row.t) nat_cmp rows targets → (t : ℕ) → rows_to targets t ≡ rows_to rows t
same_from_stable rows targets stable t =
    let row : BoundRow = record { s = 0; t = t; k = pos 0 } in
    let alike = λ (other : BoundRow). tie_is t other.t in
    sym (filter_alike _ (λ other. other.t == t) targets alike) ∙ stable row ∙ filter_alike _ (λ other. other.t == t) rows alike

-- Rows of bounds that are sorted by their second symbol, so that those of one symbol keep their order.
pub targets_sorted : (rows targets : List BoundRow) → AreBounds rows → IsNonDecreasingBy (λ row. row.t) targets → ((t : ℕ) → rows_to targets t ≡ rows_to rows t)
    → AreTargets targets rows
targets_sorted rows targets form rise same = record {
  form = bounds_sorted targets rise (λ t. subst AreBounds (sym (same t)) (bounds_to rows t form));
  same = same;
}
