-- Differences that are put in order by the symbol that is subtracted.
use Rattle.std.proofs.Common.{◌≡◌, ℕ, zero, suc, ◌+◌, ◌≤◌, ◌<◌, ◌==◌, nat_le, true, false, not, ◌&&◌, List, [], ◌∷◌, ◌++◌, Option, Some, None, length, get_or, insert, drop, drop-cons, add-one, pos, refl, sym, ap, subst, ◌∙◌, arith, inl, inr}
use Rattle.std.specs.List.{AllWithin, cons_option}
use Rattle.std.specs.List.Sorted.{IsStableByKey}
use Rattle.std.specs.Ordering.{is_lt, nat_cmp}
use Rattle.std.proofs.lemmas.Bool.{cases_Bool, eq-eqb, eqb-true}
use Rattle.std.proofs.lemmas.Bool.Decides.{nat_tests}
use Rattle.std.proofs.lemmas.List.{append_assoc, append-nil, drop_all}
use Rattle.std.proofs.lemmas.List.Elements.{filter-append, filter_map-append, filter_agree}
use Rattle.domain_api.specs.declared.expr.Expr.{Expr}
use Rattle.symbolic_values.specs.declared.def.Def.{Def}
use Rattle.number_facts.specs.Differences.{difference_of, differences, subtracting, Rise, AreDifferences, put, put_some}
use Rattle.number_facts.specs.declared.differences.Difference.{Difference}

-- ---- one more difference, in its place

-- The place behind all up to its symbol.
pub put_at : (ds : List Difference) (new : Difference) (place : ℕ) → place ≤ length ds
    → AllWithin (λ d. nat_le d.subtrahend.sym new.subtrahend.sym ≡ true) ds 0 place
    → AllWithin (λ d. nat_le d.subtrahend.sym new.subtrahend.sym ≡ false) ds place (length ds) → insert ds place new ≡ put ds new
put_at [] new zero le prefix behind = refl
put_at [] new (suc place) le prefix behind = absurd (omega (arith, le))
put_at (d ∷ ds) new zero le prefix behind = rw (behind zero d (omega arith) (omega arith)) refl
put_at (d ∷ ds) new (suc place) le prefix behind =
    rw (prefix zero d (omega arith) (omega arith))
    (ap (λ es. d ∷ es)
    (put_at ds new place (omega (arith, le)) (λ k e low high. prefix (suc k) e (omega arith) (omega (arith, high)))
    (λ k e low high. behind (suc k) e (omega (arith, low)) (omega (arith, high)))))

-- All subtract this symbol or a later one.
abbrev AreFrom : ℕ → List Difference → Type 0
AreFrom y ds = (k : ℕ) (d : Difference) → k < length ds → y ≤ (get_or ds k d).subtrahend.sym

from_first : (y : ℕ) (first : Difference) (ds : List Difference) → y ≤ first.subtrahend.sym → AreFrom y ds → AreFrom y (first ∷ ds)
from_first y first ds low rest zero d inside = low
from_first y first ds low rest (suc k) d inside = rest k d (omega (arith, inside))

behind_first : (first : Difference) (ds : List Difference) → Rise (first ∷ ds) → AreFrom first.subtrahend.sym ds
behind_first first ds rise = λ k d inside. rise zero (suc k) d (omega arith) (omega (arith, inside))

rest_rise : (first : Difference) (ds : List Difference) → Rise (first ∷ ds) → Rise ds
rest_rise first ds rise = λ i j d up inside. rise (suc i) (suc j) d (omega (arith, up)) (omega (arith, inside))

rise_from : (first : Difference) (ds : List Difference) → AreFrom first.subtrahend.sym ds → Rise ds → Rise (first ∷ ds)
rise_from first ds above rest zero zero d up inside = omega arith
rise_from first ds above rest zero (suc j) d up inside = above j d (omega (arith, inside))
rise_from first ds above rest (suc i) zero d up inside = absurd (omega (arith, up))
rise_from first ds above rest (suc i) (suc j) d up inside = rest i j d (omega (arith, up)) (omega (arith, inside))

up_to : (m n : ℕ) → nat_le m n ≡ true → m ≤ n
up_to m n is = grind (arith, nat_tests)

beyond : (m n : ℕ) → nat_le m n ≡ false → suc n ≤ m
beyond m n is = grind (arith, nat_tests)

put_from : (y : ℕ) (ds : List Difference) (new : Difference) → y ≤ new.subtrahend.sym → AreFrom y ds → AreFrom y (put ds new)
put_from y [] new low all = from_first y new [] low all
put_from y (d ∷ ds) new low all =
    elim (cases_Bool (nat_le d.subtrahend.sym new.subtrahend.sym)) [
      | inl before ↦
          rw before (from_first y d (put ds new) (all zero d (omega arith)) (put_from y ds new low (λ k e inside. all (suc k) e (omega (arith, inside)))))
      | inr behind ↦ rw behind (from_first y new (d ∷ ds) low all)
    ]

put_rise : (ds : List Difference) (new : Difference) → Rise ds → Rise (put ds new)
put_rise [] new rise = rise_from new [] (λ k d inside. absurd (omega (arith, inside))) rise
put_rise (d ∷ ds) new rise =
    elim (cases_Bool (nat_le d.subtrahend.sym new.subtrahend.sym)) [
      | inl before ↦
          rw before
          (rise_from d (put ds new) (put_from d.subtrahend.sym ds new (up_to d.subtrahend.sym new.subtrahend.sym before) (behind_first d ds rise))
          (put_rise ds new (rest_rise d ds rise)))
      | inr behind ↦
          let later = beyond d.subtrahend.sym new.subtrahend.sym behind in
          let own : new.subtrahend.sym ≤ d.subtrahend.sym = omega (arith, later) in
          rw behind
          (rise_from new (d ∷ ds) (from_first new.subtrahend.sym d ds own (λ k e inside. let up = behind_first d ds rise k e inside in omega (arith, own, up))) rise)
    ]

none_of : (y : ℕ) (ds : List Difference) → AreFrom (suc y) ds → subtracting y ds ≡ []
none_of y [] all = refl
none_of y (d ∷ ds) all =
    let later = all zero d (omega arith) in
    let other : (d.subtrahend.sym == y) ≡ false = grind (arith, nat_tests, later) in
    rw other (none_of y ds (λ k e inside. all (suc k) e (omega (arith, inside))))

put_last : (ds : List Difference) (new : Difference) → Rise ds → subtracting new.subtrahend.sym (put ds new) ≡ subtracting new.subtrahend.sym ds ++ new ∷ []
put_last [] new rise = rw (eq-eqb new.subtrahend.sym new.subtrahend.sym refl) refl
put_last (d ∷ ds) new rise =
    let rest = put_last ds new (rest_rise d ds rise) in
    let own = eq-eqb new.subtrahend.sym new.subtrahend.sym refl in
    elim (cases_Bool (nat_le d.subtrahend.sym new.subtrahend.sym)) [
      | inl before ↦
          elim (cases_Bool (d.subtrahend.sym == new.subtrahend.sym)) [
            | inl here ↦ rw (before, here) (ap (λ es. d ∷ es) rest)
            | inr other ↦ rw (before, other) rest
          ]
      | inr behind ↦
          let later = beyond d.subtrahend.sym new.subtrahend.sym behind in
          let none = none_of new.subtrahend.sym (d ∷ ds) (from_first _ d ds later (λ k e inside. let up = behind_first d ds rise k e inside in omega (arith, later, up))) in
          rw (behind, own) (ap (λ es. new ∷ es) none ∙ ap (λ es. es ++ new ∷ []) (sym none))
    ]

put_other : (y : ℕ) (ds : List Difference) (new : Difference) → (new.subtrahend.sym == y) ≡ false → subtracting y (put ds new) ≡ subtracting y ds
put_other y [] new other = rw other refl
put_other y (d ∷ ds) new other =
    elim (cases_Bool (nat_le d.subtrahend.sym new.subtrahend.sym)) [
      | inl before ↦
          elim (cases_Bool (d.subtrahend.sym == y)) [
            | inl here ↦ rw (before, here) (ap (λ es. d ∷ es) (put_other y ds new other))
            | inr apart ↦ rw (before, apart) (put_other y ds new other)
          ]
      | inr behind ↦ rw (behind, other) refl
    ]

-- ---- one more definition

some_rise : (ds : List Difference) (o : Option Difference) → Rise ds → Rise (put_some ds o)
some_rise ds None rise = rise
some_rise ds (Some new) rise = put_rise ds new rise

some_last : (y : ℕ) (ds all : List Difference) (o : Option Difference) → Rise ds → subtracting y ds ≡ subtracting y all
    → subtracting y (put_some ds o) ≡ subtracting y (all ++ cons_option o [])
some_last y ds all None rise same = same ∙ ap (λ es. subtracting y es) (sym (append-nil all))
some_last y ds all (Some new) rise same =
    let split = filter-append (λ d. d.subtrahend.sym == y) all (new ∷ []) in
    elim (cases_Bool (new.subtrahend.sym == y)) [
      | inl here ↦
          let is = eqb-true new.subtrahend.sym y here in
          let mine = subst (λ n. subtracting n (put ds new) ≡ subtracting n ds ++ new ∷ []) is (put_last ds new rise) in
          mine ∙ ap (λ es. es ++ new ∷ []) same ∙ sym (rw here at split)
      | inr other ↦ put_other y ds new other ∙ same ∙ sym (rw other at split ∙ append-nil (subtracting y all))
    ]

-- Where a definition is added to the rows, its difference, if it is one, is put among the differences.
pub both_added : (ds : List Difference) (rows : List (ℕ × Def)) (row : ℕ × Def) → AreDifferences ds rows
    → AreDifferences (put_some ds (difference_of row.0 row.1)) (rows ++ row ∷ [])
both_added ds rows row are = record {
  rise = some_rise ds (difference_of row.0 row.1) are.rise;
  same = λ y.
      some_last y ds (differences rows) (difference_of row.0 row.1) are.rise (are.same y)
      ∙ ap (λ es. subtracting y es) (sym (filter_map-append (λ (d : ℕ × Def). difference_of d.0 d.1) rows (row ∷ [])));
}

-- ---- more definitions, one after another

pub added_more : {X : Type 0} (more : List X) (i : ℕ) (rows now whole : List X) (d : X) → i < length more
    → now ≡ rows ++ get_or more i d ∷ [] → rows ++ drop i more ≡ whole → now ++ drop (i + 1) more ≡ whole
added_more more i rows now whole d inside is so_far =
    let split : drop i more ≡ get_or more i d ∷ drop (suc i) more = drop-cons more i d inside in
    rw (add-one, is) (append_assoc rows (get_or more i d ∷ []) (drop (suc i) more) ∙ rw split at so_far)

pub added_all : {X : Type 0} (more : List X) (i : ℕ) (rows whole : List X) → length more ≤ i → rows ++ drop i more ≡ whole → rows ≡ whole
added_all more i rows whole past so_far = let none : drop i more ≡ [] = drop_all i more past in sym (append-nil rows) ∙ rw none at so_far

pub ruleset additions = (added_more, added_all)

-- ---- a sort by the symbol that is subtracted

tie_is : (t u : ℕ) → (not (is_lt (nat_cmp t u)) && not (is_lt (nat_cmp u t))) ≡ (u == t)
tie_is t u = grind (arith, nat_tests)

pub same_from_stable : (all ds : List Difference) → IsStableByKey (λ d. d.subtrahend.sym) nat_cmp all ds → (y : ℕ) → subtracting y ds ≡ subtracting y all
same_from_stable all ds stable y =
    let zero_expr : Expr = record { sym = y; k = pos 0 } in
    let one : Difference = record { symbol = 0; minuend = zero_expr; subtrahend = zero_expr } in
    let alike = λ (other : Difference). tie_is y other.subtrahend.sym in
    sym (filter_agree _ (λ other. other.subtrahend.sym == y) alike ds) ∙ stable one ∙ filter_agree _ (λ other. other.subtrahend.sym == y) alike all
