-- Pairs that rise from each to the next rise from each to all later ones.
use Rattle.std.proofs.Common.{Bool, ◌&&◌, ◌≡◌, ◌↔◌, IsTrue, ℕ, suc, ◌+◌, ◌<◌, ◌≤◌, true, false, List, [], ◌∷◌, length, get_or, drop, drop-cons, add-one, Option, Some, None, refl, sym, ◌∙◌}
use Rattle.std.specs.List.{AllByRecursion}
use Rattle.std.proofs.lemmas.Bool.{and_parts, and_from, false≢true}
use Rattle.std.proofs.lemmas.List.{drop_all}
use Rattle.alias_facts.specs.PairsOf.{Pair, comes_before, is_proper, AreInOrder, AreProper}
use Rattle.alias_facts.specs.Following.{follows, stands_behind}
use Rattle.alias_facts.proofs.Orders.{before_trans}

-- Each of the pairs is proper, and stands behind the one before it.
abbrev pub rise_behind : Option Pair → List Pair → Bool
rise_behind previous [] = true
rise_behind previous (x ∷ xs) = stands_behind previous x && rise_behind (Some x) xs

-- All pairs stand behind one, if there is one.
abbrev AllFollow : Option Pair → List Pair → Type 0
AllFollow previous pairs = AllByRecursion (λ p. follows previous p ≡ true) pairs

carried : (previous : Option Pair) (x : Pair) (xs : List Pair) → follows previous x ≡ true → AllByRecursion (λ y. comes_before x y ≡ true) xs → AllFollow previous xs
carried previous x [] first later = tt
carried None x (y ∷ ys) first later = (refl, carried None x ys first later.1)
carried (Some previous) x (y ∷ ys) first later = (before_trans previous x y first later.0, carried (Some previous) x ys first later.1)

form_from_rise : (previous : Option Pair) (pairs : List Pair) → rise_behind previous pairs ≡ true → AreInOrder pairs × AreProper pairs × AllFollow previous pairs
form_from_rise previous [] rise = (tt, tt, tt)
form_from_rise previous (x ∷ xs) rise =
    let parts = and_parts (stands_behind previous x) (rise_behind (Some x) xs) rise in
    let here = and_parts (is_proper x) (follows previous x) parts.0 in
    let rest = form_from_rise (Some x) xs parts.1 in
    ((rest.2, rest.0), (here.0, rest.1), (here.1, carried previous x xs here.1 rest.2))

rise_from_form : (previous : Option Pair) (pairs : List Pair) → AreInOrder pairs → AreProper pairs → AllFollow previous pairs → rise_behind previous pairs ≡ true
rise_from_form previous [] order proper all = refl
rise_from_form previous (x ∷ xs) order proper all =
    and_from (stands_behind previous x) (rise_behind (Some x) xs) (and_from (is_proper x) (follows previous x) proper.0 all.0)
    (rise_from_form (Some x) xs order.1 proper.1 order.0)

after_none : (pairs : List Pair) → AllFollow None pairs
after_none [] = tt
after_none (x ∷ xs) = (refl, after_none xs)

-- Told by neighbours, pairs are in order and proper exactly where they are.
rise_exactly : (pairs : List Pair) → rise_behind None pairs ≡ true ↔ (AreInOrder pairs × AreProper pairs)
rise_exactly pairs = (
  λ rise. let form = form_from_rise None pairs rise in (form.0, form.1),
  λ form. rise_from_form None pairs form.0 form.1 (after_none pairs),
)

-- ---- a loop over neighbours

pub one_more : (previous : Option Pair) (pairs : List Pair) (i : ℕ) (d : Pair) → i < length pairs → stands_behind previous (get_or pairs i d) ≡ true
    → rise_behind previous (drop i pairs) ≡ rise_behind None pairs → rise_behind (Some (get_or pairs i d)) (drop (i + 1) pairs) ≡ rise_behind None pairs
one_more previous pairs i d inside here so_far =
    let split : drop i pairs ≡ get_or pairs i d ∷ drop (suc i) pairs = drop-cons pairs i d inside in
    rw add-one (rw here at (rw split at so_far))

pub no_more : (previous : Option Pair) (pairs : List Pair) (i : ℕ) → length pairs ≤ i → rise_behind previous (drop i pairs) ≡ rise_behind None pairs
    → IsTrue true ↔ (AreInOrder pairs × AreProper pairs)
no_more previous pairs i past so_far =
    let none : drop i pairs ≡ [] = drop_all i pairs past in
    let all : true ≡ rise_behind None pairs = rw none at so_far in
    (λ _. (rise_exactly pairs).0 (sym all), λ _. refl)

pub fails_here : (previous : Option Pair) (pairs : List Pair) (i : ℕ) (d : Pair) → i < length pairs → stands_behind previous (get_or pairs i d) ≡ false
    → rise_behind previous (drop i pairs) ≡ rise_behind None pairs → IsTrue false ↔ (AreInOrder pairs × AreProper pairs)
fails_here previous pairs i d inside here so_far =
    let split : drop i pairs ≡ get_or pairs i d ∷ drop (suc i) pairs = drop-cons pairs i d inside in
    let none : false ≡ rise_behind None pairs = rw here at (rw split at so_far) in
    (λ yes. absurd (false≢true yes), λ form. absurd (false≢true (none ∙ (rise_exactly pairs).1 form)))
