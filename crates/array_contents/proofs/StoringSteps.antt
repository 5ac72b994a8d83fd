-- Stores to each reference, one by one.
use Rattle.std.proofs.Common.{◌≡◌, ◌⊎◌, ℕ, zero, suc, ◌+◌, ◌<◌, ◌≤◌, Bool, List, [], ◌∷◌, ◌++◌, length, map, get_or, set, take, drop, refl, arith, subst, sym, ap, ◌∙◌}
use Rattle.std.proofs.lemmas.List.{get_or-map, length-map, map-set}
use Rattle.std.specs.List.{AllByRecursion}
use Rattle.domain_api.specs.declared.expr.Expr.{Expr}
use Rattle.interval_domain.specs.Interval.{Interval}
use Rattle.interval_domain.specs.Joins.{full, hull}
use Rattle.array_segments.specs.SegmentLists.{HasForm}
use Rattle.array_segments.specs.Storing.{strongly_stored}
use Rattle.array_contents.specs.Contents.{Contents, Segments, of_null}
use Rattle.array_contents.specs.Storing.{Gaps, strongly_at, weakly_each, weakly_one}
use Rattle.array_contents.proofs.AtSteps.{all_set}
use Rattle.array_contents.proofs.EachSteps.{each_end, each_more, there_is}

-- ---- the form

pub form_set : {X : Type 0} (view : X → Segments) (xs : List X) (i : ℕ) (x : X) → HasForm (view x)
    → AllByRecursion HasForm (map view xs) → AllByRecursion HasForm (map view (set xs i x))
form_set view xs i x is all = subst (AllByRecursion HasForm) (sym (map-set view xs i x)) (all_set HasForm (map view xs) i (view x) is all)

-- ---- a store to each that may be the array

weakly_empty : (gap : Gaps) (at : Expr) (value : Interval) (others : List Bool) → weakly_each gap at value others [] ≡ []
weakly_empty gap at value [] = refl
weakly_empty gap at value (may_be ∷ others) = refl

-- What is known of references where those before a place are done.
abbrev pub weakly_from : Gaps → Expr → Interval → ℕ → List Bool → Contents → Contents
weakly_from gap at value place others contents =
    take place contents ++ weakly_each gap at value (drop place others) (drop place contents)

pub weakly_more : {X : Type 0} (gap : Gaps) (at : Expr) (value : Interval) (view : X → Segments) (others : List Bool) (xs : List X)
    (place : ℕ) (may_be d : Bool) (x made e : X) → place < length others → place < length xs
    → may_be ≡ get_or others place d → x ≡ get_or xs place e
    → view made ≡ weakly_one gap at value may_be (view x)
    → weakly_from gap at value (place + 1) others (map view (set xs place made)) ≡ weakly_from gap at value place others (map view xs)
weakly_more gap at value view others xs place may_be d x made e below under is also stored =
    let lists : Contents = map view xs in
    let many : length lists ≡ length xs = length-map xs view in
    ap (weakly_from gap at value (place + 1) others) (map-set view xs place made ∙ ap (set lists place) stored)
    ∙ each_more (weakly_one gap at value) (weakly_each gap at value) (λ b bs y ys. refl) others lists place may_be (view x)
    below (omega arith) (is ∙ there_is others place d may_be below) (ap view (also ∙ there_is xs place e x under) ∙ sym (get_or-map view xs place x (view x) under))

pub weakly_end : (gap : Gaps) (at : Expr) (value : Interval) (others : List Bool) (contents : Contents) (place : ℕ)
    → (length others ≤ place) ⊎ (length contents ≤ place) → weakly_from gap at value place others contents ≡ contents
weakly_end gap at value others contents place past =
    each_end (weakly_each gap at value) (λ ys. refl) (weakly_empty gap at value) others contents place past

-- ---- a store to the array itself

pub strongly_null : (gap : Gaps) (r : ℕ) (at : Expr) (value : Interval) (contents : Contents) → r ≡ 0
    → contents ≡ strongly_at gap r at value contents
strongly_null gap r at value contents is = ap (λ n. strongly_at gap n at value contents) (sym is)

set_past : {X : Type 0} (xs : List X) (i : ℕ) (x : X) → length xs ≤ i → set xs i x ≡ xs
set_past [] i x past = refl
set_past (y ∷ xs) zero x past = absurd (omega arith)
set_past (y ∷ xs) (suc i) x past = ap (λ rest. y ∷ rest) (set_past xs i x (omega arith))

pub strongly_past : {X : Type 0} (gap : Gaps) (r i : ℕ) (at : Expr) (value : Interval) (view : X → Segments) (xs : List X)
    → r ≡ suc i → length xs ≤ i → map view xs ≡ strongly_at gap r at value (map view xs)
strongly_past gap r i at value view xs is past =
    let many : length (map view xs) ≡ length xs = length-map xs view in
    sym (set_past (map view xs) i (strongly_stored hull full gap (get_or (map view xs) i of_null) at value) (omega arith))
    ∙ ap (λ n. strongly_at gap n at value (map view xs)) (sym is)

pub strongly_there : {X : Type 0} (gap : Gaps) (r i : ℕ) (at : Expr) (value : Interval) (view : X → Segments) (xs : List X) (x made : X)
    → r ≡ suc i → i < length xs → x ≡ get_or xs i x → view made ≡ strongly_stored hull full gap (view x) at value
    → map view (set xs i made) ≡ strongly_at gap r at value (map view xs)
strongly_there gap r i at value view xs x made is below at_i stored =
    map-set view xs i made
    ∙ ap (set (map view xs) i) (stored ∙ ap (λ lists. strongly_stored hull full gap lists at value)
    (ap view at_i ∙ sym (get_or-map view xs i x of_null below)))
    ∙ ap (λ n. strongly_at gap n at value (map view xs)) (sym is)

-- Putting what is alike in its place changes nothing.
pub nothing_set : {X : Type 0} (view : X → Segments) (xs : List X) (i : ℕ) (x made : X) → x ≡ get_or xs i x → view made ≡ view x
    → map view (set xs i made) ≡ map view xs
nothing_set view [] i x made is same = refl
nothing_set view (y ∷ xs) zero x made is same = λ i. (same ∙ ap view is) i ∷ map view xs
nothing_set view (y ∷ xs) (suc i) x made is same = ap (λ rest. view y ∷ rest) (nothing_set view xs i x made is same)

pub ruleset store_steps = (strongly_null, strongly_past, strongly_there, form_set, nothing_set)
