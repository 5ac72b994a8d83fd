-- Contents that a store changes one by one, and the counts behind a store.
use Rattle.std.proofs.Common.{◌≡◌, ℕ, zero, suc, ◌+◌, ◌<◌, ◌≤◌, ℤ, Bool, true, false, List, [], ◌∷◌, ◌++◌, length, map, get_or, set, take, drop, arith, refl, sym, subst, ap, ◌∙◌, add-one, length-append, length-drop, length-take, Option}
use Rattle.std.specs.List.{AllByRecursion, drop-map, splice, take-map}
use Rattle.std.proofs.lemmas.List.{map-append}
use Rattle.domain_api.specs.declared.expr.Expr.{Expr}
use Rattle.array_segments.specs.Loading.{hull_between, start, starts, stop}
use Rattle.array_segments.specs.Comparing.{ends_behind, starts_by}
use Rattle.array_segments.specs.SegmentLists.{Has, HasFew, HasForm, Lists, zero_expr}
use Rattle.array_segments.specs.Storing.{around, changed_between, has_left, has_right, left_mark, new_bounds, replaced, replaced_by, right_mark}
use Rattle.array_segments.specs.Counted.{IsCounted}
use Rattle.array_segments.proofs.PlaceSteps.{first_place_above, first_place_within, last_place_below}

pub changed_more : {X : Type 0} (change : X → X) (place to : ℕ) (xs : List X) (x : X) → place < to → place < length xs → x ≡ get_or xs place x →
    changed_between change (suc place) to (set xs place (change x)) ≡ changed_between change place to xs
changed_more change zero zero xs x order below is = absurd (omega arith)
changed_more change zero (suc to) [] x order below is = absurd (omega arith)
changed_more change zero (suc to) (y ∷ xs) x order below is = λ i. change (is i) ∷ changed_between change zero to xs
changed_more change (suc place) zero xs x order below is = absurd (omega arith)
changed_more change (suc place) (suc to) [] x order below is = absurd (omega arith)
changed_more change (suc place) (suc to) (y ∷ xs) x order below is = ap (λ rest. y ∷ rest) (changed_more change place to xs x (omega arith) (omega arith) is)

pub added_more : {X : Type 0} (hull : X → X → X) (value : X) (place to : ℕ) (xs : List X) (x : X) → place < to → to ≤ length xs → x ≡ get_or xs place x →
    changed_between (λ content. hull content value) (place + 1) to (set xs place (hull x value)) ≡ changed_between (λ content. hull content value) place to xs
added_more hull value place to xs x order within is =
    ap (λ next. changed_between (λ content. hull content value) next to (set xs place (hull x value))) (add-one place)
    ∙ changed_more (λ content. hull content value) place to xs x order (omega arith) is

pub changed_all : {X : Type 0} (change : X → X) (place : ℕ) (xs : List X) → changed_between change place place xs ≡ xs
changed_all change zero xs = refl
changed_all change (suc place) [] = refl
changed_all change (suc place) (x ∷ xs) = ap (λ rest. x ∷ rest) (changed_all change place xs)

pub changed_length : {X : Type 0} (change : X → X) (from to : ℕ) (xs : List X) → length (changed_between change from to xs) ≡ length xs
changed_length change zero zero xs = refl
changed_length change zero (suc to) [] = refl
changed_length change zero (suc to) (x ∷ xs) = ap suc (changed_length change zero to xs)
changed_length change (suc from) zero xs = refl
changed_length change (suc from) (suc to) [] = refl
changed_length change (suc from) (suc to) (x ∷ xs) = ap suc (changed_length change from to xs)

-- ---- counts

pub splice_length : {X : Type 0} (xs : List X) (from to : ℕ) (ys : List X) → from ≤ to → to ≤ length xs → length (splice xs from to ys) + to ≡ from + length ys + length xs
splice_length xs from to ys order within =
    let all = length-append (take from xs) (ys ++ drop to xs) in
    let back = length-append ys (drop to xs) in
    let prefix = length-take from xs in
    let rest = length-drop to xs in
    omega arith

pub around_length : {X : Type 0} (left right : Bool) (before middle behind : X) (at : Expr) → length (around left right before middle behind) ≡ length (new_bounds left right at) + 1
around_length true true before middle behind at = refl
around_length true false before middle behind at = refl
around_length false true before middle behind at = refl
around_length false false before middle behind at = refl

few_append : (xs ys : List (List Expr)) → AllByRecursion HasFew xs → AllByRecursion HasFew ys → AllByRecursion HasFew (xs ++ ys)
few_append [] ys first second = second
few_append (x ∷ xs) ys first second = (first.0, few_append xs ys first.1 second)

few_take : (n : ℕ) (xs : List (List Expr)) → AllByRecursion HasFew xs → AllByRecursion HasFew (take n xs)
few_take zero xs few = tt
few_take (suc n) [] few = tt
few_take (suc n) (x ∷ xs) few = (few.0, few_take n xs few.1)

few_drop : (n : ℕ) (xs : List (List Expr)) → AllByRecursion HasFew xs → AllByRecursion HasFew (drop n xs)
few_drop zero xs few = few
few_drop (suc n) [] few = few
few_drop (suc n) (x ∷ xs) few = few_drop n xs few.1

few_new : (left right : Bool) (at : Expr) → AllByRecursion HasFew (new_bounds left right at)
few_new true true at = (record { some = omega arith; most = omega arith }, (record { some = omega arith; most = omega arith }, tt))
few_new true false at = (record { some = omega arith; most = omega arith }, tt)
few_new false true at = (record { some = omega arith; most = omega arith }, tt)
few_new false false at = tt

first_stays : (bounds : List (List Expr)) (from to : ℕ) (ys : List (List Expr)) → 1 ≤ length bounds → get_or (splice bounds (suc from) to ys) 0 [] ≡ get_or bounds 0 []
first_stays [] from to ys some = absurd (omega arith)
first_stays (bound ∷ bounds) from to ys some = refl

module _ {C : Type 0} (hull : C → C → C) (full : C) (gap : ℕ → ℕ → Option ℤ) (lists : Lists C) (at : Expr) (value : C) (form : HasForm lists) where
  start_count : length (starts lists) ≡ length lists.contents
  start_count = let b = form.bounded in let t = length-take (length lists.contents) lists.bounds in omega arith

  pub start_below : start gap lists at < length lists.contents
  start_below = let s = form.some in let e = start_count in last_place_below (starts_by gap at) 0 0 (length lists.contents) (starts lists) (omega arith) (omega arith)

  pub start_stop : start gap lists at < stop gap lists at
  start_stop = let h = first_place_above (ends_behind gap at) (start gap lists at + 1) (drop (start gap lists at + 1) (starts lists)) in omega arith

  pub stop_within : stop gap lists at ≤ length lists.contents
  stop_within =
      let h = first_place_within (ends_behind gap at) (start gap lists at + 1) (drop (start gap lists at + 1) (starts lists)) in
      let d = length-drop (start gap lists at + 1) (starts lists) in
      let e = start_count in
      let b = start_below in
      omega arith

  counted_between : (from to : ℕ) → from < to → to ≤ length lists.contents → IsCounted (replaced hull full gap lists at value from to)
  counted_between from to order within =
      let b = form.bounded in
      let m = form.marked in
      let left : Bool = has_left gap lists at from in
      let right : Bool = has_right gap lists at to in
      let outer : C = hull_between hull full lists.contents from to in
      let bounds = splice_length lists.bounds (from + 1) to (new_bounds left right at) (omega arith) (omega arith) in
      let contents = splice_length lists.contents from to (around left right outer value outer) (omega arith) (omega arith) in
      let marks = splice_length lists.marks from to (around left right (left_mark gap lists at from) false (right_mark gap lists at to)) (omega arith) (omega arith) in
      let more = around_length left right outer value outer at in
      let same = around_length left right (left_mark gap lists at from) false (right_mark gap lists at to) at in
      record {
        some = omega arith;
        bounded = omega arith;
        marked = omega arith;
        few = few_append (take (from + 1) lists.bounds) (new_bounds left right at ++ drop to lists.bounds) (few_take (from + 1) lists.bounds form.few)
            (few_append (new_bounds left right at) (drop to lists.bounds) (few_new left right at) (few_drop to lists.bounds form.few));
        from_zero = subst (λ n. Has zero_expr (get_or (splice lists.bounds n to (new_bounds left right at)) 0 [])) (sym (add-one from))
            (subst (Has zero_expr) (sym (first_stays lists.bounds from to (new_bounds left right at) (omega arith))) form.from_zero);
      }

  pub replaced_counted : IsCounted (replaced hull full gap lists at value (start gap lists at) (stop gap lists at))
  replaced_counted = counted_between (start gap lists at) (stop gap lists at) start_stop stop_within

-- ---- vectors

pub map_splice : {X Y : Type 0} (view : X → Y) (xs : List X) (from to : ℕ) (ys : List X) → map view (splice xs from to ys) ≡ splice (map view xs) from to (map view ys)
map_splice view xs from to ys =
    map-append view (take from xs) (ys ++ drop to xs)
    ∙ (λ i. sym (take-map view from xs) i ++ map-append view ys (drop to xs) i)
    ∙ ap (λ rest. take from (map view xs) ++ (map view ys ++ rest)) (sym (drop-map view to xs))

-- What is replaced, once each part of it is found.
pub replaced_is : {C : Type 0} (hull : C → C → C) (full : C) (gap : ℕ → ℕ → Option ℤ) (lists : Lists C) (at : Expr) (value : C) (from to : ℕ) (left right before_mark behind_mark : Bool) →
    from ≡ start gap lists at → to ≡ stop gap lists at → left ≡ has_left gap lists at from → right ≡ has_right gap lists at to →
    before_mark ≡ left_mark gap lists at from → behind_mark ≡ right_mark gap lists at to →
    replaced_by hull full lists at value from to left right before_mark behind_mark ≡ replaced hull full gap lists at value (start gap lists at) (stop gap lists at)
replaced_is hull full gap lists at value from to left right before_mark behind_mark is_from is_to is_left is_right is_before is_behind =
    (λ i. replaced_by hull full lists at value from to (is_left i) (is_right i) (is_before i) (is_behind i))
    ∙ (λ i. replaced hull full gap lists at value (is_from i) (is_to i))

pub added_form : {C : Type 0} (lists again : Lists C) → again.bounds ≡ lists.bounds → length again.contents ≡ length lists.contents → again.marks ≡ lists.marks → HasForm lists → HasForm again
added_form lists again bounds contents marks form =
    let s = form.some in
    let m = form.most in
    let b : length again.bounds ≡ length lists.contents + 1 = ap length bounds ∙ form.bounded in
    let k : length again.marks ≡ length lists.contents = ap length marks ∙ form.marked in
    record {
      some = omega arith;
      most = omega arith;
      bounded = omega arith;
      marked = omega arith;
      few = subst (AllByRecursion HasFew) (sym bounds) form.few;
      from_zero = subst (λ all. Has zero_expr (get_or all 0 [])) (sym bounds) form.from_zero;
    }
