-- The segments that an index may lie in have the item at the index.
use Rattle.std.proofs.Common.{◌≡◌, ℕ, ◌+◌, ◌<◌, ◌≤◌, ℤ, pos, ◌≤ℤ◌, ◌<ℤ◌, Bool, true, List, [], ◌∷◌, length, map, get_or, take, drop, Option, unwrap_or, arith, sym, subst, ap, ◌∙◌, length-take, length-drop}
use Rattle.std.proofs.lemmas.Int.{ints}
use Rattle.std.proofs.lemmas.List.{get_or-drop, get_or-take}
use Rattle.std.specs.List.{reduce}
use Rattle.domain_api.specs.declared.expr.Expr.{Expr}
use Rattle.array_segments.specs.Comparing.{ends_behind, starts_by}
use Rattle.array_segments.specs.Loading.{first_place, hull_between, last_place}
use Rattle.array_segments.specs.Meaning.{AreWorth, Covers, Obeys, Spans, item, worth, zipped}
use Rattle.array_segments.proofs.PlaceSteps.{first_place_above, first_place_within, last_place_below}
use Rattle.array_segments.proofs.Shown.{ends_behind_worth, first_place_is, last_place_is, starts_by_worth}
use Rattle.array_segments.proofs.Spans.{contents_of, cut, cut_all, cut_between, hull_covers, map_slice_by, reached, slice_by, slice_by_cases, upper_at, zipped_length}

-- There are segments, and a bound where each ends.
pub record AreSegments {C : Type 0} (uppers : List (List Expr)) (contents : List C) (marks : List Bool) : Type 0 where
  pub some : 1 ≤ length contents
  pub bounded : length uppers ≡ length contents
  pub marked : length marks ≡ length contents

pub hull_of_slice : {C : Type 0} (hull : C → C → C) (full : C) (uppers : List (List Expr)) (contents : List C) (marks : List Bool) (from to : ℕ) →
    unwrap_or (reduce hull (map (λ segment. segment.content) (slice_by from to (zipped uppers contents marks)))) full ≡ hull_between hull full contents from to
hull_of_slice hull full uppers contents marks from to =
    ap (λ part. unwrap_or (reduce hull part) full)
    (map_slice_by (λ segment. segment.content) from to (zipped uppers contents marks) ∙ ap (slice_by from to) (contents_of uppers contents marks) ∙ sym (slice_by_cases from to contents))

module _ {C : Type 0} (contains : C → ℤ → Type 0) (number : ℕ → ℤ) (items : List ℤ) (first : List Expr) (uppers : List (List Expr)) (contents : List C) (marks : List Bool)
    (are : AreSegments uppers contents marks) (begins : AreWorth number (pos 0) first) (all : Spans contains number items (pos 0) (zipped uppers contents marks) (pos (length items))) where
  -- The place of a bound.
  abbrev pub place_of : ℕ → ℤ
  place_of bound = (cut contains number items bound (zipped uppers contents marks) (pos 0) (pos (length items)) all).0

  pub bound_worth : (bound : ℕ) → bound ≤ length contents → AreWorth number (place_of bound) (get_or (first ∷ uppers) bound [])
  bound_worth bound within =
      subst (AreWorth number (place_of bound)) (sym (upper_at first uppers contents marks bound are.bounded within))
      (reached contains number items first (take bound (zipped uppers contents marks)) (pos 0) (place_of bound) begins
      (cut contains number items bound (zipped uppers contents marks) (pos 0) (pos (length items)) all).1)

  pub last_bound : place_of (length contents) ≡ pos (length items)
  last_bound =
      let e = zipped_length uppers contents marks in
      cut_all contains number items (length contents) (zipped uppers contents marks) (pos 0) (pos (length items)) all (omega arith)

  module _ (gap : ℕ → ℕ → Option ℤ) (obeys : Obeys gap number) (at : Expr) (index : ℕ) (is : worth number at ≡ pos index) (below : index < length items) where
    abbrev pub lower_bounds : List (List Expr)
    lower_bounds = take (length contents) (first ∷ uppers)

    abbrev pub from : ℕ
    from = last_place (starts_by gap at) 0 0 lower_bounds

    abbrev pub to : ℕ
    to = first_place (ends_behind gap at) (from + 1) (drop (from + 1) lower_bounds)

    lower_count : length lower_bounds ≡ length contents
    lower_count = let e = are.bounded in let t = length-take (length contents) (first ∷ uppers) in t ∙ omega arith

    lower_worth : (bound : ℕ) → bound < length contents → AreWorth number (place_of bound) (get_or lower_bounds bound [])
    lower_worth bound under = subst (AreWorth number (place_of bound)) (sym (get_or-take (length contents) (first ∷ uppers) bound [] under)) (bound_worth bound (omega arith))

    pub from_below : from < length contents
    from_below = let s = are.some in let e = lower_count in last_place_below (starts_by gap at) 0 0 (length contents) lower_bounds (omega arith) (omega arith)

    pub from_low : place_of from ≤ℤ pos index
    unfolding cut
    from_low =
        last_place_is (starts_by gap at) (λ bound. place_of bound ≤ℤ pos index) [] 0 0 lower_bounds (omega (arith, ints))
        (λ k under passes.
        let e = lower_count in
        let low : place_of k ≤ℤ worth number at = starts_by_worth gap number obeys at (get_or lower_bounds k []) (place_of k) passes (lower_worth k (omega arith)) in
        let same : k ≡ 0 + k = omega arith in
        subst (λ bound. place_of bound ≤ℤ pos index) same (omega (arith, ints)))

    pub to_above : from < to
    to_above = let h = first_place_above (ends_behind gap at) (from + 1) (drop (from + 1) lower_bounds) in omega arith

    rest_count : (from + 1) + length (drop (from + 1) lower_bounds) ≡ length contents
    rest_count = let d = length-drop (from + 1) lower_bounds in let e = lower_count in let b = from_below in omega arith

    pub to_within : to ≤ length contents
    to_within = let h = first_place_within (ends_behind gap at) (from + 1) (drop (from + 1) lower_bounds) in let e = rest_count in omega arith

    pub to_high : pos index <ℤ place_of to
    to_high =
        first_place_is (ends_behind gap at) (λ bound. pos index <ℤ place_of bound) [] (from + 1) (drop (from + 1) lower_bounds)
        (subst (λ bound. pos index <ℤ place_of bound) (sym rest_count) (let e = last_bound in omega (arith, ints)))
        (λ k under passes.
        let e = rest_count in
        let at_rest : get_or (drop (from + 1) lower_bounds) k [] ≡ get_or lower_bounds ((from + 1) + k) [] = get_or-drop (from + 1) lower_bounds k [] in
        let tested : ends_behind gap at (get_or lower_bounds ((from + 1) + k) []) ≡ true = ap (ends_behind gap at) (sym at_rest) ∙ passes in
        let high : worth number at <ℤ place_of ((from + 1) + k) =
        ends_behind_worth gap number obeys at (get_or lower_bounds ((from + 1) + k) []) (place_of ((from + 1) + k)) tested (lower_worth ((from + 1) + k) (omega arith)) in
        omega (arith, ints))

    module _ (hull : C → C → C) (full : C) (keeps_left : (a b : C) (n : ℤ) → contains a n → contains (hull a b) n) (keeps_right : (a b : C) (n : ℤ) → contains b n → contains (hull a b) n) where
      pub outer_covers : (from to : ℕ) → from ≤ to → Covers contains items (hull_between hull full contents from to) (place_of from) (place_of to)
      outer_covers low high order =
          subst (λ content. Covers contains items content (place_of low) (place_of high)) (hull_of_slice hull full uppers contents marks low high)
          (hull_covers contains number items hull keeps_left keeps_right full (slice_by low high (zipped uppers contents marks)) (place_of low) (place_of high)
          (cut_between contains number items low high (zipped uppers contents marks) (pos 0) (pos (length items)) all order))

      pub load_has : contains (hull_between hull full contents from to) (item items index)
      load_has = let o = to_above in outer_covers from to (omega arith) index from_low to_high
