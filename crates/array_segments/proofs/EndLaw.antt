-- What becomes of the last bound, where the array's length stands.
use Rattle.std.proofs.Common.{◌≡◌, ℕ, zero, suc, ◌+◌, ◌-◌, ◌<◌, ◌≤◌, Bool, false, List, [], ◌∷◌, ◌++◌, length, get_or, take, drop, Option, None, Some, ℤ, arith, refl, sym, subst, ap, ◌∙◌}
use Rattle.std.proofs.lemmas.List.{get_or-append-add, get_or-drop, length-take}
use Rattle.std.specs.List.{filter_map, splice}
use Rattle.domain_api.specs.declared.expr.Expr.{Expr}
use Rattle.symbolic_values.specs.Pairing.{Pairing}
use Rattle.array_segments.specs.declared.renaming.Part.{Part}
use Rattle.array_segments.specs.CommonBounds.{common_bound, first_bound, later_places, origin_place}
use Rattle.array_segments.specs.Counted.{IsCounted}
use Rattle.array_segments.specs.Growing.{begun, with_more}
use Rattle.array_segments.specs.Loading.{hull_between, start, stop}
use Rattle.array_segments.specs.Meaning.{Segment, segments_of, zipped}
use Rattle.array_segments.specs.Renaming.{joined, part_of, placed, renamed_from, renamed_lists}
use Rattle.array_segments.specs.SegmentLists.{Has, HasForm, Lists, last_bound}
use Rattle.array_segments.specs.Storing.{around, first_two, has_left, has_right, limited, merged_first, merged_times, new_bounds, replaced, strongly_stored, weakly_stored}
use Rattle.array_segments.specs.Unifying.{common_segments, unified}
use Rattle.array_segments.proofs.LimitLaw.{first_two_length, merged_counted}
use Rattle.array_segments.proofs.NameSteps.{last_bound_is}
use Rattle.array_segments.proofs.Spans.{last_upper}
use Rattle.array_segments.proofs.StoreSteps.{around_length, changed_length, replaced_counted, splice_length, start_stop, stop_within}
use Rattle.array_segments.proofs.UnifyChain.{chained}
use Rattle.array_segments.proofs.UnifyLaw.{by_rows, end_some, end_there, rows_more, unified_counted}

-- ---- the limit

last_merged : {C : Type 0} (hull : C → C → C) (bounds : List (List Expr)) (contents : List C) → length bounds ≡ length contents + 1 → 2 ≤ length contents →
    get_or (first_two (λ first second. first) bounds) (length (first_two hull contents)) [] ≡ get_or bounds (length contents) []
last_merged hull bounds [] bounded two = absurd (omega arith)
last_merged hull bounds (one ∷ []) bounded two = absurd (omega arith)
last_merged hull [] (one ∷ other ∷ contents) bounded two = absurd (omega arith)
last_merged hull (first ∷ []) (one ∷ other ∷ contents) bounded two = absurd (omega arith)
last_merged hull (first ∷ second ∷ bounds) (one ∷ other ∷ contents) bounded two = refl

last_times : {C : Type 0} (hull : C → C → C) (times : ℕ) (lists : Lists C) → IsCounted lists → times < length lists.contents → last_bound (merged_times hull times lists) ≡ last_bound lists
last_times hull zero lists counted under = refl
last_times hull (suc times) lists counted under =
    let one = first_two_length hull lists.contents (omega arith) in
    last_times hull times (merged_first hull lists) (merged_counted hull lists counted (omega arith)) (omega arith)
    ∙ last_merged hull lists.bounds lists.contents counted.bounded (omega arith)

last_limited : {C : Type 0} (hull : C → C → C) (lists : Lists C) → IsCounted lists → last_bound (limited hull lists) ≡ last_bound lists
last_limited hull lists counted = let s = counted.some in last_times hull (length lists.contents - 12) lists counted (omega arith)

-- ---- stores

splice_later : (xs : List (List Expr)) (from to : ℕ) (ys : List (List Expr)) (i k : ℕ) → from ≤ length xs → k ≡ from + (length ys + i) → get_or (splice xs from to ys) k [] ≡ get_or xs (to + i) []
splice_later xs from to ys i k within is =
    let prefix = length-take from xs in
    let e : k ≡ length (take from xs) + (length ys + i) = omega arith in
    ap (λ n. get_or (splice xs from to ys) n []) e
    ∙ get_or-append-add (take from xs) (ys ++ drop to xs) (length ys + i) []
    ∙ get_or-append-add ys (drop to xs) i []
    ∙ get_or-drop to xs i []

-- A store to the array itself leaves the last bound.
pub last_stored : {C : Type 0} (hull : C → C → C) (full : C) (gap : ℕ → ℕ → Option ℤ) (lists : Lists C) (at : Expr) (value : C) → HasForm lists →
    last_bound (strongly_stored hull full gap lists at value) ≡ last_bound lists
last_stored {C = C} hull full gap lists at value form =
    let from : ℕ = start gap lists at in
    let to : ℕ = stop gap lists at in
    let order : start gap lists at < stop gap lists at = start_stop hull full gap lists at value form in
    let within : stop gap lists at ≤ length lists.contents = stop_within hull full gap lists at value form in
    let left : Bool = has_left gap lists at (start gap lists at) in
    let right : Bool = has_right gap lists at (stop gap lists at) in
    let outer : C = hull_between hull full lists.contents (start gap lists at) (stop gap lists at) in
    let contents = splice_length lists.contents (start gap lists at) (stop gap lists at) (around left right outer value outer) (omega arith) (omega arith) in
    let more = around_length left right outer value outer at in
    let bounded = form.bounded in
    let e : stop gap lists at + (length lists.contents - stop gap lists at) ≡ length lists.contents = omega arith in
    last_limited hull (replaced hull full gap lists at value (start gap lists at) (stop gap lists at)) (replaced_counted hull full gap lists at value form)
    ∙ splice_later lists.bounds (start gap lists at + 1) (stop gap lists at) (new_bounds left right at) (length lists.contents - stop gap lists at)
    (length (splice lists.contents (start gap lists at) (stop gap lists at) (around left right outer value outer))) (omega arith) (omega arith)
    ∙ ap (λ n. get_or lists.bounds n []) e

-- So does one to an array that may be another one.
pub last_added : {C : Type 0} (hull : C → C → C) (gap : ℕ → ℕ → Option ℤ) (lists : Lists C) (at : Expr) (value : C) → last_bound (weakly_stored hull gap lists at value) ≡ last_bound lists
last_added hull gap lists at value = ap (λ n. get_or lists.bounds n []) (changed_length (λ content. hull content value) (start gap lists at) (stop gap lists at) lists.contents)

-- ---- segments that are made

last_of_more : {C : Type 0} (first : List Expr) (segments : List (Segment C)) → last_bound (with_more (begun first) segments) ≡ last_upper first segments
last_of_more first [] = refl
last_of_more first (segment ∷ segments) = last_of_more segment.upper segments

-- Both sides as one end at the length.
pub unified_end : {C : Type 0} (hull make : C → C → C) (full : C) (pairs : Pairing) (end : Expr) (a b : Lists C) → HasForm a → HasForm b → Has end (last_bound (unified hull make full pairs end a b))
unified_end hull make full pairs end a b form_a form_b =
    let some = form_a.some in
    subst (Has end)
    (sym (last_limited hull (with_more (begun (first_bound pairs a b)) (common_segments hull make full pairs end a b origin_place (later_places a b))) (unified_counted hull make full pairs end a b form_a form_b)
    ∙ last_of_more (first_bound pairs a b) (common_segments hull make full pairs end a b origin_place (later_places a b))))
    (by_rows hull make full pairs end a b form_a form_b (λ segments. Has end (last_upper (first_bound pairs a b) segments))
    (chained hull make full pairs end a b (length a.contents) (length b.contents) (end_some pairs end a b)
    (λ last segments. (bound : List Expr) → (last.first ≡ length a.contents → last.second ≡ length b.contents → Has end bound) → Has end (last_upper bound segments))
    (λ bound has. has refl refl)
    (λ last first second upper segments x y in_x in_y there same rest. λ bound has.
    rest upper (λ at_first at_second. subst (Has end) (sym same) (subst (λ k. Has end (common_bound pairs end a b k second)) (sym at_first)
    (subst (λ k. Has end (common_bound pairs end a b (length a.contents) k)) (sym at_second) (end_there pairs end a b)))))
    (length a.contents - 1) (rows_more hull make full pairs end a b form_a form_b) (first_bound pairs a b) (λ at_first at_second. absurd (omega arith))))

-- ---- other names

module _ {C : Type 0} (hull : C → C → C) (name : Expr → Option Expr) where
  last_placed : (part : Part C) (bound first : List Expr) (grown fresh : List (Segment C)) (P : List Expr → Type 0) → (length bound ≡ 0 → P (last_upper first grown)) → P (last_upper bound fresh) →
      P (last_upper first (placed part bound grown fresh))
  last_placed part [] first grown fresh P without behind = without refl
  last_placed part (expr ∷ exprs) first grown fresh P without behind = behind

  last_named : (segments : List (Segment C)) (segment : Segment C) (held : Option (Part C)) (first : List Expr) → 0 < length (filter_map name (last_upper segment.upper segments)) →
      last_upper first (renamed_from hull name held (segment ∷ segments)) ≡ filter_map name (last_upper segment.upper segments)
  last_named [] segment held first some =
      last_placed (joined hull held (part_of segment)) (filter_map name segment.upper) first [] [] (λ bound. bound ≡ filter_map name segment.upper) (λ none. absurd (omega arith)) refl
  last_named (next ∷ segments) segment held first some =
      last_placed (joined hull held (part_of segment)) (filter_map name segment.upper) first
      (renamed_from hull name (Some (joined hull held (part_of segment))) (next ∷ segments)) (renamed_from hull name None (next ∷ segments))
      (λ bound. bound ≡ filter_map name (last_upper next.upper segments))
      (λ none. last_named segments next (Some (joined hull held (part_of segment))) first some)
      (last_named segments next None (filter_map name segment.upper) some)

  named_lists : (bounds : List (List Expr)) (contents : List C) (marks : List Bool) → HasForm (record { bounds = bounds; contents = contents; marks = marks }) →
      0 < length (filter_map name (last_upper (get_or bounds 0 []) (zipped (drop 1 bounds) contents marks))) →
      last_upper (filter_map name (get_or bounds 0 [])) (renamed_from hull name None (zipped (drop 1 bounds) contents marks)) ≡ filter_map name (last_upper (get_or bounds 0 []) (zipped (drop 1 bounds) contents marks))
  named_lists [] contents marks form some = let b = form.bounded in absurd (omega arith)
  named_lists (first ∷ uppers) [] marks form some = let c = form.some in absurd (omega arith)
  named_lists (first ∷ uppers) (content ∷ contents) marks form some =
      last_named (zipped (drop 1 uppers) contents (drop 1 marks)) (record { content = content; may_be_empty = get_or marks 0 false; upper = get_or uppers 0 [] }) None (filter_map name first) some

  -- In other names the last bound is what it was, in those names.
  pub last_renamed : (lists : Lists C) → HasForm lists → 0 < length (filter_map name (last_bound lists)) → last_bound (renamed_lists hull name lists) ≡ filter_map name (last_bound lists)
  last_renamed lists form some =
      last_of_more (filter_map name (get_or lists.bounds 0 [])) (renamed_from hull name None (segments_of lists))
      ∙ named_lists lists.bounds lists.contents lists.marks form (subst (λ bound. 0 < length (filter_map name bound)) (last_bound_is lists form) some)
      ∙ ap (filter_map name) (sym (last_bound_is lists form))
