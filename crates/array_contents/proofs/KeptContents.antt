-- What is so of the contents of segments, and of what two such contents become, is so behind stores, of two sides that
-- become one, and in other names.
use Rattle.std.proofs.Common.{ℕ, zero, suc, ◌-◌, nat_lt, Bool, true, false, List, [], ◌∷◌, ◌++◌, length, map, take, drop, slice_range, fold, Option, None, Some, unwrap_or}
use Rattle.std.specs.List.{AllByRecursion, filter_map, reduce}
use Rattle.std.proofs.lemmas.Bool.{cond_both}
use Rattle.domain_api.specs.declared.expr.Expr.{Expr}
use Rattle.symbolic_values.specs.Pairing.{Pairing}
use Rattle.array_segments.specs.CommonBounds.{Place, common_bound, first_bound, later_places, origin_place}
use Rattle.array_segments.specs.Growing.{begun, with_more}
use Rattle.array_segments.specs.Loading.{hull_between, start, stop}
use Rattle.array_segments.specs.Meaning.{Segment, segments_of, zipped}
use Rattle.array_segments.specs.Renaming.{joined, part_of, placed, renamed_from, renamed_lists}
use Rattle.array_segments.specs.SegmentLists.{Lists}
use Rattle.array_segments.specs.Storing.{around, changed_between, first_two, has_left, has_right, limited, merged_first, merged_times, replaced, strongly_stored, weakly_stored}
use Rattle.array_segments.specs.Unifying.{common_segments, of_both, placed_at, unified}
use Rattle.array_contents.specs.Storing.{Gaps}
use Rattle.array_contents.proofs.NamedBounds.{each_append, each_drop, each_take}

-- It is so where there is one.
abbrev IsSo : {X : Type 0} → (X → Type 0) → Option X → Type 0
IsSo P None = Unit {0}
IsSo P (Some x) = P x

-- It is so of the contents of these segments.
abbrev AreSo : {C : Type 0} → (C → Type 0) → List (Segment C) → Type 0
AreSo P segments = AllByRecursion P (map (λ segment. segment.content) segments)

-- Of each of a type that has no name here.
abbrev Every : {X : Type 0} → (X → Type 0) → Type 0
Every {X = X} P = (x : X) → P x

module _ {C : Type 0} (P : C → Type 0) (hull : C → C → C) (keeps : (a b : C) → P a → P b → P (hull a b)) where
  -- ---- hulls, and the limit

  fold_kept : (x : C) (xs : List C) → P x → AllByRecursion P xs → P (fold hull x xs)
  fold_kept x [] first all = first
  fold_kept x (y ∷ xs) first all = fold_kept (hull x y) xs (keeps x y first all.0) all.1

  reduced_kept : (xs : List C) → AllByRecursion P xs → IsSo P (reduce hull xs)
  reduced_kept [] all = tt
  reduced_kept (x ∷ xs) all = fold_kept x xs all.0 all.1

  range_kept : (xs : List C) (from to : ℕ) → AllByRecursion P xs → IsSo P (reduce hull (slice_range xs from to))
  range_kept xs from to all =
      reduced_kept (slice_range xs from to) (each_take P (to - from) (drop from xs) (each_drop P from xs all))

  first_kept : (xs : List C) → AllByRecursion P xs → AllByRecursion P (first_two hull xs)
  first_kept [] all = tt
  first_kept (x ∷ []) all = all
  first_kept (x ∷ y ∷ xs) all = (keeps x y all.0 all.1.0, all.1.1)

  times_kept : (times : ℕ) (lists : Lists C) → AllByRecursion P lists.contents
      → AllByRecursion P (merged_times hull times lists).contents
  times_kept zero lists all = all
  times_kept (suc times) lists all = times_kept times (merged_first hull lists) (first_kept lists.contents all)

  pub limited_kept : (lists : Lists C) → AllByRecursion P lists.contents
      → AllByRecursion P (limited hull lists).contents
  limited_kept lists all = times_kept (length lists.contents - 12) lists all

  -- ---- stores

  changed_kept : (value : C) → P value → (from to : ℕ) (xs : List C) → AllByRecursion P xs
      → AllByRecursion P (changed_between (λ content. hull content value) from to xs)
  changed_kept value is zero zero xs all = all
  changed_kept value is zero (suc to) [] all = tt
  changed_kept value is zero (suc to) (x ∷ xs) all = (keeps x value all.0 is, changed_kept value is zero to xs all.1)
  changed_kept value is (suc from) zero xs all = all
  changed_kept value is (suc from) (suc to) [] all = tt
  changed_kept value is (suc from) (suc to) (x ∷ xs) all = (all.0, changed_kept value is from to xs all.1)

  pub weakly_kept : (gap : Gaps) (lists : Lists C) (at : Expr) (value : C) → P value → AllByRecursion P lists.contents
      → AllByRecursion P (weakly_stored hull gap lists at value).contents
  weakly_kept gap lists at value is all =
      changed_kept value is (start gap lists at) (stop gap lists at) lists.contents all

  unwrapped_kept : (found : Option C) (full : C) → P full → IsSo P found → P (unwrap_or found full)
  unwrapped_kept None full full_is is = full_is
  unwrapped_kept (Some x) full full_is is = is

  around_kept : (left right : Bool) (outer value : C) → P outer → P value
      → AllByRecursion P (around left right outer value outer)
  around_kept true true outer value outer_is is = (outer_is, (is, (outer_is, tt)))
  around_kept true false outer value outer_is is = (outer_is, (is, tt))
  around_kept false true outer value outer_is is = (is, (outer_is, tt))
  around_kept false false outer value outer_is is = (is, tt)

  module _ (full : C) (full_is : P full) where
    replaced_kept : (gap : Gaps) (lists : Lists C) (at : Expr) (value : C) (from to : ℕ) → P value
        → AllByRecursion P lists.contents → AllByRecursion P (replaced hull full gap lists at value from to).contents
    replaced_kept gap lists at value from to is all =
        let outer : C = hull_between hull full lists.contents from to in
        let new : List C = around (has_left gap lists at from) (has_right gap lists at to) outer value outer in
        each_append P (take from lists.contents) (new ++ drop to lists.contents)
        (each_take P from lists.contents all)
        (each_append P new (drop to lists.contents)
        (around_kept (has_left gap lists at from) (has_right gap lists at to) outer value
        (unwrapped_kept (reduce hull (slice_range lists.contents from to)) full full_is
        (range_kept lists.contents from to all)) is)
        (each_drop P to lists.contents all))

    pub strongly_kept : (gap : Gaps) (lists : Lists C) (at : Expr) (value : C) → P value
        → AllByRecursion P lists.contents
        → AllByRecursion P (strongly_stored hull full gap lists at value).contents
    strongly_kept gap lists at value is all =
        let from : ℕ = start gap lists at in
        let to : ℕ = stop gap lists at in
        limited_kept (replaced hull full gap lists at value from to)
        (replaced_kept gap lists at value from to is all)

    -- ---- two sides as one

    module _ (make : C → C → C) (make_keeps : (a b : C) → P a → P b → P (make a b)) where
      both_kept : (x y : Option C) → IsSo P x → IsSo P y → P (of_both make full x y)
      both_kept (Some x) (Some y) first second = make_keeps x y first second
      both_kept (Some x) None first second = first
      both_kept None (Some y) first second = second
      both_kept None None first second = full_is

      module _ (pairs : Pairing) (end : Expr) (a b : Lists C) (first : AllByRecursion P a.contents)
          (second : AllByRecursion P b.contents) where
        placed_kept : (last place : Place) (bound : List Expr) (without behind : List (Segment C)) → AreSo P without
            → AreSo P behind
            → AreSo P (placed_at hull make full pairs end a b last place bound without behind)
        placed_kept last place [] without behind fewer more = fewer
        placed_kept last place (expr ∷ exprs) without behind fewer more = (
          both_kept (reduce hull (slice_range a.contents last.first place.first))
              (reduce hull (slice_range b.contents last.second place.second))
              (range_kept a.contents last.first place.first first)
              (range_kept b.contents last.second place.second second),
          more,
        )

        common_kept : (last : Place) (places : List Place)
            → AreSo P (common_segments hull make full pairs end a b last places)
        common_kept last [] = tt
        common_kept last (place ∷ places) =
            cond_both (nat_lt place.second last.second) _ _ (AreSo P)
            (λ e. common_kept last places)
            (λ e. placed_kept last place (common_bound pairs end a b place.first place.second)
            (common_segments hull make full pairs end a b last places)
            (common_segments hull make full pairs end a b place places)
            (common_kept last places) (common_kept place places))

        pub unified_kept : AllByRecursion P (unified hull make full pairs end a b).contents
        unified_kept =
            limited_kept (with_more (begun (first_bound pairs a b))
            (common_segments hull make full pairs end a b origin_place (later_places a b)))
            (common_kept origin_place (later_places a b))

  -- ---- other names

  zipped_kept : (uppers : List (List Expr)) (contents : List C) (marks : List Bool) → AllByRecursion P contents
      → AreSo P (zipped uppers contents marks)
  zipped_kept uppers [] marks all = tt
  zipped_kept uppers (content ∷ contents) marks all =
      (all.0, zipped_kept (drop 1 uppers) contents (drop 1 marks) all.1)

  part_kept : (bound : List Expr) (grown fresh : List (Segment C)) (segment : Segment C) → AreSo P grown
      → AreSo P fresh
      → Every
      (λ held. P (joined hull held (part_of segment)).content
      → AreSo P (placed (joined hull held (part_of segment)) bound grown fresh))
  part_kept [] grown fresh segment more behind held is = more
  part_kept (expr ∷ exprs) grown fresh segment more behind held is = (is, behind)

  -- Where a segment behind the part that was left is joined with it, it is so of both as one.
  from_kept : (name : Expr → Option Expr) (segments : List (Segment C)) → AreSo P segments
      → Every
      (λ held. ((segment : Segment C) → P segment.content → P (joined hull held (part_of segment)).content)
      → AreSo P (renamed_from hull name held segments))
  from_kept name [] all held before = tt
  from_kept name (segment ∷ segments) all held before =
      part_kept (filter_map name segment.upper)
      (renamed_from hull name (Some (joined hull held (part_of segment))) segments)
      (renamed_from hull name None segments) segment
      (from_kept name segments all.1 (Some (joined hull held (part_of segment)))
      (λ other is. keeps (joined hull held (part_of segment)).content other.content (before segment all.0) is))
      (from_kept name segments all.1 None (λ other is. is)) held (before segment all.0)

  pub renamed_kept : (name : Expr → Option Expr) (lists : Lists C) → AllByRecursion P lists.contents
      → AllByRecursion P (renamed_lists hull name lists).contents
  renamed_kept name lists all =
      from_kept name (segments_of lists) (zipped_kept (drop 1 lists.bounds) lists.contents lists.marks all) None
      (λ segment is. is)
