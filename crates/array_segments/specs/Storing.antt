-- Stores to an array, and the limit on its segments.
use Rattle.std.specs.Prelude.{ℕ, zero, suc, ◌+◌, ◌-◌, ℤ, pos, ◌+ℤ◌, Bool, false, not, ◌&&◌, if◌then◌else◌, List, [], ◌∷◌, ◌++◌, length, get_or, Option}
use Rattle.std.specs.List.{splice}
use Rattle.domain_api.specs.declared.expr.Expr.{Expr}
use Rattle.array_segments.specs.Comparing.{ends_behind, meets, starts_before}
use Rattle.array_segments.specs.Loading.{hull_between, start, stop}
use Rattle.array_segments.specs.SegmentLists.{Lists}

-- ---- a store to an array that may be another one

-- The items from one place to another changed.
abbrev pub changed_between : {X : Type 0} → (X → X) → ℕ → ℕ → List X → List X
changed_between change zero zero xs = xs
changed_between change zero (suc to) [] = []
changed_between change zero (suc to) (x ∷ xs) = change x ∷ changed_between change zero to xs
changed_between change (suc from) zero xs = xs
changed_between change (suc from) (suc to) [] = []
changed_between change (suc from) (suc to) (x ∷ xs) = x ∷ changed_between change from to xs

-- Each content from one place to another has the value too.
abbrev pub added : {C : Type 0} → (C → C → C) → Lists C → C → ℕ → ℕ → Lists C
added hull lists value from to = record lists { contents = changed_between (λ content. hull content value) from to lists.contents }

abbrev pub weakly_stored : {C : Type 0} → (C → C → C) → (ℕ → ℕ → Option ℤ) → Lists C → Expr → C → Lists C
weakly_stored hull gap lists at value = added hull lists value (start gap lists at) (stop gap lists at)

-- ---- a store to the array itself

-- The expression of the next index.
abbrev pub next_of : Expr → Expr
next_of at = record { sym = at.sym; k = at.k +ℤ pos 1 }

-- An item with one before it and one behind it, or without.
abbrev pub around : {X : Type 0} → Bool → Bool → X → X → X → List X
around left right before middle behind = (if left then before ∷ [] else []) ++ (middle ∷ (if right then behind ∷ [] else []))

abbrev pub new_bounds : Bool → Bool → Expr → List (List Expr)
new_bounds left right at = (if left then (at ∷ []) ∷ [] else []) ++ (if right then (next_of at ∷ []) ∷ [] else [])

-- There is a part before the index, unless it is shown to be the bound where the segments begin that are replaced; and
-- one behind it, unless the next index is shown to be the bound where they end.
abbrev pub has_left : {C : Type 0} → (ℕ → ℕ → Option ℤ) → Lists C → Expr → ℕ → Bool
has_left gap lists at from = not (meets gap at (get_or lists.bounds from []))

abbrev pub has_right : {C : Type 0} → (ℕ → ℕ → Option ℤ) → Lists C → Expr → ℕ → Bool
has_right gap lists at to = not (meets gap (next_of at) (get_or lists.bounds to []))

-- The outer parts may be empty, unless it is shown that they are not.
abbrev pub left_mark : {C : Type 0} → (ℕ → ℕ → Option ℤ) → Lists C → Expr → ℕ → Bool
left_mark gap lists at from = not (starts_before gap at (get_or lists.bounds from []))

abbrev pub right_mark : {C : Type 0} → (ℕ → ℕ → Option ℤ) → Lists C → Expr → ℕ → Bool
right_mark gap lists at to = not (ends_behind gap (next_of at) (get_or lists.bounds to []))

-- The segments from one place to another replaced: by the one of the index, which has the value alone, and by what lay
-- before and behind it, each with the hull of all of them.
abbrev pub replaced_by : {C : Type 0} → (C → C → C) → C → Lists C → Expr → C → ℕ → ℕ → Bool → Bool → Bool → Bool → Lists C
replaced_by hull full lists at value from to left right before_mark behind_mark =
    let outer = hull_between hull full lists.contents from to in
    record {
      bounds = splice lists.bounds (from + 1) to (new_bounds left right at);
      contents = splice lists.contents from to (around left right outer value outer);
      marks = splice lists.marks from to (around left right before_mark false behind_mark);
    }

abbrev pub replaced : {C : Type 0} → (C → C → C) → C → (ℕ → ℕ → Option ℤ) → Lists C → Expr → C → ℕ → ℕ → Lists C
replaced hull full gap lists at value from to =
    replaced_by hull full lists at value from to (has_left gap lists at from) (has_right gap lists at to) (left_mark gap lists at from) (right_mark gap lists at to)

-- ---- the limit

-- The first two items made one.
abbrev pub first_two : {X : Type 0} → (X → X → X) → List X → List X
first_two make [] = []
first_two make (x ∷ []) = x ∷ []
first_two make (x ∷ y ∷ xs) = make x y ∷ xs

-- The first two segments made one. It may be empty where both may.
abbrev pub merged_first : {C : Type 0} → (C → C → C) → Lists C → Lists C
merged_first hull lists = record {
  bounds = first_two (λ first second. first) lists.bounds;
  contents = first_two hull lists.contents;
  marks = first_two (λ first second. first && second) lists.marks;
}

abbrev pub merged_times : {C : Type 0} → (C → C → C) → ℕ → Lists C → Lists C
merged_times hull zero lists = lists
merged_times hull (suc times) lists = merged_times hull times (merged_first hull lists)

-- The first two segments are made one for as long as there are more than 12.
abbrev pub limited : {C : Type 0} → (C → C → C) → Lists C → Lists C
limited hull lists = merged_times hull (length lists.contents - 12) lists

abbrev pub strongly_stored : {C : Type 0} → (C → C → C) → C → (ℕ → ℕ → Option ℤ) → Lists C → Expr → C → Lists C
strongly_stored hull full gap lists at value = limited hull (replaced hull full gap lists at value (start gap lists at) (stop gap lists at))
