-- Loads, and the segments that an index may lie in.
use Rattle.std.specs.Prelude.{ℕ, suc, ◌+◌, ℤ, Bool, if◌then◌else◌, List, [], ◌∷◌, length, take, drop, slice_range, Option, unwrap_or}
use Rattle.std.specs.List.{reduce}
use Rattle.domain_api.specs.declared.expr.Expr.{Expr}
use Rattle.array_segments.specs.Comparing.{starts_by, ends_behind}
use Rattle.array_segments.specs.SegmentLists.{Lists}

-- The last place of a list at which the test passes, or the one found before, where the list starts at a place.
abbrev pub last_place : {X : Type 0} → (X → Bool) → ℕ → ℕ → List X → ℕ
last_place test found place [] = found
last_place test found place (x ∷ xs) = last_place test (if test x then place else found) (suc place) xs

-- The first place of a list at which the test passes, or the one behind all, where the list starts at a place.
abbrev pub first_place : {X : Type 0} → (X → Bool) → ℕ → List X → ℕ
first_place test place [] = place
first_place test place (x ∷ xs) = if test x then place else first_place test (suc place) xs

-- The lower bounds of the segments.
abbrev pub starts : {C : Type 0} → Lists C → List (List Expr)
starts lists = take (length lists.contents) lists.bounds

-- Where the segments begin that may have the item at the index: at the last start that is shown to be at most the
-- index, or at the first.
abbrev pub start : {C : Type 0} → (ℕ → ℕ → Option ℤ) → Lists C → Expr → ℕ
start gap lists at = last_place (starts_by gap at) 0 0 (starts lists)

-- Where they end, if they begin at a place: at the first bound above it that is shown to be above the index, or at the
-- last.
abbrev pub stop_from : {C : Type 0} → (ℕ → ℕ → Option ℤ) → Lists C → Expr → ℕ → ℕ
stop_from gap lists at from = first_place (ends_behind gap at) (from + 1) (drop (from + 1) (starts lists))

abbrev pub stop : {C : Type 0} → (ℕ → ℕ → Option ℤ) → Lists C → Expr → ℕ
stop gap lists at = stop_from gap lists at (start gap lists at)

-- The hull of the contents from one place to another, from the left.
abbrev pub hull_between : {C : Type 0} → (C → C → C) → C → List C → ℕ → ℕ → C
hull_between hull full contents from to = unwrap_or (reduce hull (slice_range contents from to)) full

-- A set that has the item at the index.
abbrev pub loaded : {C : Type 0} → (C → C → C) → C → (ℕ → ℕ → Option ℤ) → Lists C → Expr → C
loaded hull full gap lists at = hull_between hull full lists.contents (start gap lists at) (stop gap lists at)
