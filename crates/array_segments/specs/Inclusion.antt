-- Tells whether segments are shown to say at least as much as others, whose symbols a map names.
use Rattle.std.specs.Prelude.{ℕ, ℤ, ◌+ℤ◌, Bool, true, false, ◌&&◌, ◌||◌, List, [], ◌∷◌, get_or, slice_range, Option, None, Some, is_some}
use Rattle.std.specs.List.{list_all, list_any}
use Rattle.domain_api.specs.declared.expr.Expr.{Expr}
use Rattle.array_segments.specs.Comparing.{at_most, below}
use Rattle.array_segments.specs.Loading.{first_place, last_place, starts}
use Rattle.array_segments.specs.Meaning.{Segment, segments_of}
use Rattle.array_segments.specs.SegmentLists.{Lists}

-- ---- expressions

-- The expression that a symbol is named by, and a constant more, of whatever size.
abbrev pub more_than : Option Expr → ℤ → Option Expr
more_than None k = None
more_than (Some name) k = Some (record { sym = name.sym; k = name.k +ℤ k })

-- An expression of the other side in this side's names.
abbrev pub mapped : List (Option Expr) → Expr → Option Expr
mapped names expr = more_than (get_or names expr.sym None) expr.k

-- An expression of this side.
abbrev pub as_own : Expr → Option Expr
as_own expr = Some expr

-- Tells whether both are there, and the first is shown to be at most the second, below it, and equal to it.
abbrev pub both_at_most : (ℕ → ℕ → Option ℤ) → Option Expr → Option Expr → Bool
both_at_most gap None b = false
both_at_most gap (Some a) None = false
both_at_most gap (Some a) (Some b) = at_most gap a b

abbrev pub both_below : (ℕ → ℕ → Option ℤ) → Option Expr → Option Expr → Bool
both_below gap None b = false
both_below gap (Some a) None = false
both_below gap (Some a) (Some b) = below gap a b

abbrev pub both_equal : (ℕ → ℕ → Option ℤ) → Option Expr → Option Expr → Bool
both_equal gap a b = both_at_most gap a b && both_at_most gap b a

-- ---- bounds

-- Tells whether the expression is there, and is shown to be equal to each of the others.
abbrev pub equals_rest : (ℕ → ℕ → Option ℤ) → List (Option Expr) → Expr → List Expr → Bool
equals_rest gap names expr others = is_some (mapped names expr) && list_all (λ other. both_equal gap (mapped names expr) (mapped names other)) others

-- Tells whether all expressions of a bound have names, and each is shown to be equal to each behind it.
abbrev pub all_equal : (ℕ → ℕ → Option ℤ) → List (Option Expr) → List Expr → Bool
all_equal gap names [] = true
all_equal gap names (expr ∷ exprs) = equals_rest gap names expr exprs && all_equal gap names exprs

-- Tells whether some expression of the first bound is shown to be at most one of the second, and below one, each bound
-- in its names.
abbrev pub leads : (ℕ → ℕ → Option ℤ) → (Expr → Option Expr) → (Expr → Option Expr) → List Expr → List Expr → Bool
leads gap name other first second = list_any (λ a. list_any (λ b. both_at_most gap (name a) (other b)) second) first

abbrev pub leads_strictly : (ℕ → ℕ → Option ℤ) → (Expr → Option Expr) → (Expr → Option Expr) → List Expr → List Expr → Bool
leads_strictly gap name other first second = list_any (λ a. list_any (λ b. both_below gap (name a) (other b)) second) first

-- The last bound that is shown to be at most one of the other side, or the first; and the first that is shown to be at
-- least one, or the last.
abbrev pub last_before : {C : Type 0} → (ℕ → ℕ → Option ℤ) → List (Option Expr) → Lists C → List Expr → ℕ
last_before gap names lists bound = last_place (λ x. leads gap as_own (mapped names) x bound) 0 0 lists.bounds

abbrev pub first_behind : {C : Type 0} → (ℕ → ℕ → Option ℤ) → List (Option Expr) → Lists C → List Expr → ℕ
first_behind gap names lists bound = first_place (λ x. leads gap (mapped names) as_own bound x) 0 (starts lists)

-- ---- segments

-- Tells whether the items between the bounds are shown to be in the content.
abbrev pub are_within : {C : Type 0} → (C → C → Bool) → (ℕ → ℕ → Option ℤ) → List (Option Expr) → Lists C → C → List Expr → List Expr → Bool
are_within within gap names lists content low high =
    list_all (λ mine. within mine content) (slice_range lists.contents (last_before gap names lists low) (first_behind gap names lists high))

-- Tells whether a segment of the other side, behind a bound, is shown to hold: the bounds are in order, strictly unless
-- it may be empty; and unless it is shown to be empty, its content has what these segments have there.
abbrev pub is_shown : {C : Type 0} → (C → C → Bool) → (ℕ → ℕ → Option ℤ) → List (Option Expr) → Lists C → List Expr → Segment C → Bool
is_shown within gap names lists low segment =
    (leads gap (mapped names) (mapped names) low segment.upper && (segment.may_be_empty || leads_strictly gap (mapped names) (mapped names) low segment.upper))
    && (leads gap (mapped names) (mapped names) segment.upper low || are_within within gap names lists segment.content low segment.upper)

abbrev pub all_shown : {C : Type 0} → (C → C → Bool) → (ℕ → ℕ → Option ℤ) → List (Option Expr) → Lists C → List Expr → List (Segment C) → Bool
all_shown within gap names lists lower [] = true
all_shown within gap names lists lower (segment ∷ segments) = is_shown within gap names lists lower segment && all_shown within gap names lists segment.upper segments

-- Tells whether these segments are shown to say at least as much as the other ones.
abbrev pub includes : {C : Type 0} → (C → C → Bool) → (ℕ → ℕ → Option ℤ) → List (Option Expr) → Lists C → Lists C → Bool
includes within gap names lists other =
    list_all (λ bound. all_equal gap names bound) other.bounds && all_shown within gap names lists (get_or other.bounds 0 []) (segments_of other)
