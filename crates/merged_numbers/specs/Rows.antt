-- Gaps that are written for each symbol, and what they tell beside the spans.
use Rattle.std.specs.Prelude.{◌≡◌, ◌≢◌, ℕ, ◌==◌, ℤ, pos, ◌+ℤ◌, Bool, true, false, not, ◌&&◌, ◌||◌, int_le, List, [], ◌∷◌, slice_index_or, EachIndex, Option, Some, None}
use Rattle.std.specs.List.{list_all}
use Rattle.domain_api.specs.Order.{gap_is_at_least, greater_gap}
use Rattle.number_spans.specs.declared.span.Span.{Span}
use Rattle.pentagon_domain.specs.declared.bound_row.BoundRow.{BoundRow}
use Rattle.pentagon_domain.specs.declared.ends.Ends.{Ends}
use Rattle.pentagon_domain.specs.Gaps.{cut, direct_gap}
use Rattle.merged_numbers.specs.Known.{Known, between, gap}

-- What a gap tells of two symbols whose spans lie so far apart.
abbrev pub beside : Option ℤ → Option ℤ → Option ℤ
beside known None = known
beside known (Some apart) = greater_gap known (cut apart)

-- Beside the spans a gap tells all that is known of two symbols; of a symbol and itself it is 0.
pub record Tells (side : Known) (s t : ℕ) (known : Option ℤ) : Type 0 where
  pub itself : s ≡ t → known ≡ Some (pos 0)
  pub others : s ≢ t → beside known (between side s t) ≡ gap side s t

-- What is written at the place of each symbol tells how far it lies above one.
abbrev pub IsRow : List (Option ℤ) → Known → ℕ → Type 0
IsRow row side s = EachIndex row (λ t. Tells side s t (slice_index_or row t None))

-- Beside the spans what is stored of two symbols tells all that is known of them.
pub record IsTight (side : Known) : Type 0 where
  pub stored : (s t : ℕ) → s ≢ t → beside (direct_gap side.bounds s t) (between side s t) ≡ gap side s t

-- ---- bounds behind each other

-- The next bound goes from another symbol than that to which the first goes, or back to s, or both together are no more
-- than what is written of where it goes.
abbrev pub adds_nothing : List (Option ℤ) → ℕ → BoundRow → BoundRow → Bool
adds_nothing row s first next =
    not (next.s == first.t) || (next.t == s || gap_is_at_least (slice_index_or row next.t None) (first.k +ℤ next.k))

-- A bound goes from another symbol than s, or this is so of each bound.
abbrev pub add_nothing : List BoundRow → List (Option ℤ) → ℕ → BoundRow → Bool
add_nothing rows row s first = not (first.s == s) || list_all (adds_nothing row s first) rows

-- ---- spans between ends

abbrev pub is_between : Ends → Span → Bool
is_between ends r = int_le ends.lo r.lo && int_le r.hi ends.hi

-- Each symbol that has ends has a span between them.
abbrev pub are_between : List Ends → List Span → Bool
are_between [] spans = true
are_between (ends ∷ more) [] = false
are_between (ends ∷ more) (r ∷ rs) = is_between ends r && are_between more rs
