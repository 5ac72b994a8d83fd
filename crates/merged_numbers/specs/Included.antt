-- When a state says no more of numbers than another one does.
use Rattle.std.specs.Prelude.{◌≡◌, ℕ, zero, suc, ℤ, pos, ◌+ℤ◌, ◌-ℤ◌, Bool, true, false, ◌&&◌, int_le, List, [], ◌∷◌, slice_get, Option, Some, None, option_map, FitsSigned}
use Rattle.std.specs.Int.{w32}
use Rattle.std.specs.List.{AllByRecursion, list_all}
use Rattle.domain_api.specs.Order.{gap_is_at_least}
use Rattle.frame_names.specs.declared.slots.Bound.{Bound}
use Rattle.interval_domain.specs.Interval.{Interval}
use Rattle.number_spans.specs.Spans.{excludes, moved_hole}
use Rattle.number_spans.specs.declared.span.Span.{Span}
use Rattle.pentagon_domain.specs.declared.bound_row.BoundRow.{BoundRow}
use Rattle.symbolic_values.specs.Worth as exprs
use Rattle.merged_numbers.specs.declared.term.Term.{Term}
use Rattle.merged_numbers.specs.Known.{Known, gap, int32s, term, worth}
use Rattle.merged_numbers.specs.Meaning.{AllowsKnown, IsSo}

-- The value that a symbol was first bound by.
abbrev pub value_of : Bound → Term
value_of x = term x.value.sym x.value.k

-- What the symbol itself is worth.
abbrev pub bound_term : Bound → Term
bound_term x = term x.value.sym (x.value.k -ℤ x.offset)

-- ---- ranges

abbrev pub lacks : Span → Option ℤ → Bool
lacks r None = true
lacks r (Some n) = excludes r n

-- The numbers of a span, less an offset, lie within a range, and its hole is none of them. Ends count as numbers.
unfoldable pub lies_within : Span → ℤ → Interval → Bool
lies_within r offset range =
    int_le (range.lo +ℤ offset) r.lo && int_le r.hi (range.hi +ℤ offset) && lacks r (moved_hole range.hole offset)

-- What a symbol is bound to lies within its range.
abbrev pub is_within : Known → Bound → Interval → Bool
is_within a x range = lies_within (int32s a (value_of x)) x.offset range

-- What each symbol is bound to lies within its range, and each symbol is bound.
abbrev pub all_within : Known → List Bound → List Interval → Bool
all_within a [] [] = true
all_within a (x ∷ xs) (range ∷ ranges) = is_within a x range && all_within a xs ranges
all_within a _ _ = false

-- ---- bounds

-- What each symbol stands for. Symbol 0 is the number 0.
abbrev pub term_at : List Bound → ℕ → Option Term
term_at binding zero = Some (term 0 (pos 0))
term_at binding (suc s) = option_map bound_term (slice_get binding s)

-- The second term is known to lie so far above the first.
abbrev pub lies_above : Known → Option Term → Option Term → ℤ → Bool
lies_above a (Some x) (Some y) k = gap_is_at_least (gap a x.sym y.sym) ((x.k +ℤ k) -ℤ y.k)
lies_above a _ _ k = false

abbrev pub follows : Known → List Bound → BoundRow → Bool
follows a binding row = lies_above a (term_at binding row.s) (term_at binding row.t) row.k

-- ---- both

-- All that ranges and bounds say of symbols is known of what these are bound to.
abbrev pub included : Known → List Bound → List Interval → List BoundRow → Bool
included a binding ranges bounds = all_within a binding ranges && list_all (follows a binding) bounds

-- The numbers of symbols behind what they are bound to. What is not bound is 0.
abbrev pub worth_or_zero : (ℕ → ℤ) → Option Term → ℤ
worth_or_zero number None = pos 0
worth_or_zero number (Some x) = worth number x

abbrev pub behind_binding : List Bound → (ℕ → ℤ) → ℕ → ℤ
behind_binding binding number s = worth_or_zero number (term_at binding s)

-- What each symbol was first bound by is worth an int32.
abbrev pub AreValues : (ℕ → ℤ) → List Bound → Type 0
AreValues number binding = AllByRecursion (λ x. FitsSigned w32 (exprs.worth number x.value)) binding

-- What is included is so of what symbols are bound to, where all that the state knows is so.
abbrev pub Includes : Known → List Bound → List Interval → List BoundRow → Bool → Type 0
Includes a binding ranges bounds answer =
    (number : ℕ → ℤ) → answer ≡ true → AllowsKnown a number → AreValues number binding
    → IsSo (record { ranges = ranges; bounds = bounds }) (behind_binding binding number)
