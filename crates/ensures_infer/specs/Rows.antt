-- What may follow of a method's result, in the order in which it is listed.
use Rattle.std.specs.Prelude.{ℕ, ◌+◌, ℤ, pos, Bool, true, false, ◌&&◌, int_le, int_lt, List, [], ◌∷◌, ◌++◌, option_to_list, Option, Some, None, if◌then◌else◌}
use Rattle.std.specs.Int.{int_max, int_min}
use Rattle.cil_model.specs.Arithmetic.{LEAST, GREATEST}
use Rattle.cil_model.specs.declared.place.Place.{Place}
use Rattle.cil_model.specs.declared.place.Place.TheVariants as places
use Rattle.number_spans.specs.declared.span.Span.{Span}
use Rattle.ensures_infer.specs.declared.inferred.Inferred.{Inferred}
use Rattle.ensures_infer.specs.declared.inferred.Inferred.TheVariants as facts
use Rattle.ensures_infer.specs.declared.inferred.Measure.{Measure}
use Rattle.ensures_infer.specs.declared.inferred.Measure.TheVariants as measures

-- ---- the ends of ranges

abbrev pub least_of : ℤ → List Span → ℤ
least_of lo [] = lo
least_of lo (range ∷ ranges) = least_of (int_min lo range.lo) ranges

abbrev pub greatest_of : ℤ → List Span → ℤ
greatest_of hi [] = hi
greatest_of hi (range ∷ ranges) = greatest_of (int_max hi range.hi) ranges

-- The greatest number that no range goes below.
abbrev pub lowest : List Span → Option ℤ
lowest [] = None
lowest (range ∷ ranges) = Some (least_of range.lo ranges)

-- The least number that no range goes above.
abbrev pub highest : List Span → Option ℤ
highest [] = None
highest (range ∷ ranges) = Some (greatest_of range.hi ranges)

-- ---- rows

-- A least number, where the place has it and has lesser ones.
abbrev pub at_least : (least greatest lo : ℤ) → Option Inferred
at_least least greatest lo = if int_lt least lo && int_le lo greatest then Some (facts.AtLeast lo) else None

-- A greatest number, where the place has it and has greater ones.
abbrev pub at_most : (least greatest hi : ℤ) → Option Inferred
at_most least greatest hi = if int_le least hi && int_lt hi greatest then Some (facts.AtMost hi) else None

abbrev pub lowest_row : (least greatest : ℤ) → Option ℤ → List Inferred
lowest_row least greatest None = []
lowest_row least greatest (Some lo) = option_to_list (at_least least greatest lo)

abbrev pub highest_row : (least greatest : ℤ) → Option ℤ → List Inferred
highest_row least greatest None = []
highest_row least greatest (Some hi) = option_to_list (at_most least greatest hi)

-- The ends of a result whose place has the numbers from the least to the greatest.
abbrev pub ends_within : (least greatest : ℤ) → List Span → List Inferred
ends_within least greatest ranges =
    lowest_row least greatest (lowest ranges) ++ highest_row least greatest (highest ranges)

-- An argument of this type has a number to be compared with: an int32 is one, and an array has a length.
abbrev pub has_measure : Measure → Place → Bool
has_measure measures.Value places.Int = true
has_measure measures.Value places.Bool = false
has_measure measures.Value places.Bools = false
has_measure measures.Value places.Ints = false
has_measure measures.Value places.Void = false
has_measure measures.Length places.Int = false
has_measure measures.Length places.Bool = false
has_measure measures.Length places.Bools = true
has_measure measures.Length places.Ints = true
has_measure measures.Length places.Void = false

abbrev pub below : Measure → ℕ → Place → Option Inferred
below measure i place = if has_measure measure place then Some (facts.Below measure i) else None

-- The result is below the arguments from this number on that have such a number.
abbrev pub below_each : Measure → ℕ → List Place → List Inferred
below_each measure i [] = []
below_each measure i (place ∷ args) = option_to_list (below measure i place) ++ below_each measure (i + 1) args

abbrev pub int32_rows : List Place → List Span → List Inferred
int32_rows args ranges =
    ends_within LEAST GREATEST ranges ++ below_each measures.Value 0 args ++ below_each measures.Length 0 args

-- What may be said of a result of this type, of arguments of these types, where these are the numbers that returns may
-- give.
unfoldable pub rows : Place → List Place → List Span → List Inferred
rows places.Void args ranges = []
rows places.Bool args ranges = ends_within (pos 0) (pos 255) ranges
rows places.Int args ranges = int32_rows args ranges
rows places.Bools args ranges = facts.NotNull ∷ []
rows places.Ints args ranges = facts.NotNull ∷ []
