-- Ranges of int32 stay so where two become one, and so do those of segments behind stores, of two states, and in other
-- names.
use Rattle.std.proofs.Common.{◌≡◌, ℕ, zero, suc, ℤ, pos, ◌≤ℤ◌, ◌<ℤ◌, int_lt, true, List, [], ◌∷◌, get_or, Option, None, Some, arith}
use Rattle.std.specs.Int.{int_min, int_max}
use Rattle.std.specs.List.{AllByRecursion}
use Rattle.std.proofs.lemmas.Bool.{cond_both}
use Rattle.std.proofs.lemmas.Int.{ints}
use Rattle.cil_model.specs.Arithmetic.{LEAST, GREATEST}
use Rattle.domain_api.specs.declared.expr.Expr.{Expr}
use Rattle.interval_domain.specs.Interval.{Interval, between, holed, inner_hole, is_inside, one}
use Rattle.interval_domain.specs.Joins.{ceiling_of, floor_of, full, hull, lower_end, upper_end, widened}
use Rattle.number_spans.specs.Stored.{IsInner, IsNarrow}
use Rattle.symbolic_values.specs.Pairing.{Pairing}
use Rattle.symbolic_values.specs.Names.{renamed}
use Rattle.array_segments.specs.Renaming.{renamed_lists}
use Rattle.array_segments.specs.Storing.{strongly_stored, weakly_stored}
use Rattle.array_segments.specs.Unifying.{unified}
use Rattle.array_contents.specs.Contents.{AreFormed, Contents, Segments, of_null, segments_at}
use Rattle.array_contents.specs.Merging.{Making}
use Rattle.array_contents.specs.Storing.{Gaps}
use Rattle.array_contents.proofs.KeptContents.{renamed_kept, strongly_kept, unified_kept, weakly_kept}

-- ---- ranges

pub between_narrow : (lo hi : ℤ) → LEAST ≤ℤ lo → lo ≤ℤ hi → hi ≤ℤ GREATEST → IsNarrow (between lo hi)
between_narrow lo hi least ordered greatest =
    record { least = least; ordered = ordered; greatest = greatest; inner = tt }

pub full_narrow : IsNarrow full
full_narrow = between_narrow LEAST GREATEST (omega (arith, ints)) (omega (arith, ints)) (omega (arith, ints))

pub zero_narrow : IsNarrow (one (pos 0))
zero_narrow = between_narrow (pos 0) (pos 0) (omega (arith, ints)) (omega (arith, ints)) (omega (arith, ints))

pub bit_narrow : IsNarrow (between (pos 0) (pos 1))
bit_narrow = between_narrow (pos 0) (pos 1) (omega (arith, ints)) (omega (arith, ints)) (omega (arith, ints))

pub byte_narrow : IsNarrow (between (pos 0) (pos 255))
byte_narrow = between_narrow (pos 0) (pos 255) (omega (arith, ints)) (omega (arith, ints)) (omega (arith, ints))

inside : (lo hi n : ℤ) → is_inside lo hi n ≡ true → (lo <ℤ n) × (n <ℤ hi)
inside lo hi n is = (grind (arith, ints, is), grind (arith, ints, is))

inner_counts : (lo hi : ℤ) (hole : Option ℤ) → IsInner lo hi (inner_hole lo hi hole)
unfolding inner_hole
inner_counts lo hi None = tt
inner_counts lo hi (Some n) =
    cond_both (is_inside lo hi n) (Some n) None (IsInner lo hi) (λ e. inside lo hi n e) (λ e. tt)

-- A hole between the ends counts, and another one is none.
pub holed_narrow : (lo hi : ℤ) (hole : Option ℤ) → LEAST ≤ℤ lo → lo ≤ℤ hi → hi ≤ℤ GREATEST
    → IsNarrow (holed lo hi hole)
unfolding holed
holed_narrow lo hi hole least ordered greatest =
    record { least = least; ordered = ordered; greatest = greatest; inner = inner_counts lo hi hole }

min_within : (a b : ℤ) → LEAST ≤ℤ a → LEAST ≤ℤ b → (LEAST ≤ℤ int_min a b) × (int_min a b ≤ℤ a)
min_within a b first second = (grind (arith, ints, first, second), grind (arith, ints))

max_within : (a b : ℤ) → a ≤ℤ GREATEST → b ≤ℤ GREATEST → (int_max a b ≤ℤ GREATEST) × (a ≤ℤ int_max a b)
max_within a b first second = (grind (arith, ints, first, second), grind (arith, ints))

floor_within : (n : ℤ) → LEAST ≤ℤ n → (LEAST ≤ℤ floor_of n) × (floor_of n ≤ℤ n)
unfolding floor_of
floor_within n least = (grind (arith, ints, least), grind (arith, ints, least))

ceiling_within : (n : ℤ) → n ≤ℤ GREATEST → (ceiling_of n ≤ℤ GREATEST) × (n ≤ℤ ceiling_of n)
unfolding ceiling_of
ceiling_within n greatest = (grind (arith, ints, greatest), grind (arith, ints, greatest))

lower_within : (a b : ℤ) → LEAST ≤ℤ a → LEAST ≤ℤ b → (LEAST ≤ℤ lower_end a b) × (lower_end a b ≤ℤ a)
unfolding lower_end
lower_within a b first second =
    let floor = floor_within b second in
    cond_both (int_lt b a) (floor_of b) a (λ n. (LEAST ≤ℤ n) × (n ≤ℤ a))
    (λ e. (floor.0, grind (arith, ints, e, floor.1))) (λ e. (first, omega (arith, ints)))

upper_within : (a b : ℤ) → a ≤ℤ GREATEST → b ≤ℤ GREATEST → (upper_end a b ≤ℤ GREATEST) × (a ≤ℤ upper_end a b)
unfolding upper_end
upper_within a b first second =
    let ceiling = ceiling_within b second in
    cond_both (int_lt a b) (ceiling_of b) a (λ n. (n ≤ℤ GREATEST) × (a ≤ℤ n))
    (λ e. (ceiling.0, grind (arith, ints, e, ceiling.1))) (λ e. (first, omega (arith, ints)))

over : (lo low high hi : ℤ) → lo ≤ℤ low → low ≤ℤ high → high ≤ℤ hi → lo ≤ℤ hi
over lo low high hi below ordered above = omega (arith, ints, below, ordered, above)

pub hull_narrow : (a b : Interval) → IsNarrow a → IsNarrow b → IsNarrow (hull a b)
unfolding hull
hull_narrow a b first second =
    let low = min_within a.lo b.lo first.least second.least in
    let high = max_within a.hi b.hi first.greatest second.greatest in
    holed_narrow (int_min a.lo b.lo) (int_max a.hi b.hi) _ low.0
    (over (int_min a.lo b.lo) a.lo a.hi (int_max a.hi b.hi) low.1 first.ordered high.1) high.0

pub widened_narrow : (a b : Interval) → IsNarrow a → IsNarrow b → IsNarrow (widened a b)
unfolding widened
widened_narrow a b first second =
    let low = lower_within a.lo b.lo first.least second.least in
    let high = upper_within a.hi b.hi first.greatest second.greatest in
    holed_narrow (lower_end a.lo b.lo) (upper_end a.hi b.hi) _ low.0
    (over (lower_end a.lo b.lo) a.lo a.hi (upper_end a.hi b.hi) low.1 first.ordered high.1) high.0

-- ---- segments

-- The ranges of the segments are of int32.
abbrev pub HasNarrow : Segments → Type 0
HasNarrow segments = AllByRecursion IsNarrow segments.contents

-- Of two ranges of int32 comes one.
abbrev pub KeepsNarrow : Making → Type 0
KeepsNarrow make = (a b : Interval) → IsNarrow a → IsNarrow b → IsNarrow (make a b)

pub null_narrow : HasNarrow of_null
null_narrow = (zero_narrow, tt)

pub strong_narrow : (gap : Gaps) (segments : Segments) (at : Expr) (value : Interval) → IsNarrow value
    → HasNarrow segments → HasNarrow (strongly_stored hull full gap segments at value)
strong_narrow gap segments at value is narrow =
    strongly_kept IsNarrow hull hull_narrow full full_narrow gap segments at value is narrow

pub weak_narrow : (gap : Gaps) (segments : Segments) (at : Expr) (value : Interval) → IsNarrow value
    → HasNarrow segments → HasNarrow (weakly_stored hull gap segments at value)
weak_narrow gap segments at value is narrow = weakly_kept IsNarrow hull hull_narrow gap segments at value is narrow

pub unified_narrow : (make : Making) (pairs : Pairing) (end : Expr) (a b : Segments) → KeepsNarrow make → HasNarrow a
    → HasNarrow b → HasNarrow (unified hull make full pairs end a b)
unified_narrow make pairs end a b keeps first second =
    unified_kept IsNarrow hull hull_narrow full full_narrow make keeps pairs end a b first second

pub renamed_narrow : (names : List (Option Expr)) (segments : Segments) → HasNarrow segments
    → HasNarrow (renamed_lists hull (renamed names) segments)
renamed_narrow names segments narrow = renamed_kept IsNarrow hull hull_narrow (renamed names) segments narrow

-- ---- contents

-- The ranges of each reference are of int32.
abbrev pub AreNarrow : Contents → Type 0
AreNarrow = AllByRecursion HasNarrow

pub formed_narrow : (symbols : ℕ) (lengths : List Expr) (contents : Contents) → AreFormed symbols lengths contents
    → AreNarrow contents
formed_narrow symbols [] [] formed = tt
formed_narrow symbols [] (one ∷ contents) formed = absurd formed
formed_narrow symbols (e ∷ lengths) [] formed = absurd formed
formed_narrow symbols (e ∷ lengths) (one ∷ contents) formed =
    (formed.0.narrow, formed_narrow symbols lengths contents formed.1)

narrow_in : (contents : Contents) (i : ℕ) → AreNarrow contents → HasNarrow (get_or contents i of_null)
narrow_in [] i all = null_narrow
narrow_in (segments ∷ contents) zero all = all.0
narrow_in (segments ∷ contents) (suc i) all = narrow_in contents i all.1

pub narrow_at : (contents : Contents) (r : ℕ) → AreNarrow contents → HasNarrow (segments_at contents r)
narrow_at contents zero all = null_narrow
narrow_at contents (suc i) all = narrow_in contents i all
