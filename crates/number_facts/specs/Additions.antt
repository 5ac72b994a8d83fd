-- Sums and differences (ECMA-335 III.3.1 and III.3.64), and what else is known of them.
use Rattle.std.specs.Prelude.{ℕ, ◌==◌, ℤ, ◌+ℤ◌, ◌-ℤ◌, Bool, ◌&&◌, ◌||◌, int_le, List, [], ◌∷◌, ◌++◌, Option, Some, None, if◌then◌else◌}
use Rattle.std.specs.Option.{option_map}
use Rattle.std.specs.Int.{int_min, int_max}
use Rattle.domain_api.specs.declared.expr.Expr.{Expr}
use Rattle.cc_base.specs.Wrap.{wrap32}
use Rattle.cil_model.specs.Arithmetic.{LEAST, GREATEST}
use Rattle.symbolic_values.specs.declared.def.Def.{Def}
use Rattle.symbolic_values.specs.declared.def.Def.TheVariants.{Sub}
use Rattle.number_spans.specs.Constants.{constant}
use Rattle.number_spans.specs.Spans.{between, wrapped}
use Rattle.number_spans.specs.Sums.{sums, differences, takes, plus, negated}
use Rattle.number_spans.specs.declared.span.Span.{Span}
use Rattle.number_facts.specs.Facts.{Facts}
use Rattle.number_facts.specs.Ends.{range_of}
use Rattle.number_facts.specs.Gaps.{gap}
use Rattle.number_facts.specs.declared.differences.Difference.{Difference}
use Rattle.number_facts.specs.declared.outcome.Outcome.{Outcome}
use Rattle.number_facts.specs.declared.outcome.Outcome.TheVariants.{Is, Within}
use Rattle.number_facts.specs.declared.relation.Relation.{Relation}
use Rattle.number_facts.specs.declared.relation.Relation.TheVariants as known

-- ---- what bounds a sum from above

-- Where d is x - y, y is of the symbol of a, and b is known to lie so far below d, no sum of a and b is above x and the
-- rest of the constants.
abbrev pub above : Expr → Expr → Expr → Expr → Option ℤ → Option Expr
above a b x y far = option_map (λ g. record { sym = x.sym; k = x.k +ℤ (((a.k +ℤ b.k) -ℤ y.k) -ℤ g) }) far

abbrev pub above_by : Facts → Expr → Expr → ℕ → Def → Option Expr
above_by facts a b d (Sub x y) = if y.sym == a.sym then above a b x y (gap facts b.sym d) else None
above_by facts a b d _ = None

abbrev pub with_some : Option Expr → List Expr → List Expr
with_some None es = es
with_some (Some e) es = e ∷ es

abbrev pub all_above : Facts → Expr → Expr → List (ℕ × Def) → List Expr
all_above facts a b [] = []
all_above facts a b (d ∷ ds) = with_some (above_by facts a b d.0 d.1) (all_above facts a b ds)

-- The same of differences of which each subtracts the symbol of a.
abbrev pub above_difference : Facts → Expr → Expr → Difference → Option Expr
above_difference facts a b d = above a b d.minuend d.subtrahend (gap facts b.sym d.symbol)

abbrev pub above_each : Facts → Expr → Expr → List Difference → List Expr
above_each facts a b [] = []
above_each facts a b (d ∷ ds) = with_some (above_difference facts a b d) (above_each facts a b ds)

-- By the differences of either order.
unfoldable pub uppers : Facts → Expr → Expr → List Expr
uppers facts a b = all_above facts a b facts.definitions ++ all_above facts b a facts.definitions

abbrev pub cut_by : Facts → List Expr → ℤ → ℤ
cut_by facts [] hi = hi
cut_by facts (u ∷ us) hi = cut_by facts us (int_min hi (range_of facts u).hi)

abbrev pub at_most : List Expr → List Relation
at_most [] = []
at_most (u ∷ us) = known.AtMost u.sym u.k ∷ at_most us

-- ---- sums

-- Where a sum lies before it wraps.
unfoldable pub sum_span : Facts → Expr → Expr → Span
sum_span facts a b =
    between ((range_of facts a).lo +ℤ (range_of facts b).lo) (cut_by facts (uppers facts a b) ((range_of facts a).hi +ℤ (range_of facts b).hi))

-- Its ends are int32.
abbrev pub is_inside : Span → Bool
is_inside r = int_le LEAST r.lo && int_le r.hi GREATEST

-- Modulo 2^32, where it is not.
abbrev pub settled_span : Span → Span
settled_span r = if is_inside r then r else wrapped r

-- With a constant that does not wrap, the sum is an expression of the same symbol.
unfoldable pub sum : Facts → Expr → Expr → Outcome
sum facts a b =
    if takes (range_of facts a) b then Is (plus a b)
    else if takes (range_of facts b) a then Is (plus b a)
    else Within (settled_span (sum_span facts a b))

-- An expression is at least the other one and the least of this one, and at most that and its greatest.
abbrev pub beside : Expr → Span → List Relation
beside e r = known.AtLeast e.sym (e.k +ℤ r.lo) ∷ known.AtMost e.sym (e.k +ℤ r.hi) ∷ []

unfoldable pub sum_relations : Facts → Expr → Expr → List Relation
sum_relations facts a b =
    if is_inside (sum_span facts a b) then beside a (range_of facts b) ++ (beside b (range_of facts a) ++ at_most (uppers facts a b)) else []

-- ---- differences

-- What a gap tells, or another number.
abbrev pub greater_of : Option ℤ → ℤ → ℤ → ℤ
greater_of None more n = n
greater_of (Some g) more n = int_max n (g +ℤ more)

abbrev pub lesser_of : Option ℤ → ℤ → ℤ → ℤ
lesser_of None more n = n
lesser_of (Some g) more n = int_min n (more -ℤ g)

-- Where a difference lies before it wraps, of two symbols.
unfoldable pub difference_span : Facts → Expr → Expr → Span
difference_span facts a b =
    between (greater_of (gap facts b.sym a.sym) (a.k -ℤ b.k) ((range_of facts a).lo -ℤ (range_of facts b).hi))
    (lesser_of (gap facts a.sym b.sym) (a.k -ℤ b.k) ((range_of facts a).hi -ℤ (range_of facts b).lo))

-- That of a constant is a sum, and that of two expressions of one symbol is known.
unfoldable pub difference : Facts → Expr → Expr → Outcome
difference facts a b =
    if b.sym == 0 then sum facts a (negated b)
    else if a.sym == b.sym then Is (constant (wrap32 (a.k -ℤ b.k)))
    else Within (settled_span (difference_span facts a b))

-- A difference is defined by both, at most the first less the least of the second, and at least that less its greatest.
unfoldable pub difference_relations : Facts → Expr → Expr → List Relation
difference_relations facts a b =
    if b.sym == 0 then sum_relations facts a (negated b)
    else if is_inside (difference_span facts a b) then
    known.Is (Sub a b) ∷ known.AtLeast a.sym (a.k -ℤ (range_of facts b).hi) ∷ known.AtMost a.sym (a.k -ℤ (range_of facts b).lo) ∷ []
    else []

-- ---- what is judged for overflow

-- A sum with a constant.
unfoldable pub exact_sum : Facts → Expr → Expr → Span
exact_sum facts a b = if a.sym == 0 || b.sym == 0 then sums (range_of facts a) (range_of facts b) else sum_span facts a b

unfoldable pub exact_difference : Facts → Expr → Expr → Span
exact_difference facts a b =
    if b.sym == 0 then differences (range_of facts a) (range_of facts b)
    else if a.sym == b.sym then between (a.k -ℤ b.k) (a.k -ℤ b.k)
    else difference_span facts a b
