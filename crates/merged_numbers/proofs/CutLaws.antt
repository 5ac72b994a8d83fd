-- The int32 of a term, and what becomes of two such spans, do not leave int32 outwards.
use Rattle.std.proofs.Common.{◌≡◌, true, false, ℤ, pos, ◌+ℤ◌, ◌-ℤ◌, ◌≤ℤ◌, Option, Some, None, int_lt, slice_get, arith}
use Rattle.std.specs.Int.{int_min, int_max}
use Rattle.std.proofs.lemmas.Bool.{cond_both}
use Rattle.std.proofs.lemmas.Int.{ints, clamps}
use Rattle.cil_model.specs.Arithmetic.{LEAST, GREATEST}
use Rattle.interval_domain.specs.Interval.{is_hole}
use Rattle.interval_domain.specs.Joins.{floor_of, ceiling_of, lower_end, upper_end}
use Rattle.number_spans.specs.Spans.{moved_hole}
use Rattle.number_spans.specs.declared.span.Span.{Span}
use Rattle.merged_numbers.specs.declared.rule.Rule.{Rule}
use Rattle.merged_numbers.specs.declared.rule.Rule.TheVariants.{Join, Widening}
use Rattle.merged_numbers.specs.declared.term.Term.{Term}
use Rattle.merged_numbers.specs.Merging.{merged_span, own_span}
use Rattle.symbolic_values.specs.declared.pairs.Key.{Key}
use Rattle.merged_numbers.specs.Known.{Known, term_of, met, int32_of, int32_or_full, int32s}
use Rattle.merged_numbers.specs.Spans.{hull, widened, span_by}
use Rattle.merged_numbers.specs.Meaning.{IsCut}

met_cut : (lo hi : ℤ) (hole : Option ℤ) → LEAST ≤ℤ lo → hi ≤ℤ GREATEST → IsCut (met lo hi hole)
unfolding met
met_cut lo hi hole low high = record {
  least = cond_both (is_hole hole lo) (lo +ℤ pos 1) lo (λ l. LEAST ≤ℤ l) (λ e. omega (arith, ints, low)) (λ e. low);
  greatest = cond_both (is_hole hole hi) (hi -ℤ pos 1) hi (λ h. h ≤ℤ GREATEST) (λ e. omega (arith, ints, high)) (λ e. high);
}

pub int32_of_cut : (r : Span) (k : ℤ) → IsCut (int32_of r k)
unfolding int32_of
int32_of_cut r k = met_cut (int_max (r.lo +ℤ k) LEAST) (int_min (r.hi +ℤ k) GREATEST) (moved_hole r.hole k) (omega (arith, ints, clamps)) (omega (arith, ints, clamps))

or_full_cut : (r : Option Span) (k : ℤ) → IsCut (int32_or_full r k)
or_full_cut None k = record { least = omega (arith, ints); greatest = omega (arith, ints) }
or_full_cut (Some r) k = int32_of_cut r k

pub int32s_cut : (side : Known) (x : Term) → IsCut (int32s side x)
unfolding int32s
int32s_cut side x = or_full_cut (slice_get side.spans x.sym) x.k

hull_cut : (a b : Span) → IsCut a → IsCut b → IsCut (hull a b)
unfolding hull
hull_cut a b first second = record {
  least = omega (arith, ints, clamps, first.least, second.least);
  greatest = omega (arith, ints, clamps, first.greatest, second.greatest);
}

floor_cut : (n : ℤ) → LEAST ≤ℤ n → LEAST ≤ℤ floor_of n
unfolding floor_of
floor_cut n h = grind (arith, ints)

ceiling_cut : (n : ℤ) → n ≤ℤ GREATEST → ceiling_of n ≤ℤ GREATEST
unfolding ceiling_of
ceiling_cut n h = grind (arith, ints)

lower_cut : (a b : ℤ) → LEAST ≤ℤ a → LEAST ≤ℤ b → LEAST ≤ℤ lower_end a b
unfolding lower_end
lower_cut a b first second = cond_both (int_lt b a) (floor_of b) a (λ e. LEAST ≤ℤ e) (λ e. floor_cut b second) (λ e. first)

upper_cut : (a b : ℤ) → a ≤ℤ GREATEST → b ≤ℤ GREATEST → upper_end a b ≤ℤ GREATEST
unfolding upper_end
upper_cut a b first second = cond_both (int_lt a b) (ceiling_of b) a (λ e. e ≤ℤ GREATEST) (λ e. ceiling_cut b second) (λ e. first)

widened_cut : (a b : Span) → IsCut a → IsCut b → IsCut (widened a b)
unfolding widened
widened_cut a b first second = record {
  least = lower_cut a.lo b.lo first.least second.least;
  greatest = upper_cut a.hi b.hi first.greatest second.greatest;
}

pub span_by_cut : (rule : Rule) (a b : Span) → IsCut a → IsCut b → IsCut (span_by rule a b)
span_by_cut Join a b first second = hull_cut a b first second
span_by_cut Widening a b first second = widened_cut a b first second

pub merged_span_cut : (rule : Rule) (a b : Known) (u : Key) (r : Span) → r ≡ merged_span rule a b u → IsCut r
merged_span_cut rule a b u r is =
    rw is (span_by_cut rule (int32s a (term_of true u)) (int32s b (term_of false u)) (int32s_cut a (term_of true u)) (int32s_cut b (term_of false u)))

pub own_span_cut : (a : Known) (u : Key) (r : Span) → r ≡ own_span a u → IsCut r
own_span_cut a u r is = rw is (int32s_cut a (term_of true u))
