-- What is known where a comparison is assumed to hold, or not to hold. None: nothing is reached.
use Rattle.std.specs.Prelude.{ℕ, zero, suc, ◌==◌, ℤ, pos, ◌+ℤ◌, ◌-ℤ◌, Bool, true, false, ◌&&◌, set, Option, Some, None, if◌then◌else◌}
use Rattle.std.specs.Option.{option_and_then}
use Rattle.std.specs.Ordering.{int_eq}
use Rattle.std.specs.Int.{int_min, int_max}
use Rattle.domain_api.specs.declared.expr.Expr.{Expr}
use Rattle.cil_model.specs.declared.instruction.CmpOp.{CmpOp}
use Rattle.cil_model.specs.declared.instruction.CmpOp.TheVariants as comparisons
use Rattle.interval_domain.specs.Interval.{Interval, without}
use Rattle.number_spans.specs.Constants.{constant}
use Rattle.number_spans.specs.Spans.{is_one, is_not_negative}
use Rattle.number_spans.specs.Stored.{range_without}
use Rattle.number_facts.specs.Facts.{Facts, range_at}
use Rattle.number_facts.specs.Ends.{range_of}
use Rattle.number_facts.specs.Gaps.{at_most, equal}
use Rattle.number_facts.specs.Fresh.{bounded}

-- The facts with another range for a symbol. That of symbol 0 is never changed.
unfoldable pub changed : Facts → ℕ → Option Interval → Option Facts
changed facts zero range = Some facts
changed facts (suc s) None = None
changed facts (suc s) (Some range) = Some (record facts { ranges = set facts.ranges s range })

-- The expression is no more than n, or no less.
unfoldable pub lowered : Facts → Expr → ℤ → Option Facts
lowered facts e n =
    changed facts e.sym (range_without (range_at facts e.sym).lo (int_min (range_at facts e.sym).hi (n -ℤ e.k)) (range_at facts e.sym).hole)

unfoldable pub raised : Facts → Expr → ℤ → Option Facts
raised facts e n =
    changed facts e.sym (range_without (int_max (range_at facts e.sym).lo (n -ℤ e.k)) (range_at facts e.sym).hi (range_at facts e.sym).hole)

-- The first expression is cut to what is no more than the second less a number, and then the second to what is no less
-- than the first and that number.
unfoldable pub cut_both : Facts → Expr → ℤ → Expr → Option Facts
cut_both facts a more b =
    option_and_then (λ f. raised f b ((range_of f a).lo +ℤ more)) (lowered facts a ((range_of facts b).hi -ℤ more))

-- The first expression and a number more are at most the second: the bound is stored, and both are cut.
unfoldable pub assumed_at_most : Facts → Expr → ℤ → Expr → Option Facts
assumed_at_most facts a more b =
    if at_most facts b (pos 1 -ℤ more) a then None
    else cut_both (bounded facts a.sym b.sym ((a.k +ℤ more) -ℤ b.k)) a more b

abbrev pub assumed_less : Facts → Expr → Expr → Option Facts
assumed_less facts a b = assumed_at_most facts a (pos 1) b

unfoldable pub assumed_equal : Facts → Expr → Expr → Option Facts
assumed_equal facts a b = option_and_then (λ f. assumed_at_most f b (pos 0) a) (assumed_at_most facts a (pos 0) b)

-- The first expression is not the number of the second, where that has one alone.
unfoldable pub lost : Facts → Expr → Expr → Option Facts
lost facts a b =
    if is_one (range_of facts b) then changed facts a.sym (without (range_at facts a.sym) ((range_of facts b).lo -ℤ a.k)) else Some facts

-- Two expressions that differ are in the one order where the other is ruled out.
unfoldable pub ordered : Facts → Expr → Expr → Option Facts
ordered facts a b = if at_most facts a (pos 0) b then assumed_less facts a b else if at_most facts b (pos 0) a then assumed_less facts b a else Some facts

unfoldable pub assumed_apart : Facts → Expr → Expr → Option Facts
assumed_apart facts a b =
    if equal facts a b then None
    else option_and_then (λ f. ordered f a b) (option_and_then (λ f. lost f b a) (lost facts a b))

-- The first is less than the second, where both are taken as unsigned: the second is not negative, or the first is 0.
unfoldable pub assumed_less_unsigned : Facts → Expr → Expr → Option Facts
assumed_less_unsigned facts a b =
    if is_not_negative (range_of facts b) then option_and_then (λ f. assumed_less f a b) (assumed_at_most facts (constant (pos 0)) (pos 0) a)
    else if (a.sym == 0) && int_eq a.k (pos 0) then assumed_apart facts b (constant (pos 0))
    else Some facts

-- The second is at most the first, where both are taken as unsigned: the first is not negative.
unfoldable pub assumed_at_most_unsigned : Facts → Expr → Expr → Option Facts
assumed_at_most_unsigned facts b a =
    if is_not_negative (range_of facts a) then option_and_then (λ f. assumed_at_most f b (pos 0) a) (assumed_at_most facts (constant (pos 0)) (pos 0) b)
    else Some facts

-- A comparison holds.
unfoldable pub holding : CmpOp → Facts → Expr → Expr → Option Facts
holding comparisons.Eq facts a b = assumed_equal facts a b
holding comparisons.Ge facts a b = assumed_at_most facts b (pos 0) a
holding comparisons.Gt facts a b = assumed_less facts b a
holding comparisons.Le facts a b = assumed_at_most facts a (pos 0) b
holding comparisons.Lt facts a b = assumed_less facts a b
holding comparisons.NeUn facts a b = assumed_apart facts a b
holding comparisons.GeUn facts a b = assumed_at_most_unsigned facts b a
holding comparisons.GtUn facts a b = assumed_less_unsigned facts b a
holding comparisons.LeUn facts a b = assumed_at_most_unsigned facts a b
holding comparisons.LtUn facts a b = assumed_less_unsigned facts a b

-- These comparisons are assumed in one step, whose bound is stored before anything else changes.
abbrev pub is_one_step : CmpOp → Bool
is_one_step comparisons.Ge = true
is_one_step comparisons.Gt = true
is_one_step comparisons.Le = true
is_one_step comparisons.Lt = true
is_one_step _ = false

-- It does not hold: then its contrary does.
abbrev pub contrary : CmpOp → CmpOp
contrary comparisons.Eq = comparisons.NeUn
contrary comparisons.Ge = comparisons.Lt
contrary comparisons.Gt = comparisons.Le
contrary comparisons.Le = comparisons.Gt
contrary comparisons.Lt = comparisons.Ge
contrary comparisons.NeUn = comparisons.Eq
contrary comparisons.GeUn = comparisons.LtUn
contrary comparisons.GtUn = comparisons.LeUn
contrary comparisons.LeUn = comparisons.GtUn
contrary comparisons.LtUn = comparisons.GeUn

unfoldable pub assumed : CmpOp → Facts → Expr → Expr → Bool → Option Facts
assumed op facts a b holds = holding (if holds then op else contrary op) facts a b
