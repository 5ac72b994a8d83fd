-- What is known of comparisons of numbers, where they are pushed (ECMA-335 III.3.21 to III.3.26).
use Rattle.std.specs.Prelude.{ℤ, pos, Bool, true, false, ◌&&◌, ◌||◌, Option, Some, None, [], ◌∷◌, List, if◌then◌else◌}
use Rattle.domain_api.specs.declared.expr.Expr.{Expr}
use Rattle.cil_model.specs.Arithmetic.{truth}
use Rattle.cil_model.specs.declared.instruction.BinOp.{BinOp}
use Rattle.cil_model.specs.declared.instruction.BinOp.TheVariants as operators
use Rattle.interval_domain.specs.Interval.{between}
use Rattle.symbolic_values.specs.declared.def.Def.{Def}
use Rattle.symbolic_values.specs.declared.def.Def.TheVariants.{Eq, Lt, LtUn}
use Rattle.number_spans.specs.Constants.{constant, of_constants}
use Rattle.number_spans.specs.Spans.{is_not_negative, one_excluded}
use Rattle.number_facts.specs.Facts.{Facts}
use Rattle.number_facts.specs.Ends.{range_of}
use Rattle.number_facts.specs.Gaps.{at_most, less, equal}
use Rattle.number_facts.specs.Fresh.{Made, noted}
use Rattle.number_facts.specs.declared.relation.Relation.{Relation}
use Rattle.number_facts.specs.declared.relation.Relation.TheVariants.{Is}

-- The first is less than the second, or it is known not to be.
unfoldable pub less_known : Facts → Expr → Expr → Option Bool
less_known facts a b = if less facts a b then Some true else if at_most facts b (pos 0) a then Some false else None

-- The two are known to differ: by their order, or since one has one number alone, which the other does not have.
unfoldable pub apart : Facts → Expr → Expr → Bool
apart facts a b =
    (less facts a b || less facts b a)
    || (one_excluded (range_of facts a) (range_of facts b) || one_excluded (range_of facts b) (range_of facts a))

-- The two are equal, or they are known not to be.
unfoldable pub equal_known : Facts → Expr → Expr → Option Bool
equal_known facts a b = if equal facts a b then Some true else if apart facts a b then Some false else None

-- The first is less where both are taken as unsigned: numbers that are not negative compare as they are.
unfoldable pub less_unsigned_known : Facts → Expr → Expr → Option Bool
less_unsigned_known facts a b =
    if is_not_negative (range_of facts a) && is_not_negative (range_of facts b) then less_known facts a b else None

-- Whether a comparison is known to be true or false. Operators that are none are not asked for.
unfoldable pub known : BinOp → Facts → Expr → Expr → Option Bool
known operators.Ceq facts a b = equal_known facts a b
known operators.Cgt facts a b = less_known facts b a
known operators.CgtUn facts a b = less_unsigned_known facts b a
known operators.Clt facts a b = less_known facts a b
known operators.CltUn facts a b = less_unsigned_known facts a b
known _ facts a b = None

-- What the truth of a comparison is. An operator that is no comparison has none.
abbrev pub truth_of : BinOp → Expr → Expr → Option Def
truth_of operators.Ceq a b = Some (Eq a b)
truth_of operators.Cgt a b = Some (Lt b a)
truth_of operators.CgtUn a b = Some (LtUn b a)
truth_of operators.Clt a b = Some (Lt a b)
truth_of operators.CltUn a b = Some (LtUn a b)
truth_of _ a b = None

abbrev pub defined_by : Option Def → List Relation
defined_by None = []
defined_by (Some def) = Is def ∷ []

-- The number that is pushed: 1 for true and 0 for false. Where it is not known, it is one of the two, and defined.
abbrev pub pushed : BinOp → Facts → Expr → Expr → Option Bool → Made
pushed op facts a b (Some holds) = record { expr = constant (truth holds); facts = facts }
pushed op facts a b None = noted facts (between (pos 0) (pos 1)) (defined_by (truth_of op a b))

-- Of two constants every comparison is known.
abbrev pub compared_or : Option ℤ → Facts → Made → Made
compared_or None facts made = made
compared_or (Some n) facts made = record { expr = constant n; facts = facts }

unfoldable pub compared : BinOp → Facts → Expr → Expr → Made
compared op facts a b = compared_or (of_constants op a b) facts (pushed op facts a b (known op facts a b))
