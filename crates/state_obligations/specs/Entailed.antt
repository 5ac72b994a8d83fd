-- When what is known entails a condition.
use Rattle.std.specs.Prelude.{pos, negsuc, Bool, true, ◌&&◌, ◌||◌, int_le, Some, None}
use Rattle.cil_model.specs.Arithmetic.{LEAST, GREATEST}
use Rattle.domain_api.specs.declared.expr.Expr.{Expr}
use Rattle.number_facts.specs.Arith.{exact}
use Rattle.number_facts.specs.Ends.{range_of}
use Rattle.number_facts.specs.Facts.{Facts}
use Rattle.number_facts.specs.Gaps.{at_most, less}
use Rattle.number_spans.specs.Constants.{constant}
use Rattle.number_spans.specs.Spans.{excludes}
use Rattle.number_spans.specs.declared.span.Span.{Span}
use Rattle.state_facts.specs.Comparing.{is_array}
use Rattle.state_facts.specs.StateFacts.{StateFacts, State, length_at}
use Rattle.state_obligations.specs.declared.condition.Condition.{Condition}
use Rattle.state_obligations.specs.declared.condition.Condition.TheVariants as conditions

abbrev pub not_negative : Facts → Expr → Bool
not_negative facts e = at_most facts (constant (pos 0)) (pos 0) e

-- Every number from the one end to the other is an int32.
unfoldable pub are_int32 : Span → Bool
are_int32 r = int_le LEAST r.lo && int_le r.hi GREATEST

-- A condition is entailed, where something is reached.
unfoldable pub entailed_by : Condition → StateFacts → Bool
entailed_by (conditions.NullUse r) known = is_array known r
entailed_by (conditions.Lower i) known = not_negative known.facts i
entailed_by (conditions.Upper r i) known = less known.facts i (length_at known r)
entailed_by (conditions.ArraySize n) known = not_negative known.facts n
entailed_by (conditions.Shift n) known =
    not_negative known.facts n && at_most known.facts n (pos 0) (constant (pos 31))
entailed_by (conditions.DivZero b) known = excludes (range_of known.facts b) (pos 0)
entailed_by (conditions.DivOverflow a b) known =
    excludes (range_of known.facts a) LEAST || excludes (range_of known.facts b) (negsuc 0)
entailed_by (conditions.Overflow op a b) known = are_int32 (exact op known.facts a b)
entailed_by (conditions.Assert e) known = excludes (range_of known.facts e) (pos 0)

-- Where nothing is reached, each is.
abbrev pub is_entailed : Condition → State → Bool
is_entailed condition None = true
is_entailed condition (Some known) = entailed_by condition known
