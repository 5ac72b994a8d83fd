-- What the state at a return says of the result. The result lies on top, in its place, and the first variables are the
-- arguments at the entry.
use Rattle.std.specs.Prelude.{ℕ, ℤ, pos, Bool, true, false, int_le, List, filter_map, slice_get, Option, Some, None, option_map, if◌then◌else◌}
use Rattle.std.specs.List.{list_all}
use Rattle.std.specs.Option.{option_and_then, option_or}
use Rattle.clause_trees.specs.TreeValues.{from_top}
use Rattle.domain_api.specs.declared.expr.Expr.{Expr}
use Rattle.frame_names.specs.declared.var.Var.{Var}
use Rattle.frame_names.specs.declared.var.Var.TheVariants as vars
use Rattle.number_facts.specs.Ends.{range_of}
use Rattle.number_facts.specs.Gaps.{at_most}
use Rattle.number_spans.specs.declared.span.Span.{Span}
use Rattle.state_facts.specs.Comparing.{is_array}
use Rattle.state_facts.specs.StateFacts.{StateFacts, State, length_at}
use Rattle.ensures_infer.specs.Inferred.{weaker}
use Rattle.ensures_infer.specs.declared.inferred.Inferred.{Inferred}
use Rattle.ensures_infer.specs.declared.inferred.Inferred.TheVariants as facts
use Rattle.ensures_infer.specs.declared.inferred.Measure.{Measure}
use Rattle.ensures_infer.specs.declared.inferred.Measure.TheVariants as measures

-- ---- what variables have

abbrev pub number_in : Option Var → Option Expr
number_in (Some (vars.Number e)) = Some e
number_in (Some (vars.Reference r)) = None
number_in (Some vars.Text) = None
number_in (Some (vars.Address r e)) = None
number_in None = None

-- The numbers that it may be.
abbrev pub range_in : StateFacts → Option Var → Option Span
range_in known v = option_map (range_of known.facts) (number_in v)

-- An array, which is known not to be null.
abbrev pub is_array_in : StateFacts → Option Var → Bool
is_array_in known (Some (vars.Reference r)) = is_array known r
is_array_in known (Some (vars.Number e)) = false
is_array_in known (Some vars.Text) = false
is_array_in known (Some (vars.Address r e)) = false
is_array_in known None = false

-- The length of such an array.
abbrev pub length_of : StateFacts → ℕ → Option Expr
length_of known r = if is_array known r then Some (length_at known r) else None

abbrev pub length_in : StateFacts → Option Var → Option Expr
length_in known (Some (vars.Reference r)) = length_of known r
length_in known (Some (vars.Number e)) = None
length_in known (Some vars.Text) = None
length_in known (Some (vars.Address r e)) = None
length_in known None = None

-- ---- results and arguments

abbrev pub result_in : StateFacts → Option Var
result_in known = from_top 0 known

abbrev pub argument : ℕ → StateFacts → Option Var
argument i known = slice_get known.variables i

-- The number of an argument that the result is compared with.
abbrev pub measured_in : Measure → StateFacts → Option Var → Option Expr
measured_in measures.Value known v = number_in v
measured_in measures.Length known v = length_in known v

-- The numbers that may be returned.
abbrev pub result_range : StateFacts → Option Span
result_range known = range_in known (result_in known)

-- ---- what is said

abbrev pub is_at_least : ℤ → Option Span → Bool
is_at_least lo None = false
is_at_least lo (Some range) = int_le lo range.lo

abbrev pub is_at_most : ℤ → Option Span → Bool
is_at_most hi None = false
is_at_most hi (Some range) = int_le range.hi hi

-- Both numbers are there, and the first and so much more is known to be at most the second.
abbrev pub are_in_order : StateFacts → Option Expr → ℤ → Option Expr → Bool
are_in_order known (Some a) more (Some b) = at_most known.facts a more b
are_in_order known (Some a) more None = false
are_in_order known None more b = false

abbrev pub is_result_below : StateFacts → ℤ → Measure → ℕ → Bool
is_result_below known more measure i =
    are_in_order known (number_in (result_in known)) more (measured_in measure known (argument i known))

-- It is known of the result.
unfoldable pub shows : StateFacts → Inferred → Bool
shows known (facts.AtLeast lo) = is_at_least lo (result_range known)
shows known (facts.AtMost hi) = is_at_most hi (result_range known)
shows known facts.NotNull = is_array_in known (result_in known)
shows known (facts.Below measure i) = is_result_below known (pos 1) measure i
shows known (facts.NotAbove measure i) = is_result_below known (pos 0) measure i

-- It follows in a state. Where nothing is reached, everything does.
abbrev pub follows : Inferred → State → Bool
follows fact None = true
follows fact (Some known) = shows known fact

-- ---- at all returns

-- The numbers that a return may give. None where nothing is reached, or no number is given.
unfoldable pub range_at : State → Option Span
range_at state = option_and_then result_range state

abbrev pub ranges_at : List State → List Span
ranges_at returns = filter_map range_at returns

-- It follows at each of these returns.
abbrev pub follows_at_each : List State → Inferred → Bool
follows_at_each returns fact = list_all (follows fact) returns

abbrev pub if_it_follows : List State → Inferred → Option Inferred
if_it_follows returns fact = if follows_at_each returns fact then Some fact else None

-- What follows of a row.
abbrev pub shown_of : List State → Inferred → Option Inferred
shown_of returns fact = option_or (if_it_follows returns fact) (option_and_then (if_it_follows returns) (weaker fact))
