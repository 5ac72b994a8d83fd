-- The state of a block about which nothing is known.
use Rattle.std.specs.Prelude.{ℕ, pos, List, [], ◌∷◌, reverse, Option, Some, None}
use Rattle.cil_model.specs.declared.place.Kind.{Kind}
use Rattle.cil_model.specs.declared.place.Kind.TheVariants as kinds
use Rattle.cil_model.specs.declared.place.Place.TheVariants as places
use Rattle.cil_model.specs.declared.unit.Unit.{Unit as MethodUnit}
use Rattle.frame_names.specs.declared.var.Var.TheVariants as vars
use Rattle.number_spans.specs.declared.span.Span.{Span}
use Rattle.state_facts.specs.StateFacts.{State}
use Rattle.state_facts.specs.States.{push}
use Rattle.state_facts.specs.UnknownValues.{push_unknown, push_unknown_address, push_within}
use Rattle.transfer_rules.specs.Entry.{no_variables, with_unknown}
use Rattle.unit_flow.specs.Flow.{kinds_at}
use Rattle.unit_flow.specs.declared.unit_flow.UnitFlow.{UnitFlow}

-- What a length may be.
abbrev pub lengths : Span
lengths = record { lo = pos 0; hi = pos 2147483647; hole = None }

-- A value of a kind comes on top, of which no more is known.
abbrev pub push_of_kind : Kind → State → State
push_of_kind kinds.Int state = push_unknown places.Int state
push_of_kind kinds.Native state = push_within lengths state
push_of_kind kinds.Ints state = push_unknown places.Ints state
push_of_kind kinds.Bools state = push_unknown places.Bools state
push_of_kind kinds.NullRef state = push (vars.Reference 0) state
push_of_kind kinds.Text state = push vars.Text state
push_of_kind kinds.AddrInts state = push_unknown_address places.Ints state
push_of_kind kinds.AddrBools state = push_unknown_address places.Bools state

abbrev pub with_stack : List Kind → State → State
with_stack [] state = state
with_stack (kind ∷ kinds) state = with_stack kinds (push_of_kind kind state)

-- Each variable is any value of its type: the arguments at the entry, the arguments, the locals, and the stack from the
-- bottom. Where typing does not come, nothing is reached.
abbrev pub unknown_over : MethodUnit → Option (List Kind) → State
unknown_over unit None = None
unknown_over unit (Some stack) =
    with_stack (reverse stack)
    (with_unknown unit.locals (with_unknown unit.args (with_unknown unit.args (Some no_variables))))

unfoldable pub unknown : UnitFlow → ℕ → State
unknown code block = unknown_over code.unit (kinds_at code block)
