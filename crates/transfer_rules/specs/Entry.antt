-- The state where a method begins.
use Rattle.std.specs.Prelude.{ℕ, pos, true, List, [], ◌∷◌, ◌++◌, map, take, Some, None}
use Rattle.std.specs.Option.{option_map}
use Rattle.cil_model.specs.Calls.{clauses_in_force, entry_frame}
use Rattle.cil_model.specs.Clauses.{clauses_of}
use Rattle.cil_model.specs.Runs.{MayBegin}
use Rattle.cil_model.specs.Values.{Heap}
use Rattle.cil_model.specs.declared.clause.Clause.{Clause}
use Rattle.cil_model.specs.declared.clause.ClauseKind.TheVariants as kinds
use Rattle.cil_model.specs.declared.machine.Value.{Value}
use Rattle.cil_model.specs.declared.place.Place.{Place}
use Rattle.cil_model.specs.declared.place.Place.TheVariants as places
use Rattle.cil_model.specs.declared.unit.Unit.{Unit as MethodUnit}
use Rattle.clause_trees.specs.ClauseStates.{assumed}
use Rattle.clause_trees.specs.declared.reader.TreeEnv.{TreeEnv}
use Rattle.frame_names.specs.declared.var.Var.{Var}
use Rattle.frame_names.specs.declared.var.Var.TheVariants as vars
use Rattle.machine_points.specs.Points.{point}
use Rattle.merged_states.specs.Merging.{normal}
use Rattle.number_spans.specs.Constants.{constant}
use Rattle.state_facts.specs.Holds.{HoldsAt}
use Rattle.state_facts.specs.StateFacts.{StateFacts, State}
use Rattle.state_facts.specs.States.{push}
use Rattle.state_facts.specs.UnknownValues.{push_unknown}

-- Of a point without variables nothing is known.
abbrev pub no_variables : StateFacts
no_variables = record {
  variables = [];
  facts = record { ranges = []; definitions = []; bounds = [] };
  references = [];
  apart = [];
  contents = [];
}

-- Values of these types come on top, in order, of which no more is known. Each is apart from the others in its symbols,
-- but arrays may be the same.
abbrev pub with_unknown : List Place → State → State
with_unknown [] state = state
with_unknown (place ∷ places) state = with_unknown places (push_unknown place state)

abbrev pub with_more : List Var → StateFacts → StateFacts
with_more vs known = record known { variables = known.variables ++ vs }

-- All variables come on top once more: the arguments have the values that they have at the entry.
abbrev pub twice : StateFacts → StateFacts
twice known = with_more known.variables known

-- What a local has before it is stored to.
abbrev pub zero_in : Place → Var
zero_in places.Bools = vars.Reference 0
zero_in places.Ints = vars.Reference 0
zero_in places.Bool = vars.Number (constant (pos 0))
zero_in places.Int = vars.Number (constant (pos 0))
zero_in places.Void = vars.Number (constant (pos 0))

-- The zeros of these types come on top, in order.
abbrev pub with_zeros : List Place → State → State
with_zeros [] state = state
with_zeros (place ∷ places) state = with_zeros places (push (zero_in place) state)

-- So many of the first variables come on top once more.
abbrev pub with_first : ℕ → State → State
with_first n state = option_map (λ known. with_more (take n known.variables) known) state

-- Nothing is known of arguments but their types, and locals have their zeros.
abbrev pub begun : MethodUnit → State
begun unit =
    option_map (with_more (map zero_in unit.locals)) (option_map twice (with_unknown unit.args (Some no_variables)))

-- Clauses read the arguments at the entry, which are the first variables.
abbrev pub at_entry : TreeEnv
at_entry = record { args = 0; result = None }

-- Each clause is true.
abbrev pub required : List Clause → State → State
required [] state = state
required (clause ∷ clauses) state = required clauses (assumed at_entry true clause.tree state)

-- What is required is true.
unfoldable pub entry : MethodUnit → State
entry unit = normal (required (clauses_of kinds.Requires (clauses_in_force unit)) (begun unit))

-- ---- what it means

-- The state holds of each point with which a call of the unit may begin.
abbrev pub HoldsAtEntry : MethodUnit → State → Type 0
HoldsAtEntry unit state =
    (index : ℕ) (args : List Value) (heap : Heap) → MayBegin unit args heap
    → HoldsAt state (point (entry_frame unit index args heap) heap)
