-- Where the analysis of a unit settles.
use Rattle.std.specs.Prelude.{List, None, length, map}
use Rattle.std.proofs.Common.{refl}
use Rattle.merged_states.specs.Inclusion.{is_included}
use Rattle.merged_states.specs.Merging as states
use Rattle.state_facts.specs.StateFacts.{State}
use Rattle.transfer_rules.specs.Entry.{entry}
use Rattle.transfer_rules.specs.Flow.{along_edge}
use Rattle.transfer_rules.specs.Laws.StateEquality.{Equality, told_by}
use Rattle.transfer_rules.specs.Laws.StateEquality as equality
use Rattle.transfer_rules.specs.Unknown.{unknown}
use Rattle.transfer_rules.specs.declared.unit_state.UnitState.{UnitState}
use Rattle.unit_flow.specs.Flow.{edge_at}
use Rattle.unit_flow.specs.declared.unit_flow.UnitFlow.{UnitFlow}
use Rattle.widening_engine.specs.Rounds.{Flow, limit}

-- How states of a unit flow along the edges of its graph.
abbrev pub unit_flow : UnitFlow → Flow UnitState
unit_flow code = record {
  blocks = length code.graph.blocks;
  edges = length code.graph.edges;
  source = λ edge. (edge_at code edge).from;
  target = λ edge. (edge_at code edge).to;
  entry = record { state = entry code.unit };
  nothing = record { state = None };
  unknown = λ block. record { state = unknown code block };
  along = λ a edge. record { state = along_edge a.state code edge };
  join = λ a b. record { state = states.join a.state b.state };
  widen = λ a b. record { state = states.widen a.state b.state };
  leq = λ a b. is_included a.state b.state;
}

-- The test of equality of such states.
pub unit_states : Equality UnitState
unit_states = told_by (λ a. a.state) (λ state. record { state = state }) (λ a. refl) equality.states

-- The states where the analysis of a unit settles, one for each block.
unfoldable pub limit_of : UnitFlow → List State
limit_of code = map (λ a. a.state) (limit (unit_flow code))
