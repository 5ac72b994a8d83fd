use Rattle.std.proofs.Common.{◌≡◌, map}
use Rattle.widening_engine.specs.Flows.{flow_of}
use Rattle.widening_engine.specs.Kept.{joined_anew, states_of}
use Rattle.widening_engine.specs.Rounds.{places}
use Rattle.widening_engine.proofs.kept.Kept.joins.Given as goal

abbrev pub invariant-loop-place : goal.invariant-loop-place
invariant-loop-place g l = l.joins.items
    ≡ map (joined_anew (flow_of g.S.FlowState g.S.Lattice l.fn.code) (states_of l.fn.self.blocks.items) l.fn.self.stale.items (places l.place)) (places (g.S.FlowState.block_count l.fn.code))
