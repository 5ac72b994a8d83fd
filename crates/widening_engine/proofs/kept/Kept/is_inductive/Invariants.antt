use Rattle.std.proofs.Common.{◌≡◌, ◌<◌, ℕ, true}
use Rattle.widening_engine.specs.Flows.{flow_of}
use Rattle.widening_engine.specs.Kept.{IsKept, states_of}
use Rattle.widening_engine.specs.Rounds.{is_begun, is_carried}
use Rattle.widening_engine.proofs.kept.Kept.is_inductive.Given as goal

abbrev pub invariant-loop-place : goal.invariant-loop-place
invariant-loop-place g l = record {
  is_kept : IsKept (flow_of g.S.FlowState g.S.Lattice l.fn.code) (g.S.FlowState.fits l.fn.code) l.self;
  blocks : l.self.blocks.items ≡ l.fn.self.blocks.items;
  begun : is_begun (flow_of g.S.FlowState g.S.Lattice l.fn.code) (states_of l.fn.self.blocks.items) ≡ true;
  carried : (edge : ℕ) → edge < l.place → is_carried (flow_of g.S.FlowState g.S.Lattice l.fn.code) (states_of l.fn.self.blocks.items) edge ≡ true;
}
