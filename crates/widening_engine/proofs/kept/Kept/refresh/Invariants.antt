use Rattle.std.proofs.Common.{◌≡◌, count_by}
use Rattle.widening_engine.specs.Flows.{flow_of}
use Rattle.widening_engine.specs.Kept.{IsWalked, is_computed, states_of}
use Rattle.widening_engine.specs.Rounds.{places}
use Rattle.widening_engine.specs.Work.{after_ticks}
use Rattle.widening_engine.proofs.Refreshing.{AreRefreshing}
use Rattle.widening_engine.proofs.kept.Kept.refresh.Given as goal

abbrev pub invariant-loop-place : goal.invariant-loop-place
invariant-loop-place g l = record {
  refreshing : AreRefreshing (flow_of g.S.FlowState g.S.Lattice l.fn.code) l.every l.changed l.fn.self l.place l.self;
  walked : IsWalked (flow_of g.S.FlowState g.S.Lattice l.fn.code) (λ a block. g.S.FlowState.through a l.fn.code block) (states_of l.self.blocks.items) l.place l.walked;
  ticked : g.S.Gauge.Meter.count l.meter ≡ after_ticks (count_by (is_computed (flow_of g.S.FlowState g.S.Lattice l.fn.code) l.every l.changed) (places l.place)) (g.S.Gauge.Meter.count l.fn.meter);
}
