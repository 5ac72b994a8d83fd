use Rattle.widening_engine.specs.Flows.{flow_of}
use Rattle.widening_engine.proofs.Forgetting.{AreForgetting}
use Rattle.widening_engine.proofs.kept.Kept.forget_all.Given as goal

abbrev pub invariant-loop-block : goal.invariant-loop-block
invariant-loop-block g l = AreForgetting (flow_of g.S.FlowState g.S.Lattice l.fn.code) l.fn.self l.block l.self l.changed.items
