use Rattle.widening_engine.specs.Flows.{flow_of}
use Rattle.widening_engine.proofs.Stepping.{AreStepping}
use Rattle.widening_engine.proofs.kept.Kept.step_all.Given as goal

abbrev pub invariant-loop-block : goal.invariant-loop-block
invariant-loop-block g l = AreStepping (flow_of g.S.FlowState g.S.Lattice l.fn.code) l.late l.heads l.fn.joins.items l.fn.self l.block l.self l.joins.items l.changed.items
