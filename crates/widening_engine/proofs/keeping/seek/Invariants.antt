use Rattle.widening_engine.specs.Flows.{flow_of}
use Rattle.widening_engine.proofs.Seeking.{AreSought}
use Rattle.widening_engine.proofs.keeping.seek.Given as goal

abbrev pub invariant-loop-number : goal.invariant-loop-number
invariant-loop-number g l = AreSought (flow_of g.S.FlowState g.S.Lattice l.fn.code) (g.S.FlowState.fits l.fn.code) l.every (g.S.Gauge.Meter.count l.fn.meter) l.number l.kept (g.S.Gauge.Meter.count l.meter)
