use Rattle.std.proofs.Common.{rules, sym, subst}
use Rattle.transfer_rules.proofs.Inducing.{from_below, from_fits}
use Rattle.transfer_rules.specs.Flow.{Fits}
use Rattle.unit_flow.specs.Flow.{edge_at}
use Rattle.flow_cases.proofs.flows.edge.Goals as goal

pub bounds-states-from : goal.bounds-states-from
bounds-states-from c =
    from_below c.args.code.now c.requires.lawful c.args.states.now c.in_ok-fit_all.ensures c.in_ok-edge-2.edge
    (rw (sym c.as_slice-edges.ensures) (search rules)) c.as_slice-edges.result.now c.as_slice-edges.ensures

pub along_edge-requires-clause-fits : goal.along_edge-requires-clause-fits
along_edge-requires-clause-fits c =
    subst (Fits c.args.code.now (edge_at c.args.code.now c.in_ok-edge-2.edge).from) (sym c.in_ok-copy.ensures)
    (from_fits c.args.code.now c.requires.lawful c.args.states.now c.in_ok-fit_all.ensures c.in_ok-edge-2.edge
    (rw (sym c.as_slice-edges.ensures) (search rules)) c.as_slice-edges.result.now c.as_slice-edges.ensures
    c.index-states-from.result c.index-states-from.is)
