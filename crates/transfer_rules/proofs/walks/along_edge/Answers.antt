use Rattle.std.proofs.Common.{◌≡◌, List, ap, get_or, sym, subst, ◌∙◌}
use Rattle.std.specs.Prelude.{IfOk}
use Rattle.flow_graph.specs.declared.graph.Edge.{Edge}
use Rattle.state_facts.specs.StateFacts.{State}
use Rattle.transfer_rules.specs.Flow.{along_edge, before_last, leaving}
use Rattle.transfer_rules.specs.Laws.FlowLaws.{along_is, source_below}
use Rattle.unit_flow.specs.Flow.{no_edge}
use Rattle.transfer_rules.proofs.walks.along_edge.Goals as goal

pub before_last-requires-clause-there : goal.before_last-requires-clause-there
before_last-requires-clause-there c =
    rw c.as_slice.ensures (source_below c.args.code.now c.args.edge c.requires.lawful c.requires.there)

pub before_last-requires-clause-fits : goal.before_last-requires-clause-fits
before_last-requires-clause-fits c = rw c.as_slice.ensures c.requires.fits

pub leave-requires-clause-came : goal.leave-requires-clause-came
leave-requires-clause-came c = (
  c.args.state.now,
  c.requires.fits,
  c.in_ok-before.ensures
      ∙ ap (λ (es : List Edge). before_last c.args.state.now c.args.code.now (get_or es c.args.edge no_edge).from)
      c.as_slice.ensures,
)

pub returns : goal.returns
returns c =
    let code = c.args.code.now in
    let same : leaving c.in_ok-before.before code c.args.edge ≡ along_edge c.args.state.now code c.args.edge =
    ap (λ (s : State). leaving s code c.args.edge)
    (c.in_ok-before.ensures
    ∙ ap (λ (es : List Edge). before_last c.args.state.now code (get_or es c.args.edge no_edge).from)
    c.as_slice.ensures)
    ∙ sym (along_is code c.args.edge c.args.state.now) in
    subst (λ (s : State). IfOk c.leave.result (λ behind. behind ≡ s)) same c.leave.ensures
