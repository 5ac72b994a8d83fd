use Rattle.std.proofs.lemmas.Result.{on_ok_weaker}
use Rattle.widening_engine.proofs.keeping.kept_rounds.Goals as goal

pub returns-clause-work : goal.returns-clause-work
returns-clause-work g c = c.kept_limit.ensures.work g.S.FlowState.equal g.met.S.FlowState.equal_exact

pub returns-clause-ticked : goal.returns-clause-ticked
returns-clause-ticked g c =
    on_ok_weaker c.kept_limit.result (λ ticked. ticked g.S.FlowState.equal g.met.S.FlowState.equal_exact)
    c.kept_limit.ensures.ticked
