use Rattle.std.proofs.lemmas.Result.{on_ok_weaker}
use Rattle.widening_engine.specs.Limits.{unit_states}
use Rattle.widening_engine.proofs.dirty.DirtyFinder.find.Goals as goal

pub returns-clause-work : goal.returns-clause-work
returns-clause-work c = c.find_invariant.ensures.work unit_states.equal unit_states.exact

pub returns-clause-ticked : goal.returns-clause-ticked
returns-clause-ticked c =
    on_ok_weaker c.find_invariant.result (λ ticked. ticked unit_states.equal unit_states.exact)
    c.find_invariant.ensures.ticked
