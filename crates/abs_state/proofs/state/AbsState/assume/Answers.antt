use Rattle.state_facts.specs.Keeps.{KeepsAssumed}
use Rattle.state_facts.specs.StateFacts.{State}
use Rattle.state_facts.specs.States as calls
use Rattle.state_facts.proofs.AssumptionsHold.{assume_keeps}
use Rattle.abs_state.proofs.KeptWhereOk.{kept_where_ok}
use Rattle.abs_state.proofs.state.AbsState.assume.Goals as goal

pub returns-clause-keeps : goal.returns-clause-keeps
returns-clause-keeps c =
    kept_where_ok c.assume_comparison.result (λ (s : State). KeepsAssumed c.args.op c.args.a c.args.b c.args.holds c.args.self.now s) (calls.assume c.args.op c.args.a c.args.b c.args.holds c.args.self.now) c.assume_comparison.new.self
    (assume_keeps c.args.op c.args.a c.args.b c.args.holds c.args.self.now c.assume_comparison.ensures.form c.requires.first c.requires.second) c.assume_comparison.ensures.ok
