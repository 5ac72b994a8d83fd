use Rattle.state_facts.specs.Keeps.{KeepsPush}
use Rattle.state_facts.specs.StateFacts.{State}
use Rattle.state_facts.specs.States as calls
use Rattle.state_facts.proofs.MovesHold.{push_keeps}
use Rattle.abs_state.proofs.KeptWhereOk.{kept_where_ok}
use Rattle.abs_state.proofs.state.AbsState.push.Goals as goal

pub returns-clause-keeps : goal.returns-clause-keeps
returns-clause-keeps c =
    kept_where_ok c.push_var.result (λ (s : State). KeepsPush c.args.v c.args.self.now s) (calls.push c.args.v c.args.self.now) c.push_var.new.self
    (push_keeps c.args.v c.args.self.now) c.push_var.ensures.ok
