use Rattle.state_facts.specs.Keeps.{KeepsPop}
use Rattle.state_facts.specs.StateFacts.{State}
use Rattle.state_facts.specs.States as calls
use Rattle.state_facts.proofs.MovesHold.{pop_keeps}
use Rattle.abs_state.proofs.KeptWhereOk.{kept_where_ok}
use Rattle.abs_state.proofs.state.AbsState.pop.Goals as goal

pub returns-clause-keeps : goal.returns-clause-keeps
returns-clause-keeps c =
    kept_where_ok c.pop_var.result (λ (s : State). KeepsPop c.args.self.now s) (calls.pop c.args.self.now) c.pop_var.new.self
    (pop_keeps c.args.self.now) c.pop_var.ensures.ok
