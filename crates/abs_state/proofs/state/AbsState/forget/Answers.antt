use Rattle.state_facts.specs.Keeps.{KeepsCall}
use Rattle.state_facts.specs.StateFacts.{State}
use Rattle.state_facts.specs.States as calls
use Rattle.state_facts.proofs.ArraysHold.{call_keeps}
use Rattle.abs_state.proofs.KeptWhereOk.{kept_where_ok}
use Rattle.abs_state.proofs.state.AbsState.forget.Goals as goal

pub returns-clause-keeps : goal.returns-clause-keeps
returns-clause-keeps c =
    kept_where_ok c.push_result.result (λ (s : State). KeepsCall c.args.first c.args.args c.args.place c.args.self.now s) (calls.forget c.args.first c.args.args c.args.place c.args.self.now) c.push_result.new.self
    (call_keeps c.args.first c.args.args c.args.place c.args.self.now c.push_result.ensures.form) c.push_result.ensures.ok
