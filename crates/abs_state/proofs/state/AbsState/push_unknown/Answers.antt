use Rattle.state_facts.specs.StateFacts.{State}
use Rattle.state_facts.specs.UnknownValues as calls
use Rattle.state_facts.specs.UnknownValues.{KeepsUnknown}
use Rattle.state_facts.proofs.UnknownValues.{unknown_is_kept}
use Rattle.abs_state.proofs.KeptWhereOk.{kept_where_ok}
use Rattle.abs_state.proofs.state.AbsState.push_unknown.Goals as goal

pub returns-clause-keeps : goal.returns-clause-keeps
returns-clause-keeps c =
    kept_where_ok c.push_unknown_value.result (λ (s : State). KeepsUnknown c.args.place c.args.self.now s) (calls.push_unknown c.args.place c.args.self.now)
    c.push_unknown_value.new.self (unknown_is_kept c.args.place c.args.self.now c.push_unknown_value.ensures.form) c.push_unknown_value.ensures.ok
