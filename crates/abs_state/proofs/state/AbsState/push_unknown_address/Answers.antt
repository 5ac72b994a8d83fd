use Rattle.state_facts.specs.StateFacts.{State}
use Rattle.state_facts.specs.UnknownValues as calls
use Rattle.state_facts.specs.UnknownValues.{KeepsUnknownAddress}
use Rattle.state_facts.proofs.UnknownAddresses.{unknown_address_is_kept}
use Rattle.abs_state.proofs.KeptWhereOk.{kept_where_ok}
use Rattle.abs_state.proofs.state.AbsState.push_unknown_address.Goals as goal

pub returns-clause-keeps : goal.returns-clause-keeps
returns-clause-keeps c =
    let place = c.args.place in
    let before = c.args.self.now in
    kept_where_ok c.push_item_address.result (λ (s : State). KeepsUnknownAddress place before s)
    (calls.push_unknown_address place before) c.push_item_address.new.self
    (unknown_address_is_kept place before c.push_item_address.ensures.form c.requires) c.push_item_address.ensures.ok
