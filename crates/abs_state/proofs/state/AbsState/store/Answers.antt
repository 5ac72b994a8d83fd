use Rattle.state_facts.specs.Keeps.{KeepsStore}
use Rattle.state_facts.specs.StateFacts.{State}
use Rattle.state_facts.specs.States as calls
use Rattle.state_facts.proofs.StoresHold.{store_keeps}
use Rattle.abs_state.proofs.KeptWhereOk.{kept_where_ok}
use Rattle.abs_state.proofs.state.AbsState.store.Goals as goal

pub returns-clause-keeps : goal.returns-clause-keeps
returns-clause-keeps c =
    kept_where_ok c.store_item.result (λ (s : State). KeepsStore c.args.r c.args.at c.args.value c.args.self.now s)
    (calls.store c.args.r c.args.at c.args.value c.args.self.now) c.store_item.new.self
    (store_keeps c.args.r c.args.at c.args.value c.args.self.now c.store_item.ensures.form c.requires.there c.requires.index c.requires.value)
    c.store_item.ensures.ok
