use Rattle.state_facts.specs.Keeps.{KeepsLoad}
use Rattle.state_facts.specs.StateFacts.{State}
use Rattle.state_facts.specs.States as calls
use Rattle.state_facts.proofs.StoresHold.{load_keeps}
use Rattle.abs_state.proofs.KeptWhereOk.{kept_where_ok}
use Rattle.abs_state.proofs.state.AbsState.load.Goals as goal

pub returns-clause-keeps : goal.returns-clause-keeps
returns-clause-keeps c =
    kept_where_ok c.push_item.result (λ (s : State). KeepsLoad c.args.r c.args.at c.args.self.now s) (calls.load c.args.r c.args.at c.args.self.now)
    c.push_item.new.self
    (load_keeps c.args.r c.args.at c.args.self.now c.push_item.ensures.form c.requires) c.push_item.ensures.ok
