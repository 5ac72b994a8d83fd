use Rattle.state_facts.specs.Keeps.{KeepsNewArray}
use Rattle.state_facts.specs.StateFacts.{State}
use Rattle.state_facts.specs.States as calls
use Rattle.state_facts.proofs.ArraysHold.{new_array_keeps}
use Rattle.abs_state.proofs.KeptWhereOk.{kept_where_ok}
use Rattle.abs_state.proofs.state.AbsState.new_array.Goals as goal

pub returns-clause-keeps : goal.returns-clause-keeps
returns-clause-keeps c =
    kept_where_ok c.push_array.result (λ (s : State). KeepsNewArray c.args.place c.args.length c.args.self.now s) (calls.new_array c.args.place c.args.length c.args.self.now) c.push_array.new.self
    (new_array_keeps c.args.place c.args.length c.args.self.now c.push_array.ensures.form) c.push_array.ensures.ok
