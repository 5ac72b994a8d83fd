use Rattle.state_facts.specs.Keeps.{KeepsPut}
use Rattle.state_facts.specs.StateFacts.{State}
use Rattle.state_facts.specs.States as calls
use Rattle.state_facts.proofs.MovesHold.{put_keeps}
use Rattle.abs_state.proofs.KeptWhereOk.{kept_where_ok}
use Rattle.abs_state.proofs.state.AbsState.put.Goals as goal

pub returns-clause-keeps : goal.returns-clause-keeps
returns-clause-keeps c =
    kept_where_ok c.put_var.result (λ (s : State). KeepsPut c.args.i c.args.v c.args.place c.args.self.now s) (calls.put c.args.i c.args.v c.args.place c.args.self.now) c.put_var.new.self
    (put_keeps c.args.i c.args.v c.args.place c.args.self.now c.put_var.ensures.form c.requires.value) c.put_var.ensures.ok
