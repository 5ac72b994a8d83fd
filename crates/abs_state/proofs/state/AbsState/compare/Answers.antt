use Rattle.state_facts.specs.Keeps.{KeepsComparison}
use Rattle.state_facts.specs.StateFacts.{State}
use Rattle.state_facts.specs.States as calls
use Rattle.state_facts.proofs.ComparisonsHold.{compare_keeps}
use Rattle.abs_state.proofs.KeptWhereOk.{kept_where_ok}
use Rattle.abs_state.proofs.state.AbsState.compare.Goals as goal

pub returns-clause-keeps : goal.returns-clause-keeps
returns-clause-keeps c =
    kept_where_ok c.push_comparison.result (λ (s : State). KeepsComparison c.args.op c.args.a c.args.b c.args.self.now s) (calls.compare c.args.op c.args.a c.args.b c.args.self.now) c.push_comparison.new.self
    (compare_keeps c.args.op c.args.a c.args.b c.args.self.now c.push_comparison.ensures.form c.requires.first c.requires.second) c.push_comparison.ensures.ok
