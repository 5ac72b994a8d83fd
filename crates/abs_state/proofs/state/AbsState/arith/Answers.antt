use Rattle.state_facts.specs.Arithmetic.{KeepsArith}
use Rattle.state_facts.specs.StateFacts.{State}
use Rattle.state_facts.specs.States as calls
use Rattle.abs_state.proofs.KeptWhereOk.{kept_where_ok}
use Rattle.state_facts.proofs.ResultsHold.{arith_keeps}
use Rattle.abs_state.proofs.state.AbsState.arith.Goals as goal

pub returns-clause-keeps : goal.returns-clause-keeps
returns-clause-keeps c =
    kept_where_ok c.push_arith.result (λ (s : State). KeepsArith c.args.op c.args.a c.args.b c.args.self.now s)
    (calls.arith c.args.op c.args.a c.args.b c.args.self.now) c.push_arith.new.self
    (arith_keeps c.args.op c.args.a c.args.b c.args.self.now c.push_arith.ensures.form c.requires.first c.requires.second) c.push_arith.ensures.ok
