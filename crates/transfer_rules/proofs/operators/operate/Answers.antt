use Rattle.std.proofs.Common.{◌≡◌, Option, Some, subst}
use Rattle.std.specs.Prelude.{IfSome}
use Rattle.std.specs.Option.{option_and_then}
use Rattle.frame_names.specs.declared.var.Var.{Var}
use Rattle.obligation_prover.specs.Operations.{from_top}
use Rattle.state_facts.specs.States.{pop}
use Rattle.transfer_rules.proofs.Calculating.{calculated_where_ok, operated_is, ready_here}
use Rattle.transfer_rules.proofs.operators.operate.Goals as goal

pub calculate-requires-clause-ready : goal.calculate-requires-clause-ready
calculate-requires-clause-ready c =
    let top : option_and_then (from_top 0) c.args.state.now ≡ Some c.in-Some.b =
    subst (λ (two : Option (Var × Var)). IfSome two (λ vs. option_and_then (from_top 0) c.args.state.now ≡ Some vs.1))
    c.in-Some.is c.in_ok-a.ensures.top in
    let below : option_and_then (from_top 0) (pop c.args.state.now) ≡ Some c.in-Some.a =
    subst (λ (two : Option (Var × Var)). IfSome two
    (λ vs. option_and_then (from_top 0) (pop c.args.state.now) ≡ Some vs.0)) c.in-Some.is c.in_ok-a.ensures.below in
    ready_here c.args.op c.args.state.now c.in-Some.a c.in-Some.b top below c.requires.ready

pub returns : goal.returns
returns c =
    calculated_where_ok c.calculate.result c.calculate.new.state _ _ c.calculate.ensures
    (operated_is c.args.op c.in_ok-a.field-0 (c.in-Some.a, c.in-Some.b) c.args.state.now c.take_two.new.state
    c.in-Some.is c.in_ok-a.ensures.took)
