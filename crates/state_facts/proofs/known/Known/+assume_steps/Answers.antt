use Rattle.std.proofs.Common.{rules, ◌<◌, ◌-◌, sym, subst, arith}
use Rattle.state_facts.specs.Assuming.{AreNamedTests}
use Rattle.state_facts.proofs.AssumptionForms.{ready_behind}
use Rattle.state_facts.proofs.Stepping.{steps_reached, steps_ok, steps_err}
use Rattle.state_facts.proofs.known.Known.+assume_steps.Goals as goal

pub assume_steps-requires : goal.assume_steps-requires
assume_steps-requires t c =
    let less : c.args.steps - 1 < t = search rules in
    let named = subst (AreNamedTests c.args.self.now) c.in-Some.is c.requires.named in
    let ready = ready_behind c.in-Some.test c.args.self.now c.assume_test.new.self c.requires.form named (c.in_ok-assume_test.ensures.ok (search rules)) in
    (less, (ready.form, subst (AreNamedTests c.assume_test.new.self) (sym c.following-next.ensures) ready.named))

pub returns-clause-reached : goal.returns-clause-reached
returns-clause-reached t c =
    steps_reached c.assume_steps.result c.args.steps c.args.test c.following-next.result c.in-Some.test c.args.self.now c.assume_test.new.self c.in-Some.is
    (omega arith) c.following-next.ensures (c.in_ok-assume_test.ensures.ok (search rules)) c.assume_steps.ensures.reached

pub returns-clause-ok : goal.returns-clause-ok
returns-clause-ok t c =
    steps_ok c.assume_steps.result c.args.steps c.args.test c.following-next.result c.in-Some.test c.args.self.now c.assume_test.new.self c.assume_steps.new.self
    c.in-Some.is (omega arith) c.following-next.ensures (c.in_ok-assume_test.ensures.ok (search rules)) c.assume_steps.ensures.ok

pub returns-clause-err : goal.returns-clause-err
returns-clause-err t c =
    steps_err c.assume_steps.result c.following-next.result c.in-Some.test c.args.self.now c.assume_test.new.self c.assume_steps.new.self
    c.following-next.ensures (c.in_ok-assume_test.ensures.ok (search rules)) c.assume_steps.ensures.err c.assume_steps.ensures.tested
