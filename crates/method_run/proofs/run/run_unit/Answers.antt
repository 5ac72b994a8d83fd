use Rattle.std.proofs.Common.{◌≡◌, IfOk, subst}
use Rattle.method_run.proofs.RunLemmas.{has_unit, run_answered}
use Rattle.method_run.proofs.run.run_unit.Goals as goal

pub returns-in-Err-clause-told : goal.returns-in-Err-clause-told
returns-in-Err-clause-told c =
    c.refusal_answer.ensures.told
    (has_unit c.args.world.now c.in_ok-machine.machine.world c.in_ok-machine.machine.limits c.args.args.now c.args.unit.now c.in-Err.refusal
    c.in-Err.ensures.refusal c.in_ok-machine.ensures.world c.requires.first)

pub returns-clause-answer : goal.returns-clause-answer
returns-clause-answer c =
    let run = c.run-stop.ensures in
    subst (λ whole. IfOk c.end_answer.result (λ answer. answer ≡ whole))
    (run_answered c.args.world.now c.args.limits c.args.unit.now c.args.args.now c.in_ok-machine.machine c.start.new.self c.run-stop.new.self
    c.run-stop.result c.in_ok-machine.ensures c.requires.world c.requires.first c.in_default.ensures.refusal c.in_default.ensures.begins
    run.end run.kept run.ended run.same)
    c.end_answer.ensures.answer
