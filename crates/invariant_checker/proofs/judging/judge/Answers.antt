use Rattle.std.proofs.Common.{refl}
use Rattle.invariant_checker.proofs.Counting.{verdicts_few, verdicts_inside}
use Rattle.invariant_checker.proofs.Covering.{each_told}
use Rattle.invariant_checker.proofs.JudgeSteps.{proved_where_inductive}
use Rattle.invariant_checker.proofs.Soundness.{proved_is_safe}
use Rattle.invariant_checker.proofs.judging.judge.Goals as goal

pub returns-clause-value : goal.returns-clause-value
returns-clause-value c = rw (c.in_ok-found.ensures, c.as_slice.ensures.value) refl

pub returns-clause-each : goal.returns-clause-each
returns-clause-each c =
    rw (returns-clause-value c)
    (each_told c.args.code.now c.args.invariant.now.states.items c.requires.lawful)

pub returns-clause-inductive : goal.returns-clause-inductive
returns-clause-inductive c =
    rw (returns-clause-value c) (proved_where_inductive c.args.code.now c.args.invariant.now.states.items)

pub returns-clause-sound : goal.returns-clause-sound
returns-clause-sound c =
    rw (returns-clause-value c)
    (proved_is_safe c.args.code.now c.args.invariant.now.states.items c.requires.lawful)

pub returns-clause-few : goal.returns-clause-few
returns-clause-few c =
    rw (returns-clause-value c)
    (verdicts_few c.args.code.now c.args.invariant.now.states.items c.requires.lawful)

pub returns-clause-inside : goal.returns-clause-inside
returns-clause-inside c =
    rw (returns-clause-value c)
    (verdicts_inside c.args.code.now c.args.invariant.now.states.items c.requires.lawful)
