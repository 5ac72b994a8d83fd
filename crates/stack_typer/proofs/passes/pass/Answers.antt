use Rattle.std.proofs.Common.{Bool}
use Rattle.stack_typer.proofs.AnswerLemmas.{refusal_carried}
use Rattle.stack_typer.proofs.PassLemmas.{fault_met}
use Rattle.stack_typer.proofs.passes.pass.Goals as goal

pub returns-in_err-changed-clause-stacks : goal.returns-in_err-changed-clause-stacks
returns-in_err-changed-clause-stacks c =
    refusal_carried Bool c.from_residual.result _ _ _ c.visit.new.stacks c.visit.new.stacks c.from_residual.ensures.1 c.in_err-changed.ensures.stacks
    (λ fault met. fault_met _ _ _ _ _ _ fault c.loop-index-test.true c.index-instrs-index.is c.loop-index.invariant.rest met)
