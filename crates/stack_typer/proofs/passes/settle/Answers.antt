use Rattle.std.proofs.Common.{Bool, arith}
use Rattle.stack_typer.proofs.AnswerLemmas.{fault_carried}
use Rattle.stack_typer.proofs.PassLemmas.{next_brought, next_at_fault}
use Rattle.stack_typer.proofs.passes.settle.Goals as goal

pub returns-in_err-pass-clause-err : goal.returns-in_err-pass-clause-err
returns-in_err-pass-clause-err c =
    fault_carried Bool c.from_residual.result _ _ c.pass.new.stacks _ c.from_residual.ensures.1 c.in_err-pass.ensures.stacks
    (λ fault met. next_at_fault _ _ _ fault c.passes.invariant.brought met)

pub passes-preserved : goal.passes-preserved
passes-preserved c = record {
  same_length = omega arith;
  brought = next_brought _ _ _ _ c.passes.invariant.brought c.in_ok-pass.ensures.stacks;
}
