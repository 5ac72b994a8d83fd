use Rattle.std.proofs.Common.{◌≡◌, take}
use Rattle.cil_model.specs.Passes.{lowest_conflict}
use Rattle.stack_typer.proofs.conflicts.lowest_conflict.Given as goal

abbrev pub invariant-loop-at : goal.invariant-loop-at
invariant-loop-at l = l.lowest ≡ lowest_conflict l.instrs l.stacks l.stack (take l.at-index l.offsets)
