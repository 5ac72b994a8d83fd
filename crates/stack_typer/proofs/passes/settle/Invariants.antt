use Rattle.std.proofs.Common.{◌≡◌, length}
use Rattle.stack_typer.specs.Brought.{AreBrought}
use Rattle.stack_typer.specs.Room.{all_changes_left}
use Rattle.stack_typer.proofs.passes.settle.Given as goal

abbrev pub invariant-passes : goal.invariant-passes
invariant-passes l = record {
  same_length : length l.stacks ≡ length l.instrs;
  brought : AreBrought l.shape l.instrs l.stacks;
}

abbrev pub decreases-passes : goal.decreases-passes
decreases-passes l = all_changes_left l.shape.max_stack l.stacks
