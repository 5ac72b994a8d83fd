use Rattle.std.proofs.Common.{◌≡◌, Ok, length, drop}
use Rattle.cil_model.specs.Passes.{pass, pass_over}
use Rattle.stack_typer.specs.Room.{Tells}
use Rattle.stack_typer.proofs.passes.pass.Given as goal

abbrev pub invariant-loop-index : goal.invariant-loop-index
invariant-loop-index l = record {
  same_length : length l.stacks ≡ length l.instrs;
  rest : pass_over l.shape l.instrs (drop l.index l.instrs) (Ok l.stacks) ≡ pass l.shape l.instrs l.initial.stacks;
  told : Tells l.shape.max_stack l.initial.stacks l.stacks l.changed;
}
