use Rattle.std.proofs.Common.{◌≡◌, ℕ, ◌≤◌, length, drop}
use Rattle.cil_model.specs.Passes.{come_to_all}
use Rattle.stack_typer.specs.Room.{Tells}
use Rattle.stack_typer.proofs.arrivals.come_to_all.Given as goal

abbrev pub invariant-loop-at : goal.invariant-loop-at
invariant-loop-at l = record {
  same_length : length l.stacks ≡ length l.instrs;
  rest : come_to_all l.instrs l.stacks l.stack (drop l.at-index l.offsets) ≡ come_to_all l.instrs l.initial.stacks l.stack l.offsets;
  told : (most : ℕ) → length l.stack ≤ most → Tells most l.initial.stacks l.stacks l.changed;
}
