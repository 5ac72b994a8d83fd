use Rattle.std.proofs.Common.{◌≡◌, drop, length}
use Rattle.cil_model.specs.Kinds.{take_each}
use Rattle.stack_typer.proofs.operands.take_each.Given as goal

abbrev pub invariant-loop-index : goal.invariant-loop-index
invariant-loop-index l = record {
  same_length : length l.places ≡ length l.kinds;
  rest : take_each (drop l.index l.places) (drop l.index l.kinds) ≡ take_each l.places l.kinds;
}
