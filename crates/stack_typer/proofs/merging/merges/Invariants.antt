use Rattle.std.proofs.Common.{◌≡◌, drop, length, is_some}
use Rattle.cil_model.specs.Passes.{merged}
use Rattle.stack_typer.proofs.merging.merges.Given as goal

abbrev pub invariant-loop-index : goal.invariant-loop-index
invariant-loop-index l = record {
  same_length : length l.before ≡ length l.stack;
  rest : is_some (merged (drop l.index l.before) (drop l.index l.stack)) ≡ is_some (merged l.before l.stack);
}
