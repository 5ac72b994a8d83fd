use Rattle.stack_typer.proofs.MergeLemmas.{AreMerging}
use Rattle.stack_typer.proofs.merging.merge_into.Given as goal

abbrev pub invariant-loop-index : goal.invariant-loop-index
invariant-loop-index l = AreMerging l.initial.before l.before l.stack l.index l.changed
