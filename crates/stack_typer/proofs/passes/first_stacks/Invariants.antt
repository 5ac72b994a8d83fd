use Rattle.std.proofs.Common.{◌≡◌, ◌∷◌, [], Some, None, map, take}
use Rattle.stack_typer.proofs.passes.first_stacks.Given as goal

abbrev pub invariant-loop-other : goal.invariant-loop-other
invariant-loop-other l = l.stacks.items ≡ Some [] ∷ map (λ other. None) (take l._other-index l.others)
