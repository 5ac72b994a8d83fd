use Rattle.std.proofs.Common.{◌≡◌, ◌++◌, take}
use Rattle.std.specs.List.{flat_map}
use Rattle.invariant_text.specs.ReferenceLines.{next_expr}
use Rattle.invariant_text.proofs.references.put_next_exprs.Given as goal

abbrev pub invariant-loop-e : goal.invariant-loop-e
invariant-loop-e l = l.out.items ≡ l.initial.out.items ++ flat_map next_expr (take l.e-index l.exprs)
