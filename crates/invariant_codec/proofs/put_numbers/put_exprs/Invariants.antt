use Rattle.std.proofs.Common.{◌≡◌, ◌++◌, take}
use Rattle.std.specs.List.{flat_map}
use Rattle.invariant_codec.specs.Spelling.{expr_bytes}
use Rattle.invariant_codec.proofs.put_numbers.put_exprs.Given as goal

abbrev pub invariant-loop-e : goal.invariant-loop-e
invariant-loop-e l = l.out.items ≡ l.initial.out.items ++ flat_map expr_bytes (take l.e-index l.exprs)
