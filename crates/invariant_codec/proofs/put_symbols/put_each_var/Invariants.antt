use Rattle.std.proofs.Common.{◌≡◌, ◌++◌, take}
use Rattle.std.specs.List.{flat_map}
use Rattle.invariant_codec.specs.Spelling.{var_bytes}
use Rattle.invariant_codec.proofs.put_symbols.put_each_var.Given as goal

abbrev pub invariant-loop-var : goal.invariant-loop-var
invariant-loop-var l = l.out.items ≡ l.initial.out.items ++ flat_map var_bytes (take l.var-index l.variables)
