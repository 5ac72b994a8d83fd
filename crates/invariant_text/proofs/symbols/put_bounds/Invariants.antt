use Rattle.std.proofs.Common.{◌≡◌, ◌++◌, take}
use Rattle.std.specs.List.{flat_map}
use Rattle.invariant_text.specs.SymbolLines.{bound_line}
use Rattle.invariant_text.proofs.symbols.put_bounds.Given as goal

abbrev pub invariant-loop-row : goal.invariant-loop-row
invariant-loop-row l = l.out.items ≡ l.initial.out.items ++ flat_map bound_line (take l.row-index l.rows)
