use Rattle.std.proofs.Common.{◌≡◌, ◌+◌, ◌++◌, drop}
use Rattle.invariant_text.specs.Lines.{numbered}
use Rattle.invariant_text.specs.SymbolLines.{symbol_line}
use Rattle.invariant_text.proofs.symbols.put_symbols.Given as goal

abbrev pub invariant-loop-index : goal.invariant-loop-index
invariant-loop-index l =
    l.out.items ++ numbered symbol_line (l.index + 1) (drop l.index l.ranges)
    ≡ l.initial.out.items ++ numbered symbol_line 1 l.ranges
