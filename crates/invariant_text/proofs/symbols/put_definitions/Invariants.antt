use Rattle.std.proofs.Common.{◌≡◌, ◌++◌, take}
use Rattle.std.specs.List.{flat_map}
use Rattle.invariant_text.specs.SymbolLines.{definition_line}
use Rattle.invariant_text.proofs.symbols.put_definitions.Given as goal

abbrev pub invariant-loop-definition : goal.invariant-loop-definition
invariant-loop-definition l =
    l.out.items ≡ l.initial.out.items ++ flat_map definition_line (take l.definition-index l.definitions)
