use Rattle.std.proofs.Common.{◌≡◌, ◌++◌, take}
use Rattle.std.specs.List.{flat_map}
use Rattle.invariant_codec.specs.Spelling.{definition_bytes}
use Rattle.invariant_codec.proofs.put_symbols.put_each_definition.Given as goal

abbrev pub invariant-loop-definition : goal.invariant-loop-definition
invariant-loop-definition l = l.out.items ≡ l.initial.out.items
    ++ flat_map definition_bytes (take l.definition-index l.definitions)
