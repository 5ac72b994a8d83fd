use Rattle.std.proofs.Common.{◌≡◌, ◌++◌, take}
use Rattle.std.specs.List.{flat_map}
use Rattle.invariant_text.specs.ReferenceLines.{apart_line}
use Rattle.invariant_text.proofs.references.put_apart.Given as goal

abbrev pub invariant-loop-pair : goal.invariant-loop-pair
invariant-loop-pair l = l.out.items ≡ l.initial.out.items ++ flat_map apart_line (take l.pair-index l.pairs)
