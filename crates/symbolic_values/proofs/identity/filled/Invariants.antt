use Rattle.std.proofs.Common.{◌≡◌, map, take}
use Rattle.symbolic_values.specs.Identities.{identity_of}
use Rattle.symbolic_values.proofs.identity.filled.Given as goal

abbrev pub invariant-loop-key : goal.invariant-loop-key
invariant-loop-key l = l.table.keys ≡ map identity_of (take l.key-index l.keys)
