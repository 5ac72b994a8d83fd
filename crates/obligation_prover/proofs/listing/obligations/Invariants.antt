use Rattle.std.proofs.Common.{◌≡◌, take}
use Rattle.std.specs.List.{flat_map}
use Rattle.obligation_prover.specs.Obligations.{obligations_in}
use Rattle.obligation_prover.proofs.listing.obligations.Given as goal

abbrev pub invariant-loop-instr : goal.invariant-loop-instr
invariant-loop-instr l = l.found.items ≡ flat_map (obligations_in l.unit) (take l.instr-index l.unit.instrs)
