use Rattle.std.proofs.Common.{◌≡◌, map}
use Rattle.cil_model.specs.Opcodes.{target}
use Rattle.il_decoder.specs.Decoding.{offsets_in}
use Rattle.il_decoder.proofs.instruction.read_targets.Given as goal

abbrev pub invariant-loop-index : goal.invariant-loop-index
invariant-loop-index l = l.targets.items ≡ map (target l.next) (offsets_in l.index l.offsets)
