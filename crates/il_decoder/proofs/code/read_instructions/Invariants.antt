use Rattle.std.proofs.Common.{◌-◌, length}
use Rattle.il_decoder.proofs.Reading.{AreRead}
use Rattle.il_decoder.proofs.code.read_instructions.Given as goal

abbrev pub invariant-loop-at : goal.invariant-loop-at
invariant-loop-at l = AreRead l.code l.instrs.items l.at

abbrev pub decreases-loop-at : goal.decreases-loop-at
decreases-loop-at l = length l.code - l.at
