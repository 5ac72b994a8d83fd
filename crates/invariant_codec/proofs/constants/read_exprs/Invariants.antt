use Rattle.std.proofs.Common.{take}
use Rattle.std.specs.List.{AllByRecursion}
use Rattle.invariant_codec.specs.Spellable.{IsShort}
use Rattle.invariant_codec.proofs.constants.read_exprs.Given as goal

abbrev pub invariant-loop-e : goal.invariant-loop-e
invariant-loop-e l = AllByRecursion IsShort (take l.e-index l.exprs)
