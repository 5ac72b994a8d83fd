use Rattle.std.proofs.Common.{take}
use Rattle.std.specs.List.{AllByRecursion}
use Rattle.invariant_text.specs.Shape.{IsShort}
use Rattle.invariant_reader.proofs.constants.see_exprs.Given as goal

abbrev pub invariant-loop-e : goal.invariant-loop-e
invariant-loop-e l = AllByRecursion IsShort (take l.e-index l.exprs)
