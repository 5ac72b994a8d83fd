use Rattle.std.proofs.Common.{take, map}
use Rattle.std.specs.List.{AllByRecursion}
use Rattle.invariant_text.specs.Shape.{IsShort}
use Rattle.invariant_reader.proofs.constants.see_ends.Given as goal

abbrev pub invariant-loop-bound : goal.invariant-loop-bound
invariant-loop-bound l = AllByRecursion (AllByRecursion IsShort) (map (λ bound. bound.items) (take l.bound-index l.bounds))
