use Rattle.std.proofs.Common.{take, map}
use Rattle.std.specs.List.{AllByRecursion}
use Rattle.invariant_codec.specs.Spellable.{IsShort}
use Rattle.invariant_codec.proofs.constants.read_bounds.Given as goal

abbrev pub invariant-loop-bound : goal.invariant-loop-bound
invariant-loop-bound l = AllByRecursion (AllByRecursion IsShort) (map (λ bound. bound.items) (take l.bound-index l.bounds))
