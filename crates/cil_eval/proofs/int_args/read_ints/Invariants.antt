use Rattle.std.proofs.Common.{take}
use Rattle.std.specs.Prelude.{FitsSigned}
use Rattle.std.specs.Int.{w32}
use Rattle.std.specs.List.{AllByRecursion}
use Rattle.cil_eval.proofs.int_args.read_ints.Given as goal

abbrev pub invariant-loop-item : goal.invariant-loop-item
invariant-loop-item l = AllByRecursion (FitsSigned w32) (take l.item-index l.items)
