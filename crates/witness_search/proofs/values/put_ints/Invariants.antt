use Rattle.std.proofs.Common.{◌≡◌, ◌++◌, map, take}
use Rattle.cil_model.specs.declared.arg.Arg.TheVariants as args
use Rattle.witness_search.proofs.values.put_ints.Given as goal

abbrev pub invariant-loop-number : goal.invariant-loop-number
invariant-loop-number l = l.values.items ≡ l.initial.values.items ++ map args.Int (take l.number-index l.numbers)
