use Rattle.std.proofs.Common.{◌≡◌, ◌++◌, map, take}
use Rattle.cil_model.specs.declared.arg.Arg.TheVariants as args
use Rattle.witness_search.proofs.values.put_int_arrays.Given as goal

abbrev pub invariant-loop-items : goal.invariant-loop-items
invariant-loop-items l = l.values.items ≡ l.initial.values.items ++ map (λ items. args.Ints items.now) (take l.items-index l.arrays)
