use Rattle.std.proofs.Common.{◌≡◌, ◌++◌, reverse, take}
use Rattle.cil_eval.proofs.enter.put_values.Given as goal

abbrev pub invariant-loop-value : goal.invariant-loop-value
invariant-loop-value l = l.list ≡ record l.fn.list { top = reverse (take l.value-index l.values) ++ l.fn.list.top }
