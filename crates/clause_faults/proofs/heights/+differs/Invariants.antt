use Rattle.std.proofs.Common.{◌≡◌, ◌+◌, ◌*◌, false, take}
use Rattle.std.specs.List.{list_any}
use Rattle.clause_faults.specs.SharedStacks.{differs}
use Rattle.clause_faults.proofs.heights.+differs.Given as goal

abbrev pub decreases-any_differs : goal.decreases-any_differs
decreases-any_differs l = 2 * l.count + 1

abbrev pub decreases-differs : goal.decreases-differs
decreases-differs l = 2 * l.count

abbrev pub invariant-any_differs-loop-top : goal.invariant-any_differs-loop-top
invariant-any_differs-loop-top l = list_any (λ top. differs l.count l.stacks top) (take l.top-index l.tops) ≡ false
