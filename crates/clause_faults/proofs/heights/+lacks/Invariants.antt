use Rattle.std.proofs.Common.{◌≡◌, ◌+◌, ◌*◌, false, take}
use Rattle.std.specs.List.{list_any}
use Rattle.clause_faults.specs.SharedStacks.{lacks}
use Rattle.clause_faults.proofs.heights.+lacks.Given as goal

abbrev pub decreases-any_lacks : goal.decreases-any_lacks
decreases-any_lacks l = 2 * l.count + 1

abbrev pub decreases-lacks : goal.decreases-lacks
decreases-lacks l = 2 * l.count

abbrev pub invariant-any_lacks-loop-top : goal.invariant-any_lacks-loop-top
invariant-any_lacks-loop-top l = list_any (λ top. lacks l.count l.stacks top) (take l.top-index l.tops) ≡ false
