use Rattle.std.proofs.Common.{◌≡◌, take}
use Rattle.ensures_infer.specs.Following.{ranges_at}
use Rattle.ensures_infer.proofs.following.ranges_at.Given as goal

abbrev pub invariant-loop-state : goal.invariant-loop-state
invariant-loop-state l = l.ranges.items ≡ ranges_at (take l.state-index l.returns)
