use Rattle.std.proofs.Common.{◌≡◌, ℕ, ◌<◌, None, get_or}
use Rattle.pentagon_domain.proofs.gaps.clear.Given as goal

abbrev pub invariant-loop-gap : goal.invariant-loop-gap
invariant-loop-gap l = (t : ℕ) → t < l.gap-index → get_or l.gaps t None ≡ None
