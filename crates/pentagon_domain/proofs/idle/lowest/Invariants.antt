use Rattle.std.proofs.Common.{◌≡◌, ◌≢◌, ℕ, ◌<◌, true, None, get_or}
use Rattle.pentagon_domain.specs.Most.{IsLow, is_reached}
use Rattle.pentagon_domain.proofs.idle.lowest.Given as goal

abbrev pub invariant-loop-place : goal.invariant-loop-place
invariant-loop-place l = (t : ℕ) → t < l.place → t ≢ l.s → is_reached l.bounds t ≡ true → IsLow l.low (get_or l.gaps t None)
