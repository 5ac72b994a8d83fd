use Rattle.std.proofs.Common.{◌≡◌, ℕ, ◌<◌, None, get_or, length, drop}
use Rattle.domain_api.specs.Order.{greater_gap}
use Rattle.pentagon_domain.specs.Reach.{reach}
use Rattle.pentagon_domain.proofs.gaps.raise_all.Given as goal

-- What was raised so far, and then the rest of the rows, is the whole.
abbrev pub invariant-loop-row : goal.invariant-loop-row
invariant-loop-row l = (t : ℕ) → t < length l.gaps
    → greater_gap (get_or l.gaps t None) (reach l.k (drop l.row-index l.rows) t) ≡ greater_gap (get_or l.initial.gaps t None) (reach l.k l.rows t)
