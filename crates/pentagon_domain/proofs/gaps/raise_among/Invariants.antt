use Rattle.std.proofs.Common.{◌≡◌, ℕ, ◌<◌, None, get_or, length, drop}
use Rattle.domain_api.specs.Order.{greater_gap}
use Rattle.pentagon_domain.specs.Reach.{reach}
use Rattle.pentagon_domain.specs.Rows.{rows_from}
use Rattle.pentagon_domain.proofs.gaps.raise_among.Given as goal

-- What was raised so far, and then the rest of the rows, is the whole.
abbrev pub invariant-loop-next : goal.invariant-loop-next
invariant-loop-next l = (t : ℕ) → t < length l.gaps
    → greater_gap (get_or l.gaps t None) (reach l.first.k (rows_from (drop l.next-index l.rows) l.first.t) t)
    ≡ greater_gap (get_or l.initial.gaps t None) (reach l.first.k (rows_from l.rows l.first.t) t)
