use Rattle.std.proofs.Common.{◌≡◌, drop}
use Rattle.std.specs.Prelude.{option_and_then}
use Rattle.domain_api.specs.Order.{greater_gap}
use Rattle.pentagon_domain.specs.Gaps.{cut, greatest_sum, gap}
use Rattle.pentagon_domain.proofs.order.BoundsOrder.gap.Given as goal

-- What is known so far, and then the rest of the bounds, is the gap.
abbrev pub invariant-loop-first : goal.invariant-loop-first
invariant-loop-first l = greater_gap l.known (option_and_then cut (greatest_sum l.self (drop l.first-index l.firsts) l.t)) ≡ gap l.self l.s l.t
