use Rattle.std.proofs.Common.{◌≡◌, ◌≢◌, ℕ, ◌<◌, true, None, get_or, length, drop}
use Rattle.std.specs.Prelude.{option_and_then}
use Rattle.domain_api.specs.Order.{greater_gap}
use Rattle.pentagon_domain.specs.Gaps.{cut, greatest_sum}
use Rattle.pentagon_domain.specs.Most.{IsLow, is_reached}
use Rattle.pentagon_domain.proofs.bounds.Bounds.raise_behind.Given as goal

-- What was raised so far, and then the rest of the bounds, is the whole, and no gap sank below the lowest one.
abbrev pub invariant-loop-first : goal.invariant-loop-first
invariant-loop-first l = record {
  so_far : (t : ℕ) → t < length l.gaps → t ≢ l.s
      → greater_gap (get_or l.gaps t None) (option_and_then cut (greatest_sum l.self (drop l.first-index l.firsts) t))
      ≡ greater_gap (get_or l.initial.gaps t None) (option_and_then cut (greatest_sum l.self l.firsts t));
  low : (t : ℕ) → t < length l.gaps → t ≢ l.s → is_reached l.self t ≡ true → IsLow l.low (get_or l.gaps t None);
}
