-- Symbols by the place of their range.
use Rattle.std.proofs.Common.{◌≡◌, ◌≢◌, ℕ, zero, suc, ◌-◌, pos, get_or, refl, ap, arith, Some, None}
use Rattle.std.specs.Prelude.{set}
use Rattle.interval_domain.specs.Interval.{Interval, one}
use Rattle.number_facts.specs.Assume.{changed}
use Rattle.number_facts.specs.Facts.{Facts, range_at}

back : (s : ℕ) → s ≡ suc s - 1
back s = omega arith

pub range_at_place : (facts : Facts) (s : ℕ) → s ≢ 0 → range_at facts s ≡ get_or facts.ranges (s - 1) (one (pos 0))
unfolding range_at
range_at_place facts zero other = elim (other refl) [ ]
range_at_place facts (suc s) other = ap (λ k. get_or facts.ranges k (one (pos 0))) (back s)

pub changed_none : (facts : Facts) (s : ℕ) → s ≢ 0 → changed facts s None ≡ None
unfolding changed
changed_none facts zero other = elim (other refl) [ ]
changed_none facts (suc s) other = refl

pub changed_some : (facts : Facts) (s : ℕ) (r : Interval) → s ≢ 0 → changed facts s (Some r) ≡ Some (record facts { ranges = set facts.ranges (s - 1) r })
unfolding changed
changed_some facts zero r other = elim (other refl) [ ]
changed_some facts (suc s) r other = ap (λ k. Some (record facts { ranges = set facts.ranges k r })) (back s)

pub ruleset stored_at = (range_at_place)

pub ruleset changes = (changed_none, changed_some)
