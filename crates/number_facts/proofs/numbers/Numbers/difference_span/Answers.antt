use Rattle.std.proofs.Common.{◌≡◌, refl, to_z, of_z, rules}
use Rattle.std.specs.Int.{w128}
use Rattle.number_facts.specs.Additions.{difference_span}
use Rattle.number_facts.proofs.numbers.Numbers.difference_span.Goals as goal

pub returns-clause-value : goal.returns-clause-value
unfolding difference_span
returns-clause-value c =
    let r_low : to_z w128 (of_z w128 c.small_range_of-r.result.lo) ≡ c.small_range_of-r.result.lo = search rules in
    let r_high : to_z w128 (of_z w128 c.small_range_of-r.result.hi) ≡ c.small_range_of-r.result.hi = search rules in
    let q_low : to_z w128 (of_z w128 c.small_range_of-q.result.lo) ≡ c.small_range_of-q.result.lo = search rules in
    let q_high : to_z w128 (of_z w128 c.small_range_of-q.result.hi) ≡ c.small_range_of-q.result.hi = search rules in
    let more : to_z w128 (of_z w128 c.constants_apart-more.result) ≡ c.constants_apart-more.result = search rules in
    let low : to_z w128 (of_z w128 c.minus.result) ≡ c.minus.result = search rules in
    let high : to_z w128 (of_z w128 c.minus-2.result) ≡ c.minus-2.result = search rules in
    let raised : to_z w128 (of_z w128 c.raised_by_gap-lo.result) ≡ c.raised_by_gap-lo.result = search rules in
    let lowered : to_z w128 (of_z w128 c.lowered_by_gap-hi.result) ≡ c.lowered_by_gap-hi.result = search rules in
    rw (
      c.between.ensures,
      raised,
      lowered,
      c.raised_by_gap-lo.ensures.value,
      c.lowered_by_gap-hi.ensures,
      more,
      low,
      high,
      c.minus.ensures.value,
      c.minus-2.ensures.value,
      r_low,
      r_high,
      q_low,
      q_high,
      c.gap.ensures,
      c.gap-2.ensures,
      c.constants_apart-more.ensures.value,
      c.small_range_of-r.ensures.value,
      c.small_range_of-q.ensures.value,
    )
    refl
