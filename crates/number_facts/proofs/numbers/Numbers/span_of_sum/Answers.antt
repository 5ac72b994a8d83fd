use Rattle.std.proofs.Common.{◌≡◌, ◌+ℤ◌, ap, to_z, of_z, rules}
use Rattle.std.specs.Int.{w128}
use Rattle.number_spans.specs.Spans.{between}
use Rattle.number_facts.specs.Additions.{all_above, sum_span, uppers}
use Rattle.number_facts.specs.Ends.{range_of}
use Rattle.number_facts.proofs.Uppers.{cut_by_both}
use Rattle.number_facts.proofs.numbers.Numbers.span_of_sum.Goals as goal

pub returns-clause-value : goal.returns-clause-value
unfolding sum_span uppers
returns-clause-value c =
    let facts = c.args.self.now in
    let r_low : to_z w128 (of_z w128 c.args.r.lo) ≡ c.args.r.lo = search rules in
    let r_high : to_z w128 (of_z w128 c.args.r.hi) ≡ c.args.r.hi = search rules in
    let q_low : to_z w128 (of_z w128 c.args.q.lo) ≡ c.args.q.lo = search rules in
    let q_high : to_z w128 (of_z w128 c.args.q.hi) ≡ c.args.q.hi = search rules in
    let low : to_z w128 (of_z w128 c.plus-2.result) ≡ c.plus-2.result = search rules in
    let high : to_z w128 (of_z w128 c.plus.result) ≡ c.plus.result = search rules in
    let once : to_z w128 (of_z w128 c.cut_by.result) ≡ c.cut_by.result = search rules in
    let twice : to_z w128 (of_z w128 c.cut_by-hi.result) ≡ c.cut_by-hi.result = search rules in
    rw (
      c.between.ensures,
      low,
      c.plus-2.ensures.value,
      r_low,
      q_low,
      twice,
      c.cut_by-hi.ensures,
      once,
      c.cut_by.ensures,
      high,
      c.plus.ensures.value,
      r_high,
      q_high,
      c.requires.first,
      c.requires.second,
    )
    (ap (between ((range_of facts c.args.a).lo +ℤ (range_of facts c.args.b).lo))
    (cut_by_both facts (all_above facts c.args.a c.args.b facts.definitions) (all_above facts c.args.b c.args.a facts.definitions)
    ((range_of facts c.args.a).hi +ℤ (range_of facts c.args.b).hi)))
