use Rattle.std.proofs.Common.{◌+◌, ◌-◌, ◌++◌, ◌<◌, ◌≤◌, ◌∙◌, ap, arith, length, suc, sym}
use Rattle.array_segments.specs.CommonBounds.{row}
use Rattle.array_segments.specs.Growing.{with_more}
use Rattle.array_segments.specs.Segments.{lists_of}
use Rattle.array_segments.specs.Unifying.{common_segments, make_of}
use Rattle.array_segments.proofs.UnifySteps.{row_done, row_more}
use Rattle.array_segments.proofs.unifying.Unifying.take_row.Goals as goal

pub loop-second-preserved : goal.loop-second-preserved
loop-second-preserved g c =
    let sides = c.args.sides.now in
    let under : c.loop-second.second < suc (length c.args.sides.now.second.now.contents.items) = omega arith in
    let low : c.take.new.self.first ≤ c.args.first = c.in_ok-take.ensures.first in
    let high : c.take.new.self.second ≤ c.loop-second.second = c.in_ok-take.ensures.second in
    record {
      value = λ rest.
          c.in_ok-take.ensures.value (row c.args.first (c.loop-second.second + 1) (suc (length c.args.sides.now.second.now.contents.items) - (c.loop-second.second + 1)) ++ rest)
          ∙ ap
          (λ places. with_more (lists_of c.loop-second.self.made) (common_segments g.C.Values.hull (make_of sides.merge g.C.Values.hull g.C.Values.widened) g.C.Values.full sides.pairs.now sides.end
          (lists_of sides.first.now) (lists_of sides.second.now) (record { first = c.loop-second.self.first; second = c.loop-second.self.second }) places))
          (sym (row_more c.args.first c.loop-second.second (suc (length c.args.sides.now.second.now.contents.items)) rest under))
          ∙ c.loop-second.invariant.value rest;
      first = low;
      second = omega arith;
      inside = omega arith;
    }

pub returns-clause-value : goal.returns-clause-value
returns-clause-value g c = λ rest.
    let sides = c.args.sides.now in
    let past : suc (length c.args.sides.now.second.now.contents.items) ≤ c.loop-second.second = omega arith in
    ap
    (λ places. with_more (lists_of c.loop-second.self.made) (common_segments g.C.Values.hull (make_of sides.merge g.C.Values.hull g.C.Values.widened) g.C.Values.full sides.pairs.now sides.end
    (lists_of sides.first.now) (lists_of sides.second.now) (record { first = c.loop-second.self.first; second = c.loop-second.self.second }) places))
    (sym (row_done c.args.first c.loop-second.second (suc (length c.args.sides.now.second.now.contents.items)) rest past))
    ∙ c.loop-second.invariant.value rest
