use Rattle.std.proofs.Common.{◌+◌, ◌-◌, ◌<◌, ◌≤◌, ◌∙◌, ap, arith, length, suc, sym}
use Rattle.array_segments.specs.CommonBounds.{rows}
use Rattle.array_segments.specs.Growing.{with_more}
use Rattle.array_segments.specs.Segments.{lists_of}
use Rattle.array_segments.specs.Unifying.{common_segments, make_of}
use Rattle.array_segments.proofs.UnifySteps.{row_behind, rows_next}
use Rattle.array_segments.proofs.unifying.Sides.joined.Goals as goal

pub loop-place-preserved : goal.loop-place-preserved
loop-place-preserved g c =
    let sides = c.args.self.now in
    let under : c.loop-place.place < suc (length c.args.self.now.first.now.contents.items) = omega arith in
    let within : c.loop-place.unifying.second ≤ suc (length c.args.self.now.second.now.contents.items) = omega arith in
    let low : c.take_row-in-loop-place.new.self.first ≤ c.loop-place.place = c.in_ok-take_row-2.ensures.first in
    record {
      value =
          c.in_ok-take_row-2.ensures.value
          (rows (c.loop-place.place + 1) (suc (length c.args.self.now.first.now.contents.items) - (c.loop-place.place + 1)) (suc (length c.args.self.now.second.now.contents.items)))
          ∙ ap (with_more (lists_of c.loop-place.unifying.made))
          (row_behind g.C.Values.hull (make_of sides.merge g.C.Values.hull g.C.Values.widened) g.C.Values.full sides.pairs.now sides.end (lists_of sides.first.now) (lists_of sides.second.now)
          (record { first = c.loop-place.unifying.first; second = c.loop-place.unifying.second }) c.loop-place.place (suc (length c.args.self.now.second.now.contents.items))
          (rows (c.loop-place.place + 1) (suc (length c.args.self.now.first.now.contents.items) - (c.loop-place.place + 1)) (suc (length c.args.self.now.second.now.contents.items))) within
          ∙ ap
          (common_segments g.C.Values.hull (make_of sides.merge g.C.Values.hull g.C.Values.widened) g.C.Values.full sides.pairs.now sides.end (lists_of sides.first.now) (lists_of sides.second.now)
          (record { first = c.loop-place.unifying.first; second = c.loop-place.unifying.second }))
          (sym (rows_next c.loop-place.place (suc (length c.args.self.now.first.now.contents.items)) (suc (length c.args.self.now.second.now.contents.items)) under)))
          ∙ c.loop-place.invariant.value;
      first = omega arith;
      second = c.in_ok-take_row-2.ensures.second;
    }
