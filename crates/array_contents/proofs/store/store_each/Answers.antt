use Rattle.std.proofs.Common.{◌<◌, ◌≤◌, false, length, map, min, get_or, arith, refl, sym, ◌∙◌}
use Rattle.std.proofs.lemmas.List.{length-map}
use Rattle.array_segments.specs.SegmentLists.{HasForm}
use Rattle.array_segments.specs.Segments.{lists_of}
use Rattle.array_contents.proofs.AtSteps.{seen_there}
use Rattle.array_contents.proofs.EachSteps.{either_past}
use Rattle.array_contents.proofs.StoringSteps.{form_set, weakly_end, weakly_more}
use Rattle.array_contents.proofs.store.store_each.Goals as goal

pub store_if-requires : goal.store_if-requires
store_if-requires g c =
    let below : c.loop-place.place < length c.loop-place.segments = omega arith in
    record {
      form = seen_there HasForm lists_of c.loop-place.segments c.loop-place.place c.index-segments-place.result
          c.loop-place.invariant.form below;
    }

pub loop-place-preserved : goal.loop-place-preserved
loop-place-preserved g c =
    let segments = c.loop-place.segments in
    let place = c.loop-place.place in
    let others = c.args.others.now in
    let below : place < length others = omega arith in
    let under : place < length segments = omega arith in
    record {
      form = form_set lists_of segments place c.store_if.new.one c.store_if.ensures.form c.loop-place.invariant.form;
      done =
          weakly_more (g.O.Order.gap c.args.order.now) c.args.at c.args.value lists_of others segments place
          (get_or others place false) false (get_or segments place c.index-segments-place.result) c.store_if.new.one
          c.index-segments-place.result below under refl refl c.store_if.ensures.value
          ∙ c.loop-place.invariant.done;
    }

pub returns-clause-value : goal.returns-clause-value
returns-clause-value g c =
    let segments = c.loop-place.segments in
    let place = c.loop-place.place in
    let others = c.args.others.now in
    let count = length-map segments lists_of in
    let past : min (length (map lists_of segments)) (length others) ≤ place = omega arith in
    sym (weakly_end (g.O.Order.gap c.args.order.now) c.args.at c.args.value others (map lists_of segments) place
    (either_past (length (map lists_of segments)) (length others) place past))
    ∙ c.loop-place.invariant.done
