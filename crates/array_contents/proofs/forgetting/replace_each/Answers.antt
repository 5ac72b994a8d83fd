use Rattle.std.proofs.Common.{◌<◌, ◌≤◌, length, map, min, get_or, arith, refl, sym, ◌∙◌, length-set}
use Rattle.std.proofs.lemmas.List.{length-map}
use Rattle.std.specs.Option.{option_map}
use Rattle.array_segments.specs.Segments.{lists_of}
use Rattle.array_contents.proofs.EachSteps.{either_past, replaced_end, replaced_more}
use Rattle.array_contents.proofs.forgetting.replace_each.Goals as goal

pub loop-place-preserved : goal.loop-place-preserved
loop-place-preserved c =
    let segments = c.loop-place.segments in
    let fresh = c.loop-place.fresh.items in
    let place = c.loop-place.place in
    let kept = c.loop-place.invariant.kept in
    let below : place < length fresh = omega arith in
    let under : place < length segments = omega arith in
    record {
      kept = length-set fresh place c.take.new.self ∙ c.loop-place.invariant.kept;
      done =
          replaced_more fresh segments place c.take.result c.take.new.self _
          (get_or segments place c.index-segments-place.result) c.replace_one.new.one c.index-segments-place.result below under
          (c.take.ensures.value ∙ c.index_mut.ensures.value) refl c.replace_one.ensures
          ∙ c.loop-place.invariant.done;
    }

pub returns : goal.returns
returns c =
    let segments = c.loop-place.segments in
    let fresh = c.loop-place.fresh.items in
    let place = c.loop-place.place in
    let kept = c.loop-place.invariant.kept in
    let count = length-map segments lists_of in
    let many = length-map fresh (option_map lists_of) in
    let past : min (length (map lists_of segments)) (length (map (option_map lists_of) fresh)) ≤ place = omega arith in
    sym (replaced_end (map (option_map lists_of) fresh) (map lists_of segments) place
    (either_past (length (map lists_of segments)) (length (map (option_map lists_of) fresh)) place past))
    ∙ c.loop-place.invariant.done
