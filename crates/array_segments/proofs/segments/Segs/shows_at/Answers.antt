use Rattle.std.proofs.Common.{◌<◌, ◌+◌, ◌&&◌, [], arith, ap, drop, get_or, length, sym, ◌∙◌}
use Rattle.std.proofs.lemmas.List.{length-map}
use Rattle.array_segments.specs.Inclusion.{all_shown, is_shown}
use Rattle.array_segments.specs.Meaning.{segments_of}
use Rattle.array_segments.specs.Segments.{lists_of}
use Rattle.array_segments.proofs.NameSteps.{read_mapped}
use Rattle.array_segments.proofs.segments.Segs.shows_at.Goals as goal

pub returns : goal.returns
returns g c =
    let within = g.C.Values.within in
    let gap = g.O.Order.gap c.args.order.now in
    let names = c.args.names.now in
    let mine = lists_of c.args.self.now in
    let other = lists_of c.args.other.now in
    let bounds = c.args.other.now.bounds.items in
    let count = length-map bounds (λ bound. bound.items) in
    let bounded = c.requires.other.bounded in
    let below = c.requires.place in
    let inside : c.args.place < length bounds = omega arith in
    let low = c.as_slice-low.ensures.value ∙ sym (read_mapped (λ bound. bound.items) bounds c.args.place c.index.result.now [] inside c.index.ensures) in
    let segment = c.segment-segment.result in
    ap (all_shown within gap names mine (get_or other.bounds c.args.place [])) c.segment-segment.ensures.value
    ∙ (λ i. ((λ j. is_shown within gap names mine (sym low j) (record { content = segment.content; may_be_empty = segment.mark; upper = segment.upper.now })) ∙ sym c.shows.ensures) i
    && all_shown within gap names mine (c.segment-segment.ensures.upper i) (drop (c.args.place + 1) (segments_of other)))
