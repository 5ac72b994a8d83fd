use Rattle.std.proofs.Common.{◌<◌, ◌∷◌, [], ◌+◌, arith, drop, length, sym, ◌∙◌}
use Rattle.std.proofs.lemmas.List.{length-map}
use Rattle.array_segments.specs.Meaning.{segments_of}
use Rattle.array_segments.specs.Segments.{lists_of}
use Rattle.array_segments.proofs.NameSteps.{read_mapped, segment_at}
use Rattle.array_segments.proofs.segments.Segs.segment.Goals as goal

pub returns-clause-value : goal.returns-clause-value
returns-clause-value g c =
    let segs = c.args.self.now in
    segment_at (λ bound. bound.items) segs.bounds.items segs.contents.items segs.marks.items c.args.place c.index.result.now c.index-2.result.now c.index-3.result.now
    c.requires.place c.requires.form.bounded c.requires.form.marked (length-map segs.bounds.items (λ bound. bound.items)) c.index.ensures c.index-2.ensures c.index-3.ensures
    ∙ (λ i. record { content = c.index.result.now; may_be_empty = c.index-2.result.now; upper = sym c.deref.ensures.value i } ∷ drop (c.args.place + 1) (segments_of (lists_of segs)))

pub returns-clause-upper : goal.returns-clause-upper
returns-clause-upper g c =
    let bounds = c.args.self.now.bounds.items in
    let count = length-map bounds (λ bound. bound.items) in
    let bounded = c.requires.form.bounded in
    let place = c.requires.place in
    let inside : c.args.place + 1 < length bounds = omega arith in
    c.deref.ensures.value ∙ sym (read_mapped (λ bound. bound.items) bounds (c.args.place + 1) c.index-3.result.now [] inside c.index-3.ensures)
