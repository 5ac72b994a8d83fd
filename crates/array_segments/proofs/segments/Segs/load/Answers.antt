use Rattle.std.proofs.Common.{subst, sym, ap, ◌∙◌}
use Rattle.array_segments.specs.Loading.{hull_between, stop_from}
use Rattle.array_segments.specs.Meaning.{item}
use Rattle.array_segments.specs.Segments.{lists_of}
use Rattle.array_segments.proofs.Laws.{load_law}
use Rattle.array_segments.proofs.segments.Segs.load.Goals as goal

pub returns-clause-value : goal.returns-clause-value
returns-clause-value g c =
    let lists = lists_of c.args.self.now in
    let gap = g.O.Order.gap c.args.order.now in
    let from = c.start-start.ensures.value in
    let to = c.stop-stop.ensures.value ∙ ap (stop_from gap lists c.args.at) from in
    c.hull_between.ensures ∙ (λ i. hull_between g.C.Values.hull g.C.Values.full lists.contents (from i) (to i))

pub returns-clause-sound : goal.returns-clause-sound
returns-clause-sound g c = λ number items index allows holds is.
    subst (λ content. g.C.Values.contains content (item items index)) (sym (returns-clause-value g c))
    (load_law g.C.Values.contains g.C.Values.hull g.C.Values.full g.met.C.Values.hull_left g.met.C.Values.hull_right (g.O.Order.gap c.args.order.now) number
    (λ s t k known. g.met.O.Order.gap_allowed c.args.order.now number s t k known allows)
    c.args.at items index is.same is.below (lists_of c.args.self.now) c.requires.form holds)
