use Rattle.std.proofs.Common.{ap, set, subst, sym, ◌∙◌}
use Rattle.array_segments.specs.Loading.{start, stop}
use Rattle.array_segments.specs.Meaning.{Holds}
use Rattle.array_segments.specs.SegmentLists.{last_bound}
use Rattle.array_segments.specs.Segments.{lists_of}
use Rattle.array_segments.proofs.ClauseLaws.{grown_law}
use Rattle.array_segments.proofs.EndLaw.{last_added}
use Rattle.array_segments.proofs.Laws.{weak_law_same}
use Rattle.array_segments.proofs.segments.Segs.weak_store.Goals as goal

pub returns-clause-ends : goal.returns-clause-ends
returns-clause-ends g c =
    ap last_bound c.add_at.ensures.value ∙ last_added g.C.Values.hull (g.O.Order.gap c.args.order.now) (lists_of c.args.self.now) c.args.at c.args.value

pub returns-clause-keeps : goal.returns-clause-keeps
returns-clause-keeps g c = λ number items index n allows holds is has.
    subst (Holds g.C.Values.contains number (set items index n)) (sym c.add_at.ensures.value)
    (weak_law_same g.C.Values.contains g.C.Values.hull g.C.Values.full g.met.C.Values.hull_left g.met.C.Values.hull_right (g.O.Order.gap c.args.order.now) number
    (λ s t k known. g.met.O.Order.gap_allowed c.args.order.now number s t k known allows)
    c.args.at items index is.same is.below (lists_of c.args.self.now) c.args.value n has c.requires.form holds)

pub returns-clause-keeps_other : goal.returns-clause-keeps_other
returns-clause-keeps_other g c = λ number items holds.
    let lists = lists_of c.args.self.now in
    let gap = g.O.Order.gap c.args.order.now in
    subst (Holds g.C.Values.contains number items) (sym c.add_at.ensures.value)
    (grown_law g.C.Values.contains number items g.C.Values.hull g.met.C.Values.hull_left lists c.args.value (start gap lists c.args.at) (stop gap lists c.args.at) holds)
