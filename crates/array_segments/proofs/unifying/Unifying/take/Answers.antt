use Rattle.std.proofs.Common.{◌∷◌, [], ◌<◌, ◌∙◌, ap, arith, length}
use Rattle.array_segments.specs.CommonBounds.{paired_at}
use Rattle.array_segments.specs.Growing.{with_more}
use Rattle.array_segments.specs.Segments.{lists_of}
use Rattle.array_segments.specs.Unifying.{common_segments, make_of}
use Rattle.array_segments.proofs.UnifySteps.{place_some, some_there}
use Rattle.array_segments.proofs.unifying.Unifying.take.Goals as goal

pub returns-clause-value : goal.returns-clause-value
returns-clause-value g c = λ rest.
    let sides = c.args.sides.now in
    let some : 0 < length c.in_ok-bound.bound.items = (let n : 0 < c.in_ok-bound.bound.len = some_there c.in_ok-bound.bound.len c.if-is_empty.ensures in omega (arith, c.in_ok-bound.bound.ok)) in
    ap
    (λ lists. with_more lists (common_segments g.C.Values.hull (make_of sides.merge g.C.Values.hull g.C.Values.widened) g.C.Values.full sides.pairs.now sides.end
    (lists_of sides.first.now) (lists_of sides.second.now) (record { first = c.args.first; second = c.args.second }) rest))
    (c.in_ok-add.ensures
    ∙ (λ i. with_more (lists_of c.args.self.now.made) (record { content = c.content-content.ensures i; may_be_empty = c.mark-mark.ensures i; upper = c.in_ok-bound.bound.items } ∷ [])))
    ∙ place_some g.C.Values.hull (make_of sides.merge g.C.Values.hull g.C.Values.widened) g.C.Values.full sides.pairs.now sides.end
    (lists_of sides.first.now) (lists_of sides.second.now) (lists_of c.args.self.now.made) (record { first = c.args.self.now.first; second = c.args.self.now.second })
    (record { first = c.args.first; second = c.args.second }) c.in_ok-bound.bound.items rest c.requires.other_rises
    (c.in_ok-bound.ensures ∙ ap (λ must. paired_at sides.pairs.now (lists_of sides.first.now) (lists_of sides.second.now) must c.args.first c.args.second) c.must_at-must.ensures) some
