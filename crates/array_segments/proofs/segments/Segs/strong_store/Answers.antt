use Rattle.std.proofs.Common.{ap, set, subst, sym, ◌∙◌}
use Rattle.array_segments.specs.Counted.{IsCounted}
use Rattle.array_segments.specs.SegmentLists.{HasForm, last_bound}
use Rattle.array_segments.specs.Segments.{lists_of}
use Rattle.array_segments.specs.Storing.{limited}
use Rattle.array_segments.proofs.EndLaw.{last_stored}
use Rattle.array_segments.proofs.LimitLaw.{limited_form}
use Rattle.array_segments.proofs.StoreSteps.{replaced_counted, replaced_is}
use Rattle.array_segments.specs.Meaning.{Holds}
use Rattle.array_segments.proofs.Laws.{strong_law}
use Rattle.array_segments.proofs.segments.Segs.strong_store.Goals as goal

pub keep_limit-requires : goal.keep_limit-requires
keep_limit-requires g c =
    let gap = g.O.Order.gap c.args.order.now in
    let lists = lists_of c.args.self.now in
    let touched = c.touched-touched.result in
    let are = c.touched-touched.ensures in
    subst IsCounted
    (sym (c.in_ok-replace.ensures.value
    ∙ replaced_is g.C.Values.hull g.C.Values.full gap lists c.args.at c.args.value touched.from touched.to touched.left touched.right touched.left_mark touched.right_mark
    are.from are.to are.left are.right are.left_mark are.right_mark))
    (replaced_counted g.C.Values.hull g.C.Values.full gap lists c.args.at c.args.value c.requires.form)

pub returns-clause-value : goal.returns-clause-value
returns-clause-value g c =
    let gap = g.O.Order.gap c.args.order.now in
    let lists = lists_of c.args.self.now in
    let touched = c.touched-touched.result in
    let are = c.touched-touched.ensures in
    c.keep_limit.ensures
    ∙ (λ i. limited g.C.Values.hull ((c.in_ok-replace.ensures.value
    ∙ replaced_is g.C.Values.hull g.C.Values.full gap lists c.args.at c.args.value touched.from touched.to touched.left touched.right touched.left_mark touched.right_mark
    are.from are.to are.left are.right are.left_mark are.right_mark) i))

pub returns-clause-form : goal.returns-clause-form
returns-clause-form g c =
    let gap = g.O.Order.gap c.args.order.now in
    let lists = lists_of c.args.self.now in
    let touched = c.touched-touched.result in
    let are = c.touched-touched.ensures in
    subst HasForm (sym c.keep_limit.ensures)
    (limited_form g.C.Values.hull (lists_of c.replace.new.self)
    (subst IsCounted
    (sym (c.in_ok-replace.ensures.value
    ∙ replaced_is g.C.Values.hull g.C.Values.full gap lists c.args.at c.args.value touched.from touched.to touched.left touched.right touched.left_mark touched.right_mark
    are.from are.to are.left are.right are.left_mark are.right_mark))
    (replaced_counted g.C.Values.hull g.C.Values.full gap lists c.args.at c.args.value c.requires.form)))

pub returns-clause-ends : goal.returns-clause-ends
returns-clause-ends g c =
    ap last_bound (returns-clause-value g c)
    ∙ last_stored g.C.Values.hull g.C.Values.full (g.O.Order.gap c.args.order.now) (lists_of c.args.self.now) c.args.at c.args.value c.requires.form

pub returns-clause-keeps : goal.returns-clause-keeps
returns-clause-keeps g c = λ number items index n allows holds is has.
    subst (Holds g.C.Values.contains number (set items index n)) (sym (returns-clause-value g c))
    (strong_law g.C.Values.contains g.C.Values.hull g.C.Values.full g.met.C.Values.hull_left g.met.C.Values.hull_right (g.O.Order.gap c.args.order.now) number
    (λ s t k known. g.met.O.Order.gap_allowed c.args.order.now number s t k known allows)
    c.args.at items index is.same is.below (lists_of c.args.self.now) c.args.value n has c.requires.form holds)
