use Rattle.std.proofs.Common.{◌+◌, ◌≤◌, ◌<◌, ap, sym, ◌∙◌, arith, length, set}
use Rattle.array_segments.specs.Storing.{changed_between}
use Rattle.array_segments.proofs.StoreSteps.{added_more}
use Rattle.array_segments.proofs.store.add_between.Goals as goal

pub loop-place-preserved : goal.loop-place-preserved
loop-place-preserved g c =
    let hull = g.C.Values.hull in
    let value = c.args.value.now in
    let contents = c.loop-place.contents in
    let place = c.loop-place.place in
    let under : place < c.args.to = omega arith in
    let within : c.args.to ≤ length contents = omega arith in
    ap (λ x. changed_between (λ content. hull content value) (place + 1) c.args.to (set contents place x)) (c.hull.ensures ∙ ap (λ x. hull x value) (sym c.index-contents-place.is))
    ∙ added_more hull value place c.args.to contents c.index-contents-place.result under within c.index-contents-place.is
    ∙ c.loop-place.invariant
