use Rattle.std.proofs.Common.{◌+◌, drop, ap, sym, ◌∙◌}
use Rattle.std.proofs.lemmas.List.{at_drop_more}
use Rattle.transfer_rules.specs.Entry.{with_unknown}
use Rattle.transfer_rules.proofs.entry.push_unknown.Goals as goal

pub loop-place-preserved : goal.loop-place-preserved
loop-place-preserved c =
    c.loop-place.invariant
    ∙ at_drop_more (λ ps. with_unknown ps c.loop-place.state) c.args.places.now c.loop-place.place-index _
    c.loop-place-test.true
    ∙ ap (with_unknown (drop (c.loop-place.place-index + 1) c.args.places.now)) (sym c.in_ok-push_unknown.ensures.ok)
