use Rattle.std.proofs.Common.{◌+◌, ◌≡◌, drop, ap, sym, ◌∙◌, arith}
use Rattle.std.proofs.lemmas.List.{at_drop_more}
use Rattle.contract_calls.specs.Arguments.{put_from}
use Rattle.contract_calls.proofs.arguments.put_from.Goals as goal

pub loop-place-preserved : goal.loop-place-preserved
loop-place-preserved c =
    let at : c.loop-place.i ≡ c.args.first + c.loop-place.place-index = c.loop-place.invariant.1 in
    let rest = drop (c.loop-place.place-index + 1) c.args.places.now in (
      c.loop-place.invariant.0 ∙ at_drop_more (λ ps. put_from c.loop-place.i ps c.loop-place.state) c.args.places.now
          c.loop-place.place-index _ c.loop-place-test.true
          ∙ ap (put_from (c.loop-place.i + 1) rest) (sym c.in_ok-put_slot.ensures),
      omega (arith, at),
    )
