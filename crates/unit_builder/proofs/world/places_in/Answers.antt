use Rattle.std.proofs.Common.{rules, Some, None}
use Rattle.unit_builder.proofs.OrderLemmas.{found-push}
use Rattle.unit_builder.specs.Met.{place_in}
use Rattle.unit_builder.proofs.world.places_in.Goals as goal
use Rattle.unit_builder.proofs.world.places_in.Goals.{in-Some+in_ok-push, in_default}

pub loop-token-preserved : goal.loop-token-preserved
loop-token-preserved c =
    elim c.match-place.branch [
      | in-Some+in_ok-push w ↦ found-push (place_in c.args.order.now.tokens) c.args.tokens.now c.loop-token.token-index (record { 0 = 0 }) (Some w.in-Some.place) _ _ c.loop-token-test.true c.loop-token.invariant w.in-Some.ensures (search rules)
      | in_default w ↦ found-push (place_in c.args.order.now.tokens) c.args.tokens.now c.loop-token.token-index (record { 0 = 0 }) None _ _ c.loop-token-test.true c.loop-token.invariant w.in_default.ensures (search rules)
    ]
