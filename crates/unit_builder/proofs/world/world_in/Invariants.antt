use Rattle.std.proofs.Common.{◌≡◌, length, take, filter_map}
use Rattle.unit_builder.specs.WorldOf.{places_made, unit_made}
use Rattle.unit_builder.specs.Walks.{numbers}
use Rattle.unit_builder.proofs.MadeLemmas.{AreLeft}
use Rattle.unit_builder.proofs.world.world_in.Given as goal

abbrev pub invariant-loop-token : goal.invariant-loop-token
invariant-loop-token l =
    (length l.visits.items ≡ length l.fn.reached.met.tokens)
    × (l.units.items ≡ filter_map (unit_made l.fn.reached.met.tokens l.fn.reached.visits.items) (numbers (take l.token-index l.tokens)))
    × (l.callee.items ≡ filter_map (places_made l.order.tokens l.fn.reached.met.tokens l.fn.reached.visits.items) (numbers (take l.token-index l.tokens)))
    × AreLeft l.fn.reached.met.tokens l.fn.reached.visits.items l.visits.items l.tokens l.token-index
