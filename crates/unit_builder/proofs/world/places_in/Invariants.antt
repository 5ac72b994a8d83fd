use Rattle.std.proofs.Common.{◌≡◌, take}
use Rattle.unit_builder.specs.WorldOf.{places_in}
use Rattle.unit_builder.specs.Walks.{numbers}
use Rattle.unit_builder.proofs.world.places_in.Given as goal

abbrev pub invariant-loop-token : goal.invariant-loop-token
invariant-loop-token l = l.places.items ≡ places_in l.order.tokens (numbers (take l.token-index l.tokens))
