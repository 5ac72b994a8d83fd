use Rattle.std.proofs.Common.{◌≡◌, ◌-◌, length, vec_len}
use Rattle.asm_image.specs.Rows.{methods_of}
use Rattle.unit_builder.specs.Walks.{IsWalk}
use Rattle.unit_builder.proofs.reach.walk.Given as goal

abbrev pub invariant-visit : goal.invariant-visit
invariant-visit l =
    (l.units ≡ l.initial.units)
    × (l.met.count ≡ length (methods_of l.initial.units))
    × IsWalk l.initial.units l.fn.from.0 l.met.tokens l.visits.items

abbrev pub decreases-visit : goal.decreases-visit
decreases-visit l = l.met.count - vec_len l.visits
