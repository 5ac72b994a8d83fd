use Rattle.std.proofs.Common.{◌≡◌, map, drop}
use Rattle.array_segments.specs.Segments.{lists_of}
use Rattle.array_contents.specs.Merging.{included}
use Rattle.array_contents.proofs.contents.Contents.includes_each.Given as goal

abbrev pub invariant-loop-place : goal.invariant-loop-place
invariant-loop-place g l =
    included (g.O.Order.gap l.order) l.names l.self (drop l.place l.bound) (map lists_of (drop l.place l.others))
    ≡ included (g.O.Order.gap l.order) l.names l.self l.bound (map lists_of l.others)
