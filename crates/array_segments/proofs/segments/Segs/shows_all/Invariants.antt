use Rattle.std.proofs.Common.{◌≡◌, [], drop, get_or}
use Rattle.array_segments.specs.Inclusion.{all_shown}
use Rattle.array_segments.specs.Meaning.{segments_of}
use Rattle.array_segments.specs.Segments.{lists_of}
use Rattle.array_segments.proofs.segments.Segs.shows_all.Given as goal

abbrev pub invariant-loop-place : goal.invariant-loop-place
invariant-loop-place g l =
    all_shown g.C.Values.within (g.O.Order.gap l.order) l.names (lists_of l.self) (get_or (lists_of l.other).bounds l.place []) (drop l.place (segments_of (lists_of l.other)))
    ≡ all_shown g.C.Values.within (g.O.Order.gap l.order) l.names (lists_of l.self) (get_or (lists_of l.other).bounds 0 []) (segments_of (lists_of l.other))
