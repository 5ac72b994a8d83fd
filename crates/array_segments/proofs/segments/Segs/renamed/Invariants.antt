use Rattle.std.proofs.Common.{◌≡◌, drop}
use Rattle.symbolic_values.specs.Names.{renamed}
use Rattle.array_segments.specs.Growing.{with_more}
use Rattle.array_segments.specs.Meaning.{segments_of}
use Rattle.array_segments.specs.Renaming.{renamed_from, renamed_lists}
use Rattle.array_segments.specs.Segments.{lists_of}
use Rattle.array_segments.proofs.segments.Segs.renamed.Given as goal

abbrev pub invariant-loop-place : goal.invariant-loop-place
invariant-loop-place g l =
    with_more (lists_of l.renaming.made) (renamed_from g.C.Values.hull (renamed l.names) l.renaming.held (drop l.place (segments_of (lists_of l.self))))
    ≡ renamed_lists g.C.Values.hull (renamed l.names) (lists_of l.self)
