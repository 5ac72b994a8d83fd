-- The lists that segments are.
use Rattle.std.specs.Prelude.{map}
use Rattle.array_segments.specs.SegmentLists.{Lists}
use Rattle.array_segments.specs.declared.segments.Segs.{Segs}

abbrev pub lists_of : {C : Type 0} → Segs C → Lists C
lists_of segs = record { bounds = map (λ bound. bound.items) segs.bounds.items; contents = segs.contents.items; marks = segs.marks.items }
