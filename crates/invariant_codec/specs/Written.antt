-- What is written of a state has the form that its parts have.
use Rattle.std.specs.Prelude.{◌≡◌, List, length}
use Rattle.std.specs.List.{AllByRecursion}
use Rattle.array_contents.specs.Contents.{Contents, Segments}
use Rattle.array_segments.specs.SegmentLists.{HasForm}
use Rattle.frame_names.specs.declared.reference.Reference.{Reference}
use Rattle.number_spans.specs.Stored.{IsNarrow}

-- Segments with a content and a mark each and one bound more, whose contents are ranges of int32.
pub record IsWritten (segments : Segments) : Type 0 where
  pub form : HasForm segments
  pub narrow : AllByRecursion IsNarrow segments.contents

-- There are such segments for each reference.
pub record AreSegmentsOf (references : List Reference) (contents : Contents) : Type 0 where
  pub each : length contents ≡ length references
  pub written : AllByRecursion IsWritten contents
