-- Segments put in the place of others, where there are some.
use Rattle.std.specs.Prelude.{true, List, [], ◌∷◌, Option, None, Some}
use Rattle.array_segments.specs.SegmentLists.{whole}
use Rattle.array_contents.specs.Contents.{Contents, Segments}
use Rattle.array_contents.specs.declared.forgetting.Unknown.{Unknown}

-- The segments of an array of which no more is known.
abbrev pub unknown_lists : Option Unknown → Option Segments
unknown_lists None = None
unknown_lists (Some array) = Some (whole array.length array.items true)

abbrev pub replaced_one : Option Segments → Segments → Segments
replaced_one None one = one
replaced_one (Some fresh) one = fresh

abbrev pub replaced_each : List (Option Segments) → Contents → Contents
replaced_each [] contents = contents
replaced_each (fresh ∷ others) [] = []
replaced_each (fresh ∷ others) (one ∷ contents) = replaced_one fresh one ∷ replaced_each others contents
