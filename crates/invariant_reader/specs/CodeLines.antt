-- Segments and references whose numbers are those of the code.
use Rattle.std.specs.Prelude.{ℕ, ◌<◌, ◌≤◌, ◌^◌, Bool, List, length}
use Rattle.std.specs.List.{AllByRecursion}
use Rattle.array_contents.specs.Contents.{Segments}
use Rattle.array_segments.specs.SegmentLists.{HasForm}
use Rattle.domain_api.specs.declared.expr.Expr.{Expr}
use Rattle.frame_names.specs.declared.reference.Reference.{Reference}
use Rattle.interval_domain.specs.Interval.{Interval}
use Rattle.invariant_reader.specs.CodeNumbers.{IsCodeExpr}
use Rattle.number_spans.specs.Stored.{IsNarrow}
use Rattle.state_facts.specs.Forms.{IsArrayPlace}

-- There is an expression at the bound.
pub record IsCodeBound (bound : List Expr) : Type 0 where
  pub some : 1 ≤ length bound
  pub each : AllByRecursion IsCodeExpr bound

-- What the items are in, the mark, and the bound where the segment ends.
abbrev pub Segment : Type 0
Segment = Interval × (Bool × List Expr)

abbrev pub IsCodeSegment : Segment → Type 0
IsCodeSegment s = IsNarrow s.0 × (Unit {0} × IsCodeBound s.1.1)

pub record IsCodeSegments (s : Segments) : Type 0 where
  pub form : HasForm s
  pub narrow : AllByRecursion IsNarrow s.contents
  pub bounds : AllByRecursion IsCodeBound s.bounds

-- A reference, and its segments.
abbrev pub Known : Type 0
Known = Reference × Segments

-- It is one of an array.
pub record IsCodeReference (r : Reference) : Type 0 where
  pub place : IsArrayPlace r.place
  pub length_is : IsCodeExpr r.length

pub record IsCodeKnown (known : Known) : Type 0 where
  pub reference : IsCodeReference known.0
  pub segments : IsCodeSegments known.1

-- What the line of the reference of a number says.
abbrev pub IsKnownLine : ℕ → Known → Type 0
IsKnownLine n known = (0 < n) × (n < 2 ^ 64) × IsCodeKnown known
