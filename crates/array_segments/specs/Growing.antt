-- Segments put behind others, one by one.
use Rattle.std.specs.Prelude.{List, [], ◌∷◌, ◌++◌, map}
use Rattle.domain_api.specs.declared.expr.Expr.{Expr}
use Rattle.array_segments.specs.Meaning.{Segment}
use Rattle.array_segments.specs.SegmentLists.{Lists}

-- A first bound, and no segment yet.
abbrev pub begun : {C : Type 0} → List Expr → Lists C
begun first = record { bounds = first ∷ []; contents = []; marks = [] }

-- Further segments behind the last bound.
abbrev pub with_more : {C : Type 0} → Lists C → List (Segment C) → Lists C
with_more lists segments = record {
  bounds = lists.bounds ++ map (λ segment. segment.upper) segments;
  contents = lists.contents ++ map (λ segment. segment.content) segments;
  marks = lists.marks ++ map (λ segment. segment.may_be_empty) segments;
}
