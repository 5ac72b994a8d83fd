-- Segments in other names of their bounds. A bound that loses all its expressions makes one segment of its neighbours.
use Rattle.std.specs.Prelude.{◌&&◌, List, [], ◌∷◌, get_or, Option, None, Some}
use Rattle.std.specs.List.{filter_map}
use Rattle.domain_api.specs.declared.expr.Expr.{Expr}
use Rattle.array_segments.specs.declared.renaming.Part.{Part}
use Rattle.array_segments.specs.Growing.{begun, with_more}
use Rattle.array_segments.specs.Meaning.{Segment, segments_of}
use Rattle.array_segments.specs.SegmentLists.{Lists}

-- A part behind another one, if there is one. It may be empty where both may.
abbrev pub joined : {C : Type 0} → (C → C → C) → Option (Part C) → Part C → Part C
joined hull None part = part
joined hull (Some before) part = record { content = hull before.content part.content; mark = before.mark && part.mark }

-- A segment up to the bound, and the others behind it; or where the bound has no expression, what comes of those with
-- the part before them.
abbrev pub placed : {C : Type 0} → Part C → List Expr → List (Segment C) → List (Segment C) → List (Segment C)
placed part [] grown fresh = grown
placed part (expr ∷ exprs) grown fresh = record { content = part.content; may_be_empty = part.mark; upper = expr ∷ exprs } ∷ fresh

abbrev pub part_of : {C : Type 0} → Segment C → Part C
part_of segment = record { content = segment.content; mark = segment.may_be_empty }

-- The segments in other names, where a part may have been left before them.
abbrev pub renamed_from : {C : Type 0} → (C → C → C) → (Expr → Option Expr) → Option (Part C) → List (Segment C) → List (Segment C)
renamed_from hull name held [] = []
renamed_from hull name held (segment ∷ segments) =
    placed (joined hull held (part_of segment)) (filter_map name segment.upper)
    (renamed_from hull name (Some (joined hull held (part_of segment))) segments) (renamed_from hull name None segments)

abbrev pub renamed_lists : {C : Type 0} → (C → C → C) → (Expr → Option Expr) → Lists C → Lists C
renamed_lists hull name lists = with_more (begun (filter_map name (get_or lists.bounds 0 []))) (renamed_from hull name None (segments_of lists))
