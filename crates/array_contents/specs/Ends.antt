-- What ends arrays: the new length stands for a length at the last bound of both states.
use Rattle.std.specs.Prelude.{◌<◌, List, [], ◌∷◌, drop, get_or, length, Option}
use Rattle.std.specs.List.{filter_map}
use Rattle.array_segments.specs.Behind.{StandsForBoth}
use Rattle.array_segments.specs.SegmentLists.{last_bound, zero_expr}
use Rattle.domain_api.specs.declared.expr.Expr.{Expr}
use Rattle.symbolic_values.specs.Names.{renamed}
use Rattle.symbolic_values.specs.Pairing.{Pairing}
use Rattle.symbolic_values.specs.declared.pairs.Key.{Key}
use Rattle.array_contents.specs.Contents.{Contents, segments_at}

abbrev pub EachStands : Pairing → Contents → Contents → List Key → List Expr → Type 0
EachStands pairs a b [] lengths = Unit {0}
EachStands pairs a b (key ∷ keys) lengths =
    StandsForBoth pairs (last_bound (segments_at a key.s)) (last_bound (segments_at b key.t))
    (get_or lengths 0 zero_expr)
    × EachStands pairs a b keys (drop 1 lengths)

-- Some expression of the last bound has a name.
abbrev pub EachIsNamed : List (Option Expr) → Contents → List Key → Type 0
EachIsNamed names contents [] = Unit {0}
EachIsNamed names contents (key ∷ keys) =
    (0 < length (filter_map (renamed names) (last_bound (segments_at contents key.s))))
    × EachIsNamed names contents keys
