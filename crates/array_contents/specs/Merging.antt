-- Contents of two states as one, in other names, and whether some say at least as much as others.
use Rattle.std.specs.Prelude.{ℕ, Bool, true, ◌&&◌, List, [], ◌∷◌, drop, get_or, map, Option}
use Rattle.array_segments.specs.Inclusion.{includes}
use Rattle.array_segments.specs.Renaming.{renamed_lists}
use Rattle.array_segments.specs.SegmentLists.{zero_expr}
use Rattle.array_segments.specs.Unifying.{unified}
use Rattle.domain_api.specs.declared.expr.Expr.{Expr}
use Rattle.interval_domain.specs.Interval.{Interval}
use Rattle.interval_domain.specs.Joins.{full, hull, within}
use Rattle.symbolic_values.specs.Names.{renamed}
use Rattle.symbolic_values.specs.Pairing.{Pairing}
use Rattle.symbolic_values.specs.declared.pairs.Key.{Key}
use Rattle.array_contents.specs.Contents.{Contents, Segments, segments_at}
use Rattle.array_contents.specs.Storing.{Gaps}

-- ---- two states

-- How two ranges become one: by their hull, or by what the first widened by the second is.
abbrev pub Making : Type 0
Making = Interval → Interval → Interval

abbrev pub merged_one : Making → Pairing → Contents → Contents → Key → Expr → Segments
merged_one make pairs a b key length = unified hull make full pairs length (segments_at a key.s) (segments_at b key.t)

-- Those of new references, each of which was one of each state, and their new lengths.
abbrev pub merged : Making → Pairing → Contents → Contents → List Key → List Expr → Contents
merged make pairs a b [] lengths = []
merged make pairs a b (key ∷ keys) lengths =
    merged_one make pairs a b key (get_or lengths 0 zero_expr) ∷ merged make pairs a b keys (drop 1 lengths)

-- ---- other names

-- Those of new references in new names of symbols.
abbrev pub renamed_each : List (Option Expr) → Contents → List Key → Contents
renamed_each names contents keys = map (λ key. renamed_lists hull (renamed names) (segments_at contents key.s)) keys

-- ---- inclusion

-- Each of the second is shown by that of the first to which it is bound, from reference 1 on.
abbrev pub included : Gaps → List (Option Expr) → Contents → List ℕ → Contents → Bool
included gap names a bound [] = true
included gap names a bound (one ∷ b) =
    includes within gap names (segments_at a (get_or bound 0 0)) one && included gap names a (drop 1 bound) b
