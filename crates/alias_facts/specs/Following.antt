-- Pairs, told by each two neighbours.
use Rattle.std.specs.Prelude.{Bool, true, ◌&&◌, Option, Some, None}
use Rattle.alias_facts.specs.PairsOf.{Pair, comes_before, is_proper}

-- A pair stands behind the one before it, if there is one.
abbrev pub follows : Option Pair → Pair → Bool
follows None pair = true
follows (Some previous) pair = comes_before previous pair

-- A pair is proper, and stands behind the one before it.
abbrev pub stands_behind : Option Pair → Pair → Bool
stands_behind previous pair = is_proper pair && follows previous pair
