-- References, read.
use Rattle.std.specs.Prelude.{ℕ, List, Option, Some, codes}
use Rattle.invariant_reader.specs.Numbers.{read_short}
use Rattle.invariant_reader.specs.Prefixes.{and_then, behind, or_else}

-- The reference at the start.
unfoldable pub read_reference : List ℕ → Option (ℕ × List ℕ)
read_reference text =
    or_else (behind (codes "r") text) read_short (and_then (behind (codes "null") text) (λ rest. Some (0, rest)))
