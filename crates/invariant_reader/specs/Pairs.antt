-- The lines of references that are apart, read.
use Rattle.std.specs.Prelude.{ℕ, List, Option, Some, codes}
use Rattle.alias_facts.specs.PairsOf.{Pair}
use Rattle.invariant_reader.specs.Prefixes.{and_then, behind}
use Rattle.invariant_reader.specs.References.{read_reference}

-- The line at the start.
unfoldable pub read_apart_line : List ℕ → Option (Pair × List ℕ)
read_apart_line text =
    and_then (behind (codes "    ") text) (λ first. and_then (read_reference first) (λ r.
    and_then (behind (codes " apart ") r.1) (λ second. and_then (read_reference second) (λ q.
    and_then (behind (codes "\n") q.1) (λ rest. Some ((r.0, q.0), rest))))))
