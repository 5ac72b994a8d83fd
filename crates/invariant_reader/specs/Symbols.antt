-- The lines of symbols, read.
use Rattle.std.specs.Prelude.{ℕ, List, Option, Some, codes}
use Rattle.interval_domain.specs.Interval.{Interval}
use Rattle.invariant_text.proofs.NumberReading.{behind_digits}
use Rattle.invariant_reader.specs.Prefixes.{and_then, behind}
use Rattle.invariant_reader.specs.Ranges.{read_range}

-- The line at the start. Its symbol is not kept.
unfoldable pub read_symbol_line : List ℕ → Option (Interval × List ℕ)
read_symbol_line text =
    and_then (behind (codes "    s") text) (λ name. and_then (behind (codes " in ") (behind_digits name)) (λ within.
    and_then (read_range within) (λ range. and_then (behind (codes "\n") range.1) (λ rest. Some (range.0, rest)))))
