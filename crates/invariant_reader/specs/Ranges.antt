-- Ranges, read.
use Rattle.std.specs.Prelude.{ℕ, ℤ, List, Option, Some, None, codes}
use Rattle.interval_domain.specs.Interval.{Interval}
use Rattle.number_spans.specs.Stored.{range_without}
use Rattle.invariant_reader.specs.Numbers.{read_signed}
use Rattle.invariant_reader.specs.Prefixes.{and_then, behind, or_else}

-- The number that a range does not have, if there is one.
unfoldable pub read_hole : List ℕ → Option (Option ℤ × List ℕ)
read_hole text =
    or_else (behind (codes " not ") text) (λ hole. and_then (read_signed hole) (λ z. Some (Some z.0, z.1)))
    (Some (None, text))

-- The range at the start.
unfoldable pub read_range : List ℕ → Option (Interval × List ℕ)
read_range text =
    and_then (read_signed text) (λ lo. and_then (behind (codes "..") lo.1) (λ greatest.
    and_then (read_signed greatest) (λ hi. and_then (read_hole hi.1) (λ hole.
    and_then (range_without lo.0 hi.0 hole.0) (λ range. Some (range, hole.1))))))
