-- Ranges of int32 fit where they are written.
use Rattle.std.proofs.Common.{ℤ, ◌≤ℤ◌, Option, None, Some, FitsSigned, w32, arith}
use Rattle.std.specs.Prelude.{IfSome}
use Rattle.std.proofs.lemmas.Int.{ints}
use Rattle.cil_model.specs.Arithmetic.{LEAST, GREATEST}
use Rattle.interval_domain.specs.Interval.{Interval}
use Rattle.number_spans.specs.Stored.{IsInner, IsNarrow}

between_fits : (lo n hi : ℤ) → LEAST ≤ℤ lo → lo ≤ℤ n → n ≤ℤ hi → hi ≤ℤ GREATEST → FitsSigned w32 n
between_fits lo n hi least above below greatest = omega (arith, ints, least, above, below, greatest)

pub low_fits : (r : Interval) → IsNarrow r → FitsSigned w32 r.lo
low_fits r narrow = between_fits r.lo r.lo r.hi narrow.least (grind (arith, ints)) narrow.ordered narrow.greatest

pub high_fits : (r : Interval) → IsNarrow r → FitsSigned w32 r.hi
high_fits r narrow = between_fits r.lo r.hi r.hi narrow.least narrow.ordered (grind (arith, ints)) narrow.greatest

pub hole_fits : (r : Interval) → IsNarrow r → IfSome r.hole (λ n. FitsSigned w32 n)
hole_fits r narrow = by r.hole narrow.inner
  where
    by : (hole : Option ℤ) → IsInner r.lo r.hi hole → IfSome hole (λ n. FitsSigned w32 n)
    by None inner = tt
    by (Some n) inner = between_fits r.lo n r.hi narrow.least (grind (arith, ints, inner.0))
        (grind (arith, ints, inner.1)) narrow.greatest

pub ruleset narrow_ends = (low_fits, high_fits, hole_fits)
