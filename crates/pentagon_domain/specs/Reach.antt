-- What rows tell of the symbols to which they go, one row after another.
use Rattle.std.specs.Prelude.{ℕ, ◌==◌, ℤ, ◌+ℤ◌, List, [], ◌∷◌, Option, None, if◌then◌else◌}
use Rattle.domain_api.specs.Order.{greater_gap}
use Rattle.pentagon_domain.specs.declared.bound_row.BoundRow.{BoundRow}
use Rattle.pentagon_domain.specs.Gaps.{cut}

-- The greatest gap that rows tell of a symbol to which they go, behind a constant.
unfoldable pub reach : ℤ → List BoundRow → ℕ → Option ℤ
reach k [] t = None
reach k (row ∷ rows) t = if row.t == t then greater_gap (cut (k +ℤ row.k)) (reach k rows t) else reach k rows t
