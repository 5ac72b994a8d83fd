-- What is known of the numbers of a state, and what it means.
use Rattle.std.specs.Prelude.{ℕ, zero, suc, ◌≤◌, pos, negsuc, ◌≤ℤ◌, Bool, nat_le, length, List, get_or}
use Rattle.std.specs.List.{AllByRecursion}
use Rattle.domain_api.specs.declared.expr.Expr.{Expr}
use Rattle.interval_domain.specs.Interval.{Interval, one}
use Rattle.pentagon_domain.specs.declared.bound_row.BoundRow.{BoundRow}
use Rattle.symbolic_values.specs.declared.def.Def.{Def}
use Rattle.number_spans.specs.Stored.{IsNarrow}

-- Symbols from 1 on have a range each, in order. Symbol 0 is the number 0. Some symbols have a definition, and bounds
-- say how symbols lie to each other.
pub record Facts : Type 0 where
  pub ranges : List Interval
  pub definitions : List (ℕ × Def)
  pub bounds : List BoundRow

-- The symbol is there.
abbrev pub has : Facts → ℕ → Bool
has facts s = nat_le s (length facts.ranges)

-- The range that is stored of a symbol.
unfoldable pub range_at : Facts → ℕ → Interval
range_at facts zero = one (pos 0)
range_at facts (suc s) = get_or facts.ranges s (one (pos 0))

-- ---- the form of what is known

-- The symbol of an expression is there.
abbrev pub IsNamed : Facts → Expr → Type 0
IsNamed facts e = e.sym ≤ length facts.ranges

-- It is, and its constant is one of -2^32 to 2^32, as that of each variable is.
pub record IsThere (facts : Facts) (e : Expr) : Type 0 where
  pub there : IsNamed facts e
  pub least : negsuc 4294967295 ≤ℤ e.k
  pub greatest : e.k ≤ℤ pos 4294967296

-- Each range is one of int32.
abbrev pub AreNarrow : Facts → Type 0
AreNarrow facts = AllByRecursion IsNarrow facts.ranges
