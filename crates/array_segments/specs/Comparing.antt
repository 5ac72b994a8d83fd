-- Comparisons of expressions and bounds, as far as gaps show them. A gap of two symbols is a number that may be added
-- to the first without passing the second.
use Rattle.std.specs.Prelude.{ℕ, ℤ, pos, ◌+ℤ◌, ◌-ℤ◌, Bool, ◌&&◌, List, Option}
use Rattle.domain_api.specs.Order.{gap_is_at_least}
use Rattle.std.specs.List.{list_any}
use Rattle.domain_api.specs.declared.expr.Expr.{Expr}

-- Tells whether the first expression is shown to be at most the second, and below it.
abbrev pub at_most : (ℕ → ℕ → Option ℤ) → Expr → Expr → Bool
at_most gap a b = gap_is_at_least (gap a.sym b.sym) (a.k -ℤ b.k)

abbrev pub below : (ℕ → ℕ → Option ℤ) → Expr → Expr → Bool
below gap a b = gap_is_at_least (gap a.sym b.sym) ((a.k -ℤ b.k) +ℤ pos 1)

abbrev pub equal : (ℕ → ℕ → Option ℤ) → Expr → Expr → Bool
equal gap a b = at_most gap a b && at_most gap b a

-- Tells whether some expression of the bound is shown to be at most the index, below it, above it, and equal to it.
abbrev pub starts_by : (ℕ → ℕ → Option ℤ) → Expr → List Expr → Bool
starts_by gap at bound = list_any (λ expr. at_most gap expr at) bound

abbrev pub starts_before : (ℕ → ℕ → Option ℤ) → Expr → List Expr → Bool
starts_before gap at bound = list_any (λ expr. below gap expr at) bound

abbrev pub ends_behind : (ℕ → ℕ → Option ℤ) → Expr → List Expr → Bool
ends_behind gap at bound = list_any (λ expr. below gap at expr) bound

abbrev pub meets : (ℕ → ℕ → Option ℤ) → Expr → List Expr → Bool
meets gap at bound = list_any (λ expr. equal gap expr at) bound
