-- How far one symbol is known to lie above another.
use Rattle.std.specs.Prelude.{ℕ, ◌<◌, ◌==◌, ℤ, pos, negsuc, ◌+ℤ◌, ◌≤ℤ◌, int_lt, List, [], ◌∷◌, Option, Some, None, option_map, option_and_then, if◌then◌else◌}
use Rattle.std.specs.List.{AllByRecursion}
use Rattle.domain_api.specs.Order.{greater_gap}
use Rattle.pentagon_domain.specs.declared.bound_row.BoundRow.{BoundRow}
use Rattle.pentagon_domain.specs.Rows.{rows_from, stored}

-- An exact number as a gap of 64 bits: one above them counts as the greatest of them, and one below them tells nothing.
unfoldable pub cut : ℤ → Option ℤ
cut n = if int_lt (pos 9223372036854775807) n then Some (pos 9223372036854775807) else if int_lt n (negsuc 9223372036854775807) then None else Some n

-- The greatest sum of two stored constants, of a bound among these and of one behind it that goes to a symbol.
unfoldable pub greatest_sum : List BoundRow → List BoundRow → ℕ → Option ℤ
greatest_sum rows [] t = None
greatest_sum rows (first ∷ firsts) t = greater_gap (option_map (λ k. first.k +ℤ k) (stored rows first.t t)) (greatest_sum rows firsts t)

-- The greatest exact number that bounds tell of two symbols: a stored constant, or the sum of two behind each other.
unfoldable pub exact_gap : List BoundRow → ℕ → ℕ → Option ℤ
exact_gap rows s t = greater_gap (stored rows s t) (greatest_sum rows (rows_from rows s) t)

-- The gap of two symbols by bounds alone.
unfoldable pub gap : List BoundRow → ℕ → ℕ → Option ℤ
gap rows s t = if s == t then Some (pos 0) else option_and_then cut (exact_gap rows s t)

-- The gap of two symbols where their ranges lie so far apart: from the greatest number of the first to the least of the
-- second.
unfoldable pub gap_with : List BoundRow → ℤ → ℕ → ℕ → Option ℤ
gap_with rows between s t = if s == t then Some (pos 0) else option_and_then cut (greater_gap (exact_gap rows s t) (Some between))

-- The gap of two symbols by the bound that is stored of them alone.
unfoldable pub direct_gap : List BoundRow → ℕ → ℕ → Option ℤ
direct_gap rows s t = if s == t then Some (pos 0) else option_and_then cut (stored rows s t)

-- The number of t lies at least so far above that of s.
abbrev pub LiesAbove : (ℕ → ℤ) → ℕ → ℕ → ℤ → Type 0
LiesAbove number s t k = (number s +ℤ k) ≤ℤ number t

-- A bound allows these numbers of its symbols.
abbrev pub AllowsRow : (ℕ → ℤ) → BoundRow → Type 0
AllowsRow number row = LiesAbove number row.s row.t row.k

-- Bounds allow the numbers that each of them allows.
abbrev pub Allows : List BoundRow → (ℕ → ℤ) → Type 0
Allows rows number = AllByRecursion (AllowsRow number) rows

-- The symbols of a row are below a count.
pub record AreBelow (count : ℕ) (row : BoundRow) : Type 0 where
  pub from : row.s < count
  pub to : row.t < count
