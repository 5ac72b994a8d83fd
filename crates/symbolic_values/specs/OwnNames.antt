-- The names of a state's symbols, where the state is paired with itself.
use Rattle.std.specs.Prelude.{ℕ, pos, Bool, ◌&&◌, ◌==◌, List, map, set, get_or, Option, Some, if◌then◌else◌}
use Rattle.std.specs.List.{range_with_len}
use Rattle.std.specs.Ordering.{int_eq}
use Rattle.domain_api.specs.declared.expr.Expr.{Expr}
use Rattle.symbolic_values.specs.declared.pairs.Key.{Key}
use Rattle.symbolic_values.specs.Pairing.{Pairing, origin}
use Rattle.symbolic_values.specs.Names.{as_expr, named_at, paired_expr}

-- The name of a symbol: that of the symbol paired with itself.
abbrev pub own_name : Pairing → ℕ → Option Expr
own_name pairs s = paired_expr pairs (as_expr s) (as_expr s)

-- The name of each symbol below a count.
abbrev pub own_names : Pairing → ℕ → List (Option Expr)
own_names pairs count = map (own_name pairs) (range_with_len 0 count)

-- ---- as they are written, one after another

-- The key is that of a symbol paired with itself.
abbrev pub is_own : Key → Bool
is_own u = u.s == u.t && int_eq u.shift (pos 0)

-- The names, with that of the symbol that has the key at a place.
abbrev pub with_own : Pairing → ℕ → List (Option Expr) → List (Option Expr)
with_own pairs place names =
    if is_own (get_or pairs.keys place origin) then set names (get_or pairs.keys place origin).s (named_at pairs (pos 0) (Some place)) else names
