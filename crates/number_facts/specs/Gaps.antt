-- How symbols and expressions are known to lie to each other.
use Rattle.std.specs.Prelude.{ℕ, ℤ, pos, ◌+ℤ◌, ◌-ℤ◌, Bool, ◌&&◌, Option, if◌then◌else◌}
use Rattle.domain_api.specs.Order.{gap_is_at_least}
use Rattle.domain_api.specs.declared.expr.Expr.{Expr}
use Rattle.pentagon_domain.specs.Gaps as by_bounds
use Rattle.number_facts.specs.Facts.{Facts, has}
use Rattle.number_facts.specs.Ends.{span_at}

-- How far symbol t is known to lie above symbol s: by one bound, by two behind each other, or by the numbers of both.
-- Where one is not there, bounds alone count.
unfoldable pub gap : Facts → ℕ → ℕ → Option ℤ
gap facts s t =
    if has facts s && has facts t then by_bounds.gap_with facts.bounds ((span_at facts t).lo -ℤ (span_at facts s).hi) s t
    else by_bounds.gap facts.bounds s t

-- The first expression and a number more are known to be at most the second.
unfoldable pub at_most : Facts → Expr → ℤ → Expr → Bool
at_most facts a more b = gap_is_at_least (gap facts a.sym b.sym) ((a.k +ℤ more) -ℤ b.k)

-- The first is known to be less than the second, or equal to it.
abbrev pub less : Facts → Expr → Expr → Bool
less facts a b = at_most facts a (pos 1) b

unfoldable pub equal : Facts → Expr → Expr → Bool
equal facts a b = at_most facts a (pos 0) b && at_most facts b (pos 0) a
