-- Uses of near constants.
use Rattle.std.specs.Prelude.{pos, negsuc, ◌≤ℤ◌}
use Rattle.symbolic_values.specs.declared.pairs.Key.{Key}

-- The constant of the first use is one of -2^32 to 2^32.
pub record IsNearUse (u : Key) : Type 0 where
  pub least : negsuc 4294967295 ≤ℤ u.first
  pub greatest : u.first ≤ℤ pos 4294967296
