-- How large the numbers are whose product is taken.
use Rattle.std.specs.Prelude.{ℤ, pos, negsuc, ◌≤ℤ◌}

-- At most 2^31.
pub record IsFactor (n : ℤ) : Type 0 where
  pub least : negsuc 2147483647 ≤ℤ n
  pub greatest : n ≤ℤ pos 2147483648
