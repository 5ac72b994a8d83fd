-- What the greater of two gaps tells.
use Rattle.std.specs.Prelude.{◌≡◌, ◌⊎◌, ℤ, Bool, true, false, Option, Some, None, int_lt, if◌then◌else◌}
use Rattle.std.proofs.Common.{inl, inr}
use Rattle.domain_api.specs.Order.{greater_gap}

one_of : (less : Bool) (k l m : ℤ) → (if less then Some l else Some k) ≡ Some m → (Some k ≡ Some m) ⊎ (Some l ≡ Some m)
one_of true k l m is = inr is
one_of false k l m is = inl is

-- The greater gap is one of the two.
pub greater_gap-either : (a b : Option ℤ) (k : ℤ) → greater_gap a b ≡ Some k → (a ≡ Some k) ⊎ (b ≡ Some k)
greater_gap-either None b k is = inr is
greater_gap-either (Some l) None k is = inl is
greater_gap-either (Some l) (Some m) k is = one_of (int_lt l m) l m k is
