-- How symbols lie to each other.
use Rattle.std.specs.Prelude.{ℤ, Bool, false, Option, Some, None, int_le, int_lt, if◌then◌else◌}

-- The greater of two gaps that are known.
abbrev pub greater_gap : Option ℤ → Option ℤ → Option ℤ
greater_gap None b = b
greater_gap (Some k) None = Some k
greater_gap (Some k) (Some l) = if int_lt k l then Some l else Some k

-- A gap is known, and is so much at least.
abbrev pub gap_is_at_least : Option ℤ → ℤ → Bool
gap_is_at_least None least = false
gap_is_at_least (Some gap) least = int_le least gap
