-- Bytes that are filled up with zeros.
use Rattle.std.specs.Prelude.{ℕ, ◌+◌, ◌-◌, ◌*◌, ◌/◌, List, ◌++◌, length, replicate}

-- The least multiple of the unit that is not below n.
unfoldable pub round_up : ℕ → ℕ → ℕ
round_up unit n = (n + (unit - 1)) / unit * unit

-- The zeros that fill up so many bytes to a multiple of the unit.
abbrev pub fill : ℕ → ℕ → List ℕ
fill unit size = replicate (round_up unit size - size) 0

unfoldable pub padded : ℕ → List ℕ → List ℕ
padded unit bytes = bytes ++ fill unit (length bytes)
