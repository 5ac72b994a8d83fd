-- Numbers modulo 2^32.
use Rattle.std.specs.Prelude.{ℤ}
use Rattle.std.specs.Int.{w32, int_wrap}

-- The number from -2^31 to 2^31 - 1 that differs from n by a multiple of 2^32.
abbrev pub wrap32 : ℤ → ℤ
wrap32 n = int_wrap w32 n
