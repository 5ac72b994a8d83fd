-- How large the numbers are that the rules compute with.
use Rattle.std.specs.Prelude.{ℤ, pos, negsuc, ◌≤ℤ◌, Option, Some, None}
use Rattle.number_spans.specs.declared.span.Span.{Span}

-- At most 2^63 + 2^33, as the ends of each variable are, also where a bound of 64 bits cuts them.
pub record IsEnd (n : ℤ) : Type 0 where
  pub least : negsuc 9223372045444710399 ≤ℤ n
  pub greatest : n ≤ℤ pos 9223372045444710400

-- At most 2^65.
pub record IsWide (n : ℤ) : Type 0 where
  pub least : negsuc 36893488147419103231 ≤ℤ n
  pub greatest : n ≤ℤ pos 36893488147419103232

-- At most 2^126 + 2^98, as products of ends are.
pub record IsBounded (n : ℤ) : Type 0 where
  pub least : negsuc 85070592047147265922901002232117854207 ≤ℤ n
  pub greatest : n ≤ℤ pos 85070592047147265922901002232117854208

-- Both ends of a range are so.
pub record IsLong (r : Span) : Type 0 where
  pub low : IsWide r.lo
  pub high : IsWide r.hi

pub record IsSmall (r : Span) : Type 0 where
  pub low : IsEnd r.lo
  pub high : IsEnd r.hi

-- A hole, where there is one, is so large at most.
abbrev pub IsLongHole : Option ℤ → Type 0
IsLongHole None = Unit {0}
IsLongHole (Some hole) = IsWide hole
