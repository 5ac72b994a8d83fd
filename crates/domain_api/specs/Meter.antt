-- Counts of work.
use Rattle.std.specs.Prelude.{ℕ, ◌+◌, ◌-◌, ◌^◌, min}

-- The count after one more, in a 64-bit counter that stops at its end.
abbrev pub after_tick : ℕ → ℕ
after_tick count = min (count + 1) (2 ^ 64 - 1)
