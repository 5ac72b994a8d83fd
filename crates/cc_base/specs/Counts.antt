-- Counts that an object keeps of what went wrong, in a 64-bit counter that stops at its end.
use Rattle.std.specs.Prelude.{◌≡◌, ℕ, ◌-◌, ◌^◌, ◌<◌, ◌≤◌, ◌⊎◌, ◌+◌, min}

-- The count rose. One that stands at its end counts as risen, since it cannot show a further rise.
abbrev pub Rose : ℕ → ℕ → Type 0
Rose old new = (old < new) ⊎ (new ≡ 2 ^ 64 - 1)

-- The count did not fall.
abbrev pub Kept : ℕ → ℕ → Type 0
Kept old new = old ≤ new

-- The count after one more.
abbrev pub count_up : ℕ → ℕ
count_up count = min (count + 1) (2 ^ 64 - 1)
