-- How long the bytes are that a reader takes.
use Rattle.std.specs.Prelude.{ℕ, ◌≤◌, List, length}

-- Every offset in the bytes, and the one after them, is below 2^31.
abbrev pub IsShort : List ℕ → Type 0
IsShort bytes = length bytes ≤ 2147483647
