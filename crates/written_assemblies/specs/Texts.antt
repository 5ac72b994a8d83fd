-- Texts that a zero may end.
use Rattle.std.specs.Prelude.{◌≡◌, ℕ, List, ◌==◌, false}
use Rattle.std.specs.List.{AllByRecursion}

-- No byte of the text is zero.
abbrev pub HasNoZero : List ℕ → Type 0
HasNoZero text = AllByRecursion (λ byte. (byte == 0) ≡ false) text
