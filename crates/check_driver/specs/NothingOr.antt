-- What a call knows once it has written: nothing was written, or the fact is so.
use Rattle.std.specs.Prelude.{◌≡◌, ◌⊎◌, ℕ, List, Option}

-- Nothing was written to a sink that holds the first before and the second now, or this is so.
abbrev pub NothingOr : Option (List ℕ) → Option (List ℕ) → Type 0 → Type 0
NothingOr old new Fact = (new ≡ old) ⊎ Fact
