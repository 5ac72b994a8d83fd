-- References that are apart are not the same array.
use Rattle.std.specs.Prelude.{◌≡◌, ℕ, ◌<◌, Bool, true, false, List, Option, Some, None}
use Rattle.std.specs.List.{AllByRecursion}
use Rattle.alias_facts.specs.PairsOf.{Pair}

-- Two references are not the same array, where each reference is the array of a number, or null.
abbrev pub Differ : (ℕ → Option ℕ) → ℕ → ℕ → Type 0
Differ array r q = (n : ℕ) → array r ≡ Some n → array q ≡ Some n → ⊥

-- The references of each pair are not the same array.
abbrev pub AllDiffer : (ℕ → Option ℕ) → List Pair → Type 0
AllDiffer array pairs = AllByRecursion (λ p. Differ array p.0 p.1) pairs

-- A reference is not the same array as any from 1 up to the one before it.
abbrev pub DiffersFromEarlier : (ℕ → Option ℕ) → ℕ → Type 0
DiffersFromEarlier array r = (q : ℕ) → 0 < q → q < r → Differ array q r

-- No array: the reference is null.
abbrev pub is_no_array : Option ℕ → Bool
is_no_array None = true
is_no_array (Some n) = false
