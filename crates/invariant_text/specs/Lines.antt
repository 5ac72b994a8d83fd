-- Lines of a block, and such lines of a list.
use Rattle.std.specs.Prelude.{ℕ, ◌+◌, List, [], ◌∷◌, ◌++◌, codes}

-- A line of a block stands four spaces in.
abbrev pub line : List ℕ → List ℕ
line text = codes "    " ++ text ++ codes "\n"

-- The lines of a list's items, which are numbered from a first number on.
abbrev pub numbered : {X : Type 0} → (ℕ → X → List ℕ) → ℕ → List X → List ℕ
numbered line_of n [] = []
numbered line_of n (x ∷ xs) = line_of n x ++ numbered line_of (n + 1) xs
