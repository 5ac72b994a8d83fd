-- Things in the order of their first uses.
use Rattle.std.specs.Prelude.{Bool, List, [], ◌∷◌, ◌++◌, if◌then◌else◌}
use Rattle.std.specs.List.{list_any}

module _ {X : Type 0} (same : X → X → Bool) where
  -- The known uses, and one more behind them where none is the same.
  abbrev pub noted : List X → X → List X
  noted known x = if list_any (same x) known then known else known ++ x ∷ []

  -- The known uses, and behind them each further one that is the first of its kind.
  abbrev pub first_uses : List X → List X → List X
  first_uses known [] = known
  first_uses known (x ∷ xs) = first_uses (noted known x) xs
