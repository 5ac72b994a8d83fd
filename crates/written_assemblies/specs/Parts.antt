-- Where parts of a file stand in it.
use Rattle.std.specs.Prelude.{◌≡◌, ℕ, List, ◌++◌, length}

-- The part stands in the bytes, from this offset on.
pub record Stands (part bytes : List ℕ) (at : ℕ) : Type 0 where
  pub prefix : List ℕ
  pub rest : List ℕ
  pub parts : bytes ≡ prefix ++ (part ++ rest)
  pub begins : length prefix ≡ at
