-- The metadata of a file, as contracts see it.
use Rattle.std.specs.Prelude.{ℕ, List}

-- Its bytes, and where in the file they begin.
pub record FileMetadata : Type 0 where
  pub bytes : List ℕ
  pub offset : ℕ
