-- Files whose units are asked for: one alone, or several that are linked.
use Rattle.std.specs.Prelude.{ℕ, List}
use Rattle.unit_builder.specs.Linked.{linked}
use Rattle.unit_builder.specs.Scopes.{Files, alone}

pub data FileSet : Type 0 where
  Alone : List ℕ → FileSet
  Several : List (List ℕ) → FileSet

-- The files, with what the tokens in their code mean.
abbrev pub files_in : FileSet → Files
files_in (Alone asm) = alone asm
files_in (Several files) = linked files
