-- The files that the code has at hand.
use Rattle.std.specs.Prelude.{ℕ, List}
use Rattle.unit_builder.specs.FileSets.{Alone, FileSet, Several, files_in}
use Rattle.unit_builder.specs.Scopes.{Files, Scope, info_in, scope_in}
use Rattle.unit_builder.specs.declared.sources.Sources.{Sources}
use Rattle.unit_builder.specs.declared.sources.Sources.TheVariants.{One, Linked}

abbrev pub set_of : Sources → FileSet
set_of (One assembly) = Alone assembly.now
set_of (Linked links) = Several links.now

abbrev pub files_of : Sources → Files
files_of sources = files_in (set_of sources)

-- What the code of one of them sees.
abbrev pub scope_at : Sources → ℕ → Scope
scope_at sources file = scope_in (files_of sources) file

-- The same where these are the file's bytes.
abbrev pub scope_with : Sources → ℕ → List ℕ → Scope
scope_with sources file asm = record { asm = asm; meaning = (files_of sources).meaning file; info = info_in (files_of sources) }
