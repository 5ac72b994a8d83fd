-- What the printed reports of linked assemblies mean.
use Rattle.std.specs.Prelude.{◌≡◌, ℕ, List, Option, Some, None, is_some, map, Contains, slice_get}
use Rattle.asm_image.specs.Rows.{methods_of}
use Rattle.asm_image.specs.declared.method_row.MethodRow.{MethodRow}
use Rattle.cc_base.specs.Files.{Held}
use Rattle.cil_model.specs.declared.unit.Unit.{Unit as MethodUnit}
use Rattle.command_words.specs.Words.{command_of, linked_files, words_at}
use Rattle.command_words.specs.declared.command.Command.{Command}
use Rattle.command_words.specs.declared.command.Command.TheVariants as commands
use Rattle.command_words.specs.declared.linked_words.LinkedWords.{LinkedWords}
use Rattle.unit_builder.specs.Linked.{linked, linked_calls, linked_world}
use Rattle.unit_builder.specs.Outcomes.{outcome_in}
use Rattle.unit_builder.specs.Reach.{Reaches}
use Rattle.unit_builder.specs.Scopes.{key_at, scope_in}
use Rattle.unit_builder.specs.declared.entry.Outcome.TheVariants.{Analysed}
use Rattle.unit_verdicts.specs.Picks.{Manner}
use Rattle.check_driver.specs.LinkedReports.{LinkedBegun}
use Rattle.check_driver.specs.NothingOr.{NothingOr}
use Rattle.assembly_reports.specs.Sections.{HasProvedLine, section}

-- The words ask to check linked assemblies, whose files are held with these bytes, in order.
pub record AreLinkedOf (words : List (List ℕ)) (held : Held) (files : List (List ℕ)) : Type 0 where
  pub linked : LinkedWords
  pub command : command_of words ≡ Some (commands.Linked linked)
  pub are_held : map held (words_at words (linked_files linked)) ≡ map Some files

-- The method of a file is told to be proved, and so is each method that it reaches by calls, in the section of its own
-- file.
abbrev pub TellLinkedProved : List ℕ → List (List ℕ) → ℕ → MethodRow → Type 0
TellLinkedProved text files file method =
    (other : ℕ) (bytes : List ℕ) (reached : MethodRow) → slice_get files other ≡ Some bytes → Contains (methods_of bytes) reached
    → Reaches (linked_calls files) (key_at file method.token.0) (key_at other reached.token.0) → HasProvedLine (section other text) reached

-- The method of a file is analysed, and the first unit of its world is its own.
pub record BeginsLinkedWorld (files : List (List ℕ)) (file : ℕ) (method : MethodRow) : Type 0 where
  pub unit : MethodUnit
  pub analysed : outcome_in (scope_in (linked files) file) method ≡ Analysed unit
  pub first : slice_get (linked_world files (key_at file method.token.0)).units 0 ≡ Some unit

-- The other words ask for the same reports of linked files as these, and name no cache.
pub record LinksWithoutCache (words other : List (List ℕ)) : Type 0 where
  pub linked : LinkedWords
  pub plain : LinkedWords
  pub command : command_of words ≡ Some (commands.Linked linked)
  pub without : command_of other ≡ Some (commands.Linked plain)
  pub none : plain.check.cache ≡ None
  pub shows : is_some plain.check.show ≡ is_some linked.check.show
  pub files : words_at other (linked_files plain) ≡ words_at words (linked_files linked)

-- ---- what the code knows once it has begun the reports

-- This holds of the words of a check of linked files, where the command is one.
abbrev pub IfLinked : Command → (LinkedWords → Type 0) → Type 0
IfLinked (commands.Linked linked) P = P linked
IfLinked _ P = Unit {0}

-- The reports of linked files of these names, made in some manner, were begun as far as was written, or nothing was.
abbrev pub SomeLinkedBegun : List (List ℕ) → List (List ℕ) → Option (List ℕ) → Option (List ℕ) → Type 0
SomeLinkedBegun names files old new = (manner : Manner) × LinkedBegun manner names files old new

-- The same of what is held under the names, where that is told.
abbrev pub AreLinkedBegun : Option Held → List (List ℕ) → Option (List ℕ) → Option (List ℕ) → Type 0
AreLinkedBegun told names old new =
    (held : Held) (files : List (List ℕ)) → told ≡ Some held → map held names ≡ map Some files
    → NothingOr old new (SomeLinkedBegun names files old new)
