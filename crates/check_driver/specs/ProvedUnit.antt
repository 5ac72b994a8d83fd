-- What a printed `proved` means for the unit of a file.
use Rattle.std.specs.Prelude.{◌≡◌, ◌<◌, ℕ, List, ◌++◌, length, Option, Some, codes, slice_get}
use Rattle.cc_base.specs.Files.{Held, READ_LIMIT}
use Rattle.cil_model.specs.declared.unit.Unit.{Unit as MethodUnit}
use Rattle.unit_form.specs.Spelling.{IsSpelledBy}
use Rattle.method_unit.specs.UnitFile.{unit_of}
use Rattle.method_unit.specs.Units.{IsUnit}
use Rattle.answer_lines.specs.Signatures.{unit_signature}
use Rattle.command_words.specs.Words.{command_of, word_at}
use Rattle.command_words.specs.declared.command.Command.{Command}
use Rattle.command_words.specs.declared.command.Command.TheVariants as commands
use Rattle.invariant_checker.specs.Safety.{IsSafe}
use Rattle.check_driver.specs.Headline.{WasAppended}
use Rattle.assembly_reports.specs.Sections.{lines_of}

-- The words ask for the report of a unit's file, and these are the bytes held.
pub record AsksForUnit (words : List (List ℕ)) (held : Held) (bytes : List ℕ) : Type 0 where
  pub file : ℕ
  pub command : command_of words ≡ Some (commands.Unit file)
  pub is_held : held (word_at words file) ≡ Some bytes

-- The first line of what was appended to a sink tells a unit of this signature to be proved.
pub record PrintsProvedUnit (old new : Option (List ℕ)) (signature : List ℕ) : Type 0 where
  pub text : List ℕ
  pub appended : WasAppended old new text
  pub first : slice_get (lines_of text) 0 ≡ Some (codes "unit " ++ signature ++ codes ": proved")

-- The bytes are a spelling of a unit of this signature, in one of the forms of files, and the unit is safe.
pub record SpellSafeUnit (bytes signature : List ℕ) : Type 0 where
  pub unit : MethodUnit
  pub is_unit : IsUnit unit
  pub spelled : IsSpelledBy unit bytes
  pub named : signature ≡ unit_signature unit
  pub safe : IsSafe unit

-- ---- what the code knows of a unit's file once it has begun the report

-- The bytes, which were not cut, are a spelling of the unit that is read of them.
pub record AreSpelled (bytes : List ℕ) : Type 0 where
  pub whole : length bytes < READ_LIMIT
  pub is_unit : IsUnit (unit_of bytes)
  pub spelled : IsSpelledBy (unit_of bytes) bytes

-- What is held under the name is the spelling of a unit, where that is told.
abbrev pub IsHeldSpelled : Option Held → List ℕ → Type 0
IsHeldSpelled told name = (held : Held) (bytes : List ℕ) → told ≡ Some held → held name ≡ Some bytes → AreSpelled bytes

-- This holds of the file's index where the command asks for the report of a unit.
abbrev pub IfUnit : Command → (ℕ → Type 0) → Type 0
IfUnit (commands.Unit file) P = P file
IfUnit _ P = Unit {0}
