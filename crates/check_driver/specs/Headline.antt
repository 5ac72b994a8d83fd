-- What the printed reports of a call's assemblies mean.
use Rattle.std.specs.Prelude.{◌≡◌, ℕ, List, ◌++◌, Option, Some, Contains, slice_get}
use Rattle.asm_image.specs.Rows.{methods_of}
use Rattle.asm_image.specs.declared.method_row.MethodRow.{MethodRow}
use Rattle.cc_base.specs.Files.{Held}
use Rattle.cil_model.specs.Runs.{Safe}
use Rattle.cil_model.specs.declared.machine.World.{World}
use Rattle.cil_model.specs.declared.unit.Unit.{Unit as MethodUnit}
use Rattle.command_words.specs.Words.{checked_names}
use Rattle.safe_worlds.specs.Strengthened.{RunAlike}
use Rattle.safe_worlds.specs.Worlds.{FramesKeep, RunsGiveFreely}
use Rattle.unit_builder.specs.Outcomes.{outcome_of}
use Rattle.unit_builder.specs.Reach.{Reaches}
use Rattle.unit_builder.specs.Walks.{calls_of}
use Rattle.unit_builder.specs.WorldOf.{world_of}
use Rattle.unit_builder.specs.declared.entry.Outcome.TheVariants.{Analysed}
use Rattle.unit_verdicts.specs.Picks.{Pick}
use Rattle.assembly_reports.specs.InferredUnits.{inferred_world}
use Rattle.assembly_reports.specs.Sections.{HasProvedLine}

-- The words ask for the reports of assemblies, and the file of the k-th of them, counted from 0, is held with these
-- bytes.
pub record IsAssemblyOf (words : List (List ℕ)) (held : Held) (k : ℕ) (bytes : List ℕ) : Type 0 where
  pub name : List ℕ
  pub kth : slice_get (checked_names words) k ≡ Some name
  pub is_held : held name ≡ Some bytes

-- This text was appended to a sink.
pub record WasAppended (old new : Option (List ℕ)) (text : List ℕ) : Type 0 where
  pub before : List ℕ
  pub was : old ≡ Some before
  pub is : new ≡ Some (before ++ text)

-- These lines tell each method that can be reached by calls from this one, and this one itself, to be proved.
abbrev pub TellAllProved : List (List ℕ) → List ℕ → MethodRow → Type 0
TellAllProved lines bytes method =
    (reached : MethodRow) → Contains (methods_of bytes) reached → Reaches (calls_of bytes) method.token.0 reached.token.0
    → HasProvedLine lines reached

-- The method is analysed, and the first unit of its world is its own.
pub record BeginsItsWorld (bytes : List ℕ) (method : MethodRow) : Type 0 where
  pub unit : MethodUnit
  pub analysed : outcome_of bytes method ≡ Analysed unit
  pub first : slice_get (world_of bytes method.token.0).units 0 ≡ Some unit

-- In each run of the world a frame keeps the arrays that it was not passed, until it is gone, and what is returned is
-- what the callers of the method know of it.
pub record RunsKeepArrays (w : World) : Type 0 where
  pub frames : FramesKeep w
  pub results : RunsGiveFreely w

-- With what is inferred, under this pick, of each method that it reaches, the world of the method of a token is safe.
-- Until a fault that world has the runs of the world as it is written, and so that one is safe.
pub record IsSafeInferred (pick : Pick) (bytes : List ℕ) (token : ℕ) : Type 0 where
  pub stronger : Safe (inferred_world pick bytes token) 0
  pub alike : RunAlike (world_of bytes token) (inferred_world pick bytes token)
  pub written : Safe (world_of bytes token) 0
