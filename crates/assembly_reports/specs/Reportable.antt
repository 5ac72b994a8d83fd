-- What is known of assemblies that are reported, and of the methods that a report tells to be proved.
use Rattle.std.specs.Prelude.{◌≡◌, ℕ, List, None}
use Rattle.std.specs.List.{AllByRecursion}
use Rattle.asm_image.specs.Faults.{FirstBroken}
use Rattle.asm_image.specs.declared.method_row.MethodRow.{MethodRow}
use Rattle.cil_model.specs.declared.unit.Unit.{Unit as MethodUnit}
use Rattle.invariant_checker.specs.Safety.{IsSafe}
use Rattle.method_unit.specs.Units.{IsUnit}
use Rattle.unit_builder.specs.FileSets.{FileSet, files_in}
use Rattle.unit_builder.specs.Outcomes.{IfAnalysed, entries_in, entries_of, outcome_of}
use Rattle.unit_builder.specs.declared.entry.MethodEntry.{MethodEntry}
use Rattle.unit_builder.specs.declared.entry.Outcome.TheVariants.{Analysed}
use Rattle.unit_verdicts.specs.Picks.{Pick}
use Rattle.assembly_reports.specs.InferredUnits.{inferred_outcome}

-- ---- files

-- An entry for each method of the file of a list index.
abbrev pub entries_at : FileSet → ℕ → List MethodEntry
entries_at files file = entries_in (files_in files) file

-- The units of methods can be run.
abbrev pub CanRun : List MethodEntry → Type 0
CanRun entries = AllByRecursion (λ entry. IfAnalysed entry.outcome IsUnit) entries

-- The rest of the project may know all of each method's unit that it knows of units that are read.
abbrev pub AreRunnable : List ℕ → Type 0
AreRunnable bytes = CanRun (entries_of bytes)

-- The file is an assembly, and the report of it tells what it means: each unit can be run.
pub record IsReportable (bytes : List ℕ) : Type 0 where
  pub accepted : FirstBroken bytes ≡ None
  pub runnable : AreRunnable bytes

-- ---- methods

-- The method is analysed, and its unit is safe.
pub record IsSafeMethod (bytes : List ℕ) (method : MethodRow) : Type 0 where
  pub unit : MethodUnit
  pub analysed : outcome_of bytes method ≡ Analysed unit
  pub safe : IsSafe unit

-- So is its unit with what is inferred, under this pick, of it and of the methods that it calls.
pub record IsSafeWithInferred (pick : Pick) (bytes : List ℕ) (method : MethodRow) : Type 0 where
  pub unit : MethodUnit
  pub analysed : inferred_outcome pick bytes method ≡ Analysed unit
  pub safe : IsSafe unit
