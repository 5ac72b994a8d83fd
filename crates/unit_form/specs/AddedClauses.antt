-- The clauses of a unit that were added to those that its code tells.
use Rattle.std.specs.Prelude.{ℕ, List, drop, count_by, is_some}
use Rattle.std.specs.List.{AllByRecursion}
use Rattle.cil_model.specs.ClauseTrees.{closing}
use Rattle.cil_model.specs.TreeKinds.{IsNumberClause}
use Rattle.cil_model.specs.WellFormed.{ClausesWithinLimits, IsAdded}
use Rattle.cil_model.specs.declared.clause.Clause.{Clause}
use Rattle.cil_model.specs.declared.instruction.Instr.{Instr}
use Rattle.cil_model.specs.declared.place.Place.{Place}
use Rattle.cil_model.specs.declared.unit.Unit.{Unit as MethodUnit}

-- How many clauses the calls of these instructions close.
abbrev pub closed_count : List Instr → ℕ
closed_count is = count_by (λ i. is_some (closing i.op)) is

-- All that stand after those of the code.
abbrev pub added_clauses : MethodUnit → List Clause
added_clauses unit = drop (closed_count unit.instrs) unit.clauses

-- Clauses that may be added to those of a method of these arguments and this result.
pub record MayBeAdded (args : List Place) (result : Place) (clauses : List Clause) : Type 0 where
  pub ensures : AllByRecursion IsAdded clauses
  pub limits : ClausesWithinLimits clauses
  pub numbers : AllByRecursion (IsNumberClause args result) clauses
