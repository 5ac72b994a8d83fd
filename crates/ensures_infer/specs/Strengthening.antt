-- When Ensures may be added to the clauses of a unit, and of the methods that it calls. What becomes of it is in
-- Rattle.safe_worlds.specs.Strengthened.
use Rattle.std.specs.Prelude.{List, [], ◌∷◌, ◌++◌}
use Rattle.std.specs.List.{AllByRecursion}
use Rattle.cil_model.specs.TreeKinds.{IsNumberClause}
use Rattle.cil_model.specs.WellFormed.{ClausesWithinLimits, IsAdded}
use Rattle.cil_model.specs.declared.clause.Clause.{Clause}
use Rattle.cil_model.specs.declared.place.Place.{Place}
use Rattle.cil_model.specs.declared.unit.CalleeInfo.{CalleeInfo}

-- Clauses may be added to those of a method of these arguments and this result: they are Ensures of it, their trees
-- are numbers, and all together are within the limits.
pub record CanBeAdded (args : List Place) (result : Place) (clauses added : List Clause) : Type 0 where
  pub ensures : AllByRecursion IsAdded added
  pub numbers : AllByRecursion (IsNumberClause args result) added
  pub limits : ClausesWithinLimits (clauses ++ added)

abbrev pub CanBeAddedTo : CalleeInfo → List Clause → Type 0
CanBeAddedTo callee added = CanBeAdded callee.args callee.result callee.clauses added

-- There is a list for each callee, and its clauses may be added.
abbrev pub CanBeAddedToEach : List CalleeInfo → List (List Clause) → Type 0
CanBeAddedToEach [] [] = Unit {0}
CanBeAddedToEach (callee ∷ callees) (clauses ∷ added) =
    CanBeAddedTo callee clauses × CanBeAddedToEach callees added
CanBeAddedToEach callees added = ⊥
