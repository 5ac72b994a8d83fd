-- Strengthened worlds: further clauses stand after those of each unit, and the same after those of each entry that
-- tells of it. All else is as it was written.
use Rattle.std.specs.Prelude.{◌≡◌, ◌⊎◌, ℕ, ◌+◌, List, [], ◌∷◌, ◌++◌, map, get_or}
use Rattle.std.specs.List.{AllByRecursion, enumerate_from}
use Rattle.cil_model.specs.Runs.{IsNoFault, Runs, Step, StepsTo}
use Rattle.cil_model.specs.Values.{Heap}
use Rattle.cil_model.specs.declared.clause.Clause.{Clause}
use Rattle.cil_model.specs.declared.clause.ClauseKind.TheVariants as kinds
use Rattle.cil_model.specs.declared.machine.Config.{Config}
use Rattle.cil_model.specs.declared.machine.Config.TheVariants as configs
use Rattle.cil_model.specs.declared.machine.FaultKind.{FaultKind}
use Rattle.cil_model.specs.declared.machine.Value.{Value}
use Rattle.cil_model.specs.declared.machine.World.{World}
use Rattle.cil_model.specs.declared.unit.CalleeInfo.{CalleeInfo}
use Rattle.cil_model.specs.declared.unit.Unit.{Unit as MethodUnit}

-- ---- clauses

-- The clauses are tested at returns alone.
abbrev pub AreEnsures : List Clause → Type 0
AreEnsures clauses = AllByRecursion (λ clause. clause.kind ≡ kinds.Ensures) clauses

-- ---- units

-- What is known of a callee, with further clauses.
abbrev pub with_clauses : CalleeInfo → List Clause → CalleeInfo
with_clauses callee added = record callee { clauses = callee.clauses ++ added }

-- Entries of callees, each with further clauses of its own, as far as there are such lists.
abbrev pub with_each : List CalleeInfo → List (List Clause) → List CalleeInfo
with_each [] lists = []
with_each (callee ∷ callees) [] = callee ∷ callees
with_each (callee ∷ callees) (added ∷ lists) = with_clauses callee added ∷ with_each callees lists

-- The unit with further clauses of its own, and with further clauses of its callees, a list for each.
abbrev pub strengthened : MethodUnit → List Clause → List (List Clause) → MethodUnit
strengthened unit own of_callees = record unit { clauses = unit.clauses ++ own; callees = with_each unit.callees of_callees }

-- ---- worlds

-- The clauses that are added to the unit of this index, where there is a list for each.
abbrev pub added_to : List (List Clause) → ℕ → List Clause
added_to added index = get_or added index []

-- The unit of this index in a world: it gains its own clauses, and what is known of each callee gains those of the
-- callee.
abbrev pub strengthened_in : List (List Clause) → World → ℕ → MethodUnit → MethodUnit
strengthened_in added w index unit = strengthened unit (added_to added index) (map (added_to added) (get_or w.callee index []))

-- The world with these clauses added, a list for each unit.
abbrev pub strengthen_world : List (List Clause) → World → World
strengthen_world added w =
    record w { units = map (λ (indexed : ℕ × MethodUnit). strengthened_in added w indexed.0 indexed.1) (enumerate_from 0 w.units) }

-- ---- steps

-- A step from there ends in a fault.
abbrev pub MayFault : World → Config → Type 0
MayFault w c = (kind : FaultKind) × (unit : ℕ) × (at : ℕ) × Step w c (configs.Fault kind unit at)

-- Until a fault, both worlds take the same steps: each step as written is one of the stronger world, which else may
-- fault there; and each step of the stronger world that is no fault is one as written.
pub record StepAlike (written stronger : World) : Type 0 where
  pub forth : (c new : Config) → Step written c new → Step stronger c new ⊎ MayFault stronger c
  pub back : (c new : Config) → Step stronger c new → IsNoFault new → Step written c new

-- ---- runs

-- On its way, a run as written passes where the stronger world may fault, which took the same steps so far.
pub record MayFaultOnTheWay (written stronger : World) (m : ℕ) (args : List Value) (heap : Heap) (n : ℕ) (c : Config) : Type 0 where
  pub passed : Config
  pub before : ℕ
  pub behind : ℕ
  pub all : before + behind ≡ n
  pub comes : Runs stronger m args heap before passed
  pub faults : MayFault stronger passed
  pub goes_on : StepsTo (Step written) passed behind c

-- Until a fault, both worlds have the same runs.
pub record RunAlike (written stronger : World) : Type 0 where
  pub forth : (m : ℕ) (args : List Value) (heap : Heap) (n : ℕ) (c : Config) → Runs written m args heap n c
      → Runs stronger m args heap n c ⊎ MayFaultOnTheWay written stronger m args heap n c
  pub back : (m : ℕ) (args : List Value) (heap : Heap) (n : ℕ) (c : Config) → Runs stronger m args heap n c → IsNoFault c
      → Runs written m args heap n c
