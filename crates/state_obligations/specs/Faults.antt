-- When an operation of the machine ends in a fault: where one of its conditions is not met.
use Rattle.std.specs.Prelude.{◌≡◌, ℕ, ℤ, List, [], ◌∷◌, Option, Result, Ok, Err, ◌⊎◌}
use Rattle.cil_model.specs.Effects.{Effect, Faults, HasEffect}
use Rattle.cil_model.specs.Values.{Heap}
use Rattle.cil_model.specs.declared.machine.FaultKind.{FaultKind}
use Rattle.state_obligations.specs.Conditions.{fault_of}
use Rattle.state_obligations.specs.Meaning.{AreMet, IsMet}
use Rattle.state_obligations.specs.declared.condition.Condition.{Condition}

-- One of the conditions is not met, those before it are, and this is its fault.
abbrev pub IsFirstUnmet : FaultKind → List Condition → Heap → (ℕ → ℤ) → (ℕ → Option ℕ) → Type 0
IsFirstUnmet fault [] heap number array = ⊥
IsFirstUnmet fault (c ∷ cs) heap number array =
    ((IsMet c heap number array → ⊥) × (fault ≡ fault_of c))
    ⊎ (IsMet c heap number array × IsFirstUnmet fault cs heap number array)

-- A number comes where all conditions are met, and else the fault of the first that is not.
abbrev pub FaultsWhereUnmet : List Condition → Heap → (ℕ → ℤ) → (ℕ → Option ℕ) → Result ℤ FaultKind → Type 0
FaultsWhereUnmet cs heap number array (Ok n) = AreMet cs heap number array
FaultsWhereUnmet cs heap number array (Err fault) = IsFirstUnmet fault cs heap number array

abbrev pub HasNoFault : List Effect → Type 0
HasNoFault effects = (fault : FaultKind) → HasEffect effects (Faults fault) → ⊥

-- One of the conditions is not met, and the fault of the first such is all that may come.
pub record EndsInFault (cs : List Condition) (heap : Heap) (number : ℕ → ℤ) (array : ℕ → Option ℕ) (effects : List Effect)
    : Type 0 where
  pub fault : FaultKind
  pub first : IsFirstUnmet fault cs heap number array
  pub alone : effects ≡ Faults fault ∷ []

-- What an instruction may do: no fault comes where all conditions are met, and nothing but the fault of the first that
-- is not met comes else.
abbrev pub EffectsFaultWhereUnmet : List Condition → Heap → (ℕ → ℤ) → (ℕ → Option ℕ) → List Effect → Type 0
EffectsFaultWhereUnmet cs heap number array effects =
    (AreMet cs heap number array × HasNoFault effects) ⊎ EndsInFault cs heap number array effects
