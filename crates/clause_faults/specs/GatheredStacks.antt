-- Arrivals of which equal ones are gathered to one.
use Rattle.std.specs.Prelude.{◌≡◌, ◌⊎◌, ℕ, List, [], ◌∷◌, ◌++◌, Option, slice_get, slice_set, Some}
use Rattle.clause_faults.specs.JoinedStacks.{IsJoining}
use Rattle.clause_faults.specs.SharedStacks.{AreGrounded, Stacks, least_over, lower}
use Rattle.clause_faults.specs.Ways.{Told}
use Rattle.clause_faults.specs.declared.ways.arrivals.Arrival.{Arrival}
use Rattle.clause_faults.specs.declared.ways.arrivals.Arrival.TheVariants.{Empty, Over}
use Rattle.clause_faults.specs.declared.clause_fault.ClauseFault.{ClauseFault}

-- One arrival for two that differ in their calls alone.
abbrev pub IsJoinOf : Arrival → Arrival → Arrival → Type 0
IsJoinOf Empty Empty Empty = Unit {0}
IsJoinOf (Over a m) (Over b n) (Over joined l) =
    (joined.kind ≡ a.kind) × (joined.kind ≡ b.kind) × (joined.call ≡ lower a.call b.call) × (l ≡ m) × (l ≡ n)
IsJoinOf _ _ _ = ⊥

-- An arrival is joined with one of a list.
pub record IsJoinedInto (old : List Arrival) (arrival : Arrival) (new : List Arrival) : Type 0 where
  pub place : ℕ
  pub there : Arrival
  pub joined : Arrival
  pub is : slice_get old place ≡ Some there
  pub join : IsJoinOf there arrival joined
  pub are : new ≡ slice_set old place joined

-- An arrival is put to a list, where it is joined with an equal one or is the last.
abbrev pub IsPut : List Arrival → Arrival → List Arrival → Type 0
IsPut old arrival new = (new ≡ old ++ arrival ∷ []) ⊎ IsJoinedInto old arrival new

-- Other arrivals that stand for the same.
pub record StandForSame (old new : List Arrival) : Type 0 where
  pub same : (most : ℕ) (stacks : Stacks) (fault : List Told → Option ClauseFault) → IsJoining fault → least_over most stacks fault new ≡ least_over most stacks fault old
  pub grounded : (stacks : Stacks) (index : ℕ) → AreGrounded stacks index old → AreGrounded stacks index new
