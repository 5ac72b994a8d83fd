-- Stacks of two ways that have the same kinds, as one stack that has the calls of both.
use Rattle.std.specs.Prelude.{◌≡◌, List, [], ◌∷◌, map, Option}
use Rattle.clause_faults.specs.Faults.{first_fault}
use Rattle.clause_faults.specs.SharedStacks.{either}
use Rattle.clause_faults.specs.Ways.{Told}
use Rattle.clause_faults.specs.declared.clause_fault.ClauseFault.{ClauseFault}
use Rattle.clause_faults.specs.declared.clause_fault.ClauseFault.TheVariants.{OldForm}

-- The first fault of an OldValue over the value, by its calls.
abbrev pub called_fault : Told → Option ClauseFault
called_fault told = first_fault (map OldForm told.calls)

-- A value has the kind of two others, and the first call of both.
pub record IsJoined (a b joined : Told) : Type 0 where
  pub left : joined.kind ≡ a.kind
  pub right : joined.kind ≡ b.kind
  pub calls : called_fault joined ≡ either (called_fault a) (called_fault b)

abbrev pub AreJoined : List Told → List Told → List Told → Type 0
AreJoined [] [] [] = Unit {0}
AreJoined (a ∷ left) (b ∷ right) (joined ∷ all) = IsJoined a b joined × AreJoined left right all
AreJoined _ _ _ = ⊥

-- The first fault of a stack is that of the two that are joined in it.
abbrev pub IsJoining : (List Told → Option ClauseFault) → Type 0
IsJoining fault = (a b joined : List Told) → AreJoined a b joined → fault joined ≡ either (fault a) (fault b)
