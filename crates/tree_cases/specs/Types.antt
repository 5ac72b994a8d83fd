-- The types of the values that variables have.
use Rattle.std.specs.Prelude.{ℕ, suc, List, [], ◌∷◌, Option, Some, None, slice_get}
use Rattle.cil_model.specs.Kinds.{kind_of}
use Rattle.cil_model.specs.Terms.{Term, Const}
use Rattle.cil_model.specs.TermCodes.{ConstRoot}
use Rattle.cil_model.specs.WellFormed.{IsIntRoot}
use Rattle.cil_model.specs.declared.place.Kind.{Kind}
use Rattle.cil_model.specs.declared.place.Place.{Place}
use Rattle.clause_trees.specs.VariableKinds.{IsOneOfKind}
use Rattle.frame_names.specs.declared.var.Var.{Var}
use Rattle.state_facts.specs.StateFacts.{StateFacts}

-- What a variable has is of this kind. No value is void, and a variable of it may have anything.
abbrev pub IsOfKindOf : StateFacts → Option Kind → Option Var → Type 0
IsOfKindOf known None v = Unit {0}
IsOfKindOf known (Some kind) v = IsOneOfKind known kind v

abbrev pub IsOfType : StateFacts → Place → Option Var → Type 0
IsOfType known place v = IsOfKindOf known (kind_of place) v

-- The variables from a list index on are of these types.
abbrev pub AreOfTypes : StateFacts → ℕ → List Place → Type 0
AreOfTypes known i [] = Unit {0}
AreOfTypes known i (place ∷ others) =
    IsOfType known place (slice_get known.variables i) × AreOfTypes known (suc i) others

-- The variable that has the result, if there is one, is of this type.
abbrev pub IsResultOf : StateFacts → Option ℕ → Place → Type 0
IsResultOf known None place = Unit {0}
IsResultOf known (Some i) place = IsOfType known place (slice_get known.variables i)

-- If a term is a constant, it is int32.
abbrev pub IsLeafOfInt : Term → Type 0
IsLeafOfInt (Const n) = IsIntRoot (ConstRoot n)
IsLeafOfInt t = Unit {0}
