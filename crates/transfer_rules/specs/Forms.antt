-- States whose variables have the forms of kinds.
use Rattle.std.specs.Prelude.{◌≡◌, ℕ, Bool, true, false, List, [], ◌∷◌, ◌++◌, map, reverse, Option, Some, None}
use Rattle.std.specs.Option.{option_map_or}
use Rattle.cil_model.specs.Values.{same_place}
use Rattle.cil_model.specs.declared.place.Kind.{Kind}
use Rattle.cil_model.specs.declared.place.Kind.TheVariants as kinds
use Rattle.cil_model.specs.declared.place.Place.{Place}
use Rattle.cil_model.specs.declared.place.Place.TheVariants as places
use Rattle.cil_model.specs.declared.unit.Unit.{Unit as MethodUnit}
use Rattle.frame_names.specs.declared.var.Var.{Var}
use Rattle.frame_names.specs.declared.var.Var.TheVariants as vars
use Rattle.state_facts.specs.Forms.{HasForm}
use Rattle.state_facts.specs.StateFacts.{StateFacts, State, reference_at}

-- Reference 0, or one to arrays of this type.
abbrev pub is_of_place : StateFacts → Place → ℕ → Bool
is_of_place known place r =
    option_map_or (λ reference. same_place reference.place place) (reference_at known.references r) true

-- One to arrays of this type, which reference 0 is not.
abbrev pub is_array_of_place : StateFacts → Place → ℕ → Bool
is_array_of_place known place r =
    option_map_or (λ reference. same_place reference.place place) (reference_at known.references r) false

-- What a variable has fits the kind. Reference 0 fits both kinds of arrays, and an address in it fits none.
abbrev pub FitsKind : StateFacts → Kind → Var → Type 0
FitsKind known kinds.Int (vars.Number e) = Unit {0}
FitsKind known kinds.Native (vars.Number e) = Unit {0}
FitsKind known kinds.Ints (vars.Reference r) = is_of_place known places.Ints r ≡ true
FitsKind known kinds.Bools (vars.Reference r) = is_of_place known places.Bools r ≡ true
FitsKind known kinds.NullRef (vars.Reference r) = r ≡ 0
FitsKind known kinds.Text vars.Text = Unit {0}
FitsKind known kinds.AddrInts (vars.Address r i) = is_array_of_place known places.Ints r ≡ true
FitsKind known kinds.AddrBools (vars.Address r i) = is_array_of_place known places.Bools r ≡ true
FitsKind known kind v = ⊥

abbrev pub FitKinds : StateFacts → List Kind → List Var → Type 0
FitKinds known [] [] = Unit {0}
FitKinds known (kind ∷ kinds) (v ∷ vs) = FitsKind known kind v × FitKinds known kinds vs
FitKinds known kinds vs = ⊥

-- The kind of a variable of this type.
abbrev pub kind_in : Place → Kind
kind_in places.Bools = kinds.Bools
kind_in places.Ints = kinds.Ints
kind_in places.Bool = kinds.Int
kind_in places.Int = kinds.Int
kind_in places.Void = kinds.Int

-- The kinds of a frame's variables over a stack of these kinds, the top first: the arguments at the entry, the
-- arguments, the locals, and the stack from the bottom.
abbrev pub kinds_over : MethodUnit → List Kind → List Kind
kinds_over unit stack = map kind_in unit.args ++ map kind_in unit.args ++ map kind_in unit.locals ++ reverse stack

-- What is known has its form, and its variables fit these kinds.
pub record HasKinds (ks : List Kind) (known : StateFacts) : Type 0 where
  pub form : HasForm known
  pub fit : FitKinds known ks known.variables

-- A state over a stack of these kinds: nothing is reached, or its variables fit. Where typing does not come, nothing is
-- reached.
abbrev pub FitsStack : MethodUnit → Option (List Kind) → State → Type 0
FitsStack unit stack None = Unit {0}
FitsStack unit None (Some known) = ⊥
FitsStack unit (Some stack) (Some known) = HasKinds (kinds_over unit stack) known
