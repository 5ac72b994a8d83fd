-- The kinds of what variables have, and what stays of them.
use Rattle.std.specs.Prelude.{◌≡◌, ℕ, ◌+◌, ◌≤◌, List, [], ◌∷◌, ◌++◌, length, slice_get, Option, Some, None}
use Rattle.std.specs.Option.{option_and_then, option_map}
use Rattle.cil_model.specs.Kinds.{kind_of}
use Rattle.cil_model.specs.declared.place.Kind.{Kind}
use Rattle.cil_model.specs.declared.place.Kind.TheVariants as kinds
use Rattle.cil_model.specs.declared.place.Place.{Place}
use Rattle.cil_model.specs.declared.place.Place.TheVariants as places
use Rattle.frame_names.specs.declared.var.Var.{Var}
use Rattle.frame_names.specs.declared.var.Var.TheVariants as vars
use Rattle.state_facts.specs.Forms.{HasForm}
use Rattle.state_facts.specs.StateFacts.{StateFacts, State, reference_at}
use Rattle.clause_trees.specs.declared.reader.TreeEnv.{TreeEnv}

-- ---- kinds

-- The type of a reference. None for reference 0.
abbrev pub place_in : StateFacts → ℕ → Option Place
place_in known r = option_map (λ reference. reference.place) (reference_at known.references r)

abbrev pub IsOfPlace : Place → Option Place → Type 0
IsOfPlace place None = Unit {0}
IsOfPlace place (Some other) = other ≡ place

-- What a variable has is a number, or a reference of this type, or an address in an array of it. Reference 0 is one of
-- each type, but no address is in it.
abbrev pub IsOfKind : StateFacts → Kind → Var → Type 0
IsOfKind known kinds.Int (vars.Number e) = Unit {0}
IsOfKind known kinds.Ints (vars.Reference r) = IsOfPlace places.Ints (place_in known r)
IsOfKind known kinds.Bools (vars.Reference r) = IsOfPlace places.Bools (place_in known r)
IsOfKind known kinds.NullRef (vars.Reference r) = r ≡ 0
IsOfKind known kinds.AddrInts (vars.Address r e) = place_in known r ≡ Some places.Ints
IsOfKind known kinds.AddrBools (vars.Address r e) = place_in known r ≡ Some places.Bools
IsOfKind known _ _ = ⊥

-- The variable is there, and of the kind.
abbrev pub IsOneOfKind : StateFacts → Kind → Option Var → Type 0
IsOneOfKind known kind None = ⊥
IsOneOfKind known kind (Some v) = IsOfKind known kind v

-- Trees of a method of these arguments and this result can be read: what is known has its form, and the variables that
-- the environment names are there and of the kinds of their types.
pub record IsReadable (env : TreeEnv) (args : List Place) (result : Place) (known : StateFacts) : Type 0 where
  pub form : HasForm known
  pub args_fit : (n : ℕ) (kind : Kind) → option_and_then kind_of (slice_get args n) ≡ Some kind
      → IsOneOfKind known kind (slice_get known.variables (env.args + n))
  pub result_fits : (i : ℕ) (kind : Kind) → env.result ≡ Some i → kind_of result ≡ Some kind
      → IsOneOfKind known kind (slice_get known.variables i)

-- ---- what stays

-- What was there is there still: no symbol and no reference is lost, and each reference has its type.
pub record IsGrown (before after : StateFacts) : Type 0 where
  pub form : HasForm after
  pub symbols : length before.facts.ranges ≤ length after.facts.ranges
  pub references : length before.references ≤ length after.references
  pub places : (r : ℕ) → r ≤ length before.references → place_in after r ≡ place_in before r

-- Besides, one more variable, of this kind, lies on those that were there.
pub record IsPushed (before : StateFacts) (kind : Kind) (after : StateFacts) : Type 0 where
  pub grown : IsGrown before after
  pub top : Var
  pub variables_are : after.variables ≡ before.variables ++ top ∷ []
  pub of_kind : IsOfKind after kind top

abbrev pub IsPushedIn : StateFacts → Kind → State → Type 0
IsPushedIn before kind None = Unit {0}
IsPushedIn before kind (Some after) = IsPushed before kind after

-- ---- the same forms, in other names

-- Both have a number, or a text, or references of one type, or reference 0, or addresses of such references.
abbrev pub IsSameForm : (a b : StateFacts) → Var → Var → Type 0
IsSameForm a b (vars.Number e) (vars.Number f) = Unit {0}
IsSameForm a b (vars.Reference r) (vars.Reference q) = place_in b q ≡ place_in a r
IsSameForm a b vars.Text vars.Text = Unit {0}
IsSameForm a b (vars.Address r e) (vars.Address q f) = place_in b q ≡ place_in a r
IsSameForm a b _ _ = ⊥

abbrev pub AreSameForms : (a b : StateFacts) → List Var → List Var → Type 0
AreSameForms a b [] [] = Unit {0}
AreSameForms a b (x ∷ xs) (y ∷ ys) = IsSameForm a b x y × AreSameForms a b xs ys
AreSameForms a b _ _ = ⊥

-- As many variables, of the same forms.
pub record HasSameForms (before after : StateFacts) : Type 0 where
  pub form : HasForm after
  pub variables : AreSameForms before after before.variables after.variables

abbrev pub HasSameFormsIn : StateFacts → State → Type 0
HasSameFormsIn before None = Unit {0}
HasSameFormsIn before (Some after) = HasSameForms before after
