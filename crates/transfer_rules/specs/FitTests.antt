-- Whether the variables of states have the forms of kinds, as tests. specs/Forms.antt says what they mean.
use Rattle.std.specs.Prelude.{ℕ, ◌+◌, ◌==◌, Bool, true, false, not, ◌&&◌, ◌||◌, List, [], ◌∷◌, map, length, slice_get, Option, Some}
use Rattle.cil_model.specs.Values.{same_place}
use Rattle.cil_model.specs.declared.place.Kind.{Kind}
use Rattle.cil_model.specs.declared.place.Kind.TheVariants as kinds
use Rattle.cil_model.specs.declared.place.Place.{Place}
use Rattle.cil_model.specs.declared.place.Place.TheVariants as places
use Rattle.cil_model.specs.declared.unit.Unit.{Unit as MethodUnit}
use Rattle.frame_names.specs.declared.var.Var.{Var}
use Rattle.frame_names.specs.declared.var.Var.TheVariants as vars
use Rattle.state_facts.specs.Moves.{place_at}
use Rattle.state_facts.specs.StateFacts.{StateFacts, State, variables_in}
use Rattle.transfer_rules.specs.Forms.{kind_in}

-- Reference 0, or one to arrays of this type.
abbrev pub is_null_or : Place → ℕ → StateFacts → Bool
is_null_or place r known = r == 0 || same_place (place_at known r) place

-- One to arrays of this type, which reference 0 is not.
abbrev pub is_one_of : Place → ℕ → StateFacts → Bool
is_one_of place r known = not (r == 0) && same_place (place_at known r) place

-- What a variable has fits a kind.
abbrev pub fits_kind : Kind → Var → StateFacts → Bool
fits_kind kinds.Int (vars.Number e) known = true
fits_kind kinds.Native (vars.Number e) known = true
fits_kind kinds.Ints (vars.Reference r) known = is_null_or places.Ints r known
fits_kind kinds.Bools (vars.Reference r) known = is_null_or places.Bools r known
fits_kind kinds.NullRef (vars.Reference r) known = r == 0
fits_kind kinds.Text vars.Text known = true
fits_kind kinds.AddrInts (vars.Address r i) known = is_one_of places.Ints r known
fits_kind kinds.AddrBools (vars.Address r i) known = is_one_of places.Bools r known
fits_kind kind v known = false

-- The variable is there, and fits.
abbrev pub fits_there : Kind → Option Var → State → Bool
fits_there kind (Some v) (Some known) = fits_kind kind v known
fits_there kind v state = false

-- So the variables from this list index on, each its kind.
abbrev pub fit_from : State → List Kind → ℕ → Bool
fit_from state [] i = true
fit_from state (kind ∷ kinds) i =
    fits_there kind (slice_get (variables_in state) i) state && fit_from state kinds (i + 1)

-- The variables of a frame over a stack of these kinds, the bottom first, fit.
abbrev pub fit_frame : MethodUnit → List Kind → State → Bool
fit_frame unit stack state =
    fit_from state (map kind_in unit.args) 0
    && fit_from state (map kind_in unit.args) (length unit.args)
    && fit_from state (map kind_in unit.locals) (length unit.args + length unit.args)
    && fit_from state stack (length unit.args + length unit.args + length unit.locals)

-- There is one for each, and they fit.
abbrev pub fit_stack : MethodUnit → List Kind → State → Bool
fit_stack unit stack state =
    length (variables_in state) == length unit.args + length unit.args + length unit.locals + length stack
    && fit_frame unit stack state
