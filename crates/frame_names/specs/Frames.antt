-- The variables of a state, and its table of references.
use Rattle.std.specs.Prelude.{◌≡◌, ℕ, ◌-◌, ◌==◌, pos, Bool, true, false, List, [], ◌∷◌, slice_get, Option, Some, None, if◌then◌else◌}
use Rattle.std.specs.List.{AllByRecursion, filter_map}
use Rattle.cil_model.specs.Places.{place_number}
use Rattle.cil_model.specs.declared.place.Place.{Place}
use Rattle.domain_api.specs.declared.expr.Expr.{Expr}
use Rattle.alias_facts.specs.declared.nullness.Nullness.{Nullness}
use Rattle.alias_facts.specs.declared.nullness.Nullness.TheVariants as nullness
use Rattle.symbolic_values.specs.Pairing.{AreNear, IsNear}
use Rattle.frame_names.specs.declared.reference.Reference.{Reference}
use Rattle.frame_names.specs.declared.var.Var.{Var}
use Rattle.frame_names.specs.declared.var.Var.TheVariants as vars

-- ---- variables

abbrev pub number_in : Var → Option Expr
number_in (vars.Number e) = Some e
number_in (vars.Reference r) = None
number_in vars.Text = None
number_in (vars.Address r e) = Some e

abbrev pub reference_in : Var → Option ℕ
reference_in (vars.Number e) = None
reference_in (vars.Reference r) = Some r
reference_in vars.Text = None
reference_in (vars.Address r e) = Some r

-- The numbers of variables, and their references, in order. An address has both.
abbrev pub numbers_of : List Var → List Expr
numbers_of vs = filter_map number_in vs

abbrev pub references_of : List Var → List ℕ
references_of vs = filter_map reference_in vs

abbrev pub same_kind : Var → Var → Bool
same_kind (vars.Number e) (vars.Number f) = true
same_kind (vars.Number e) _ = false
same_kind (vars.Reference r) (vars.Reference q) = true
same_kind (vars.Reference r) _ = false
same_kind vars.Text vars.Text = true
same_kind vars.Text _ = false
same_kind (vars.Address r e) (vars.Address q f) = true
same_kind (vars.Address r e) _ = false

-- Both lists are as long, and at each index both have a number, a reference, a text or an address.
abbrev pub AreAlike : List Var → List Var → Type 0
AreAlike [] [] = Unit {0}
AreAlike (x ∷ xs) (y ∷ ys) = (same_kind x y ≡ true) × AreAlike xs ys
AreAlike _ _ = ⊥

-- ---- references. Reference 0, and one that is not there, is null, has the length 0, and is of no place

abbrev pub reference_at : List Reference → ℕ → Option Reference
reference_at references r = if r == 0 then None else slice_get references (r - 1)

abbrev pub length_in : Option Reference → Expr
length_in None = record { sym = 0; k = pos 0 }
length_in (Some known) = known.length

abbrev pub nullness_in : Option Reference → Nullness
nullness_in None = nullness.Null
nullness_in (Some known) = known.nullness

abbrev pub place_in : Option Reference → Option Place
place_in None = None
place_in (Some known) = Some known.place

abbrev pub length_at : List Reference → ℕ → Expr
length_at references r = length_in (reference_at references r)

abbrev pub nullness_at : List Reference → ℕ → Nullness
nullness_at references r = nullness_in (reference_at references r)

abbrev pub place_at : List Reference → ℕ → Option Place
place_at references r = place_in (reference_at references r)

-- The constants of numbers and lengths are those of -2^32 to 2^32.
pub record IsNearFrame (vs : List Var) (references : List Reference) : Type 0 where
  pub numbers : AreNear (numbers_of vs)
  pub lengths : AllByRecursion (λ known. IsNear known.length) references

abbrev pub are_one_place : Option Place → Option Place → Bool
are_one_place (Some a) (Some b) = place_number a == place_number b
are_one_place _ _ = false
