-- The stack after an array alone, and after an address alone.
use Rattle.std.specs.Prelude.{List, [], ◌∷◌, Option, None}
use Rattle.cil_model.specs.Kinds.{is_address_of, is_array_of, when}
use Rattle.cil_model.specs.declared.place.Kind.{Kind}
use Rattle.cil_model.specs.declared.place.Place.{Place}

-- An operation that takes an array of this type finds one on top, or null.
abbrev pub behind_array : Place → List Kind → Option (List Kind)
behind_array place (kind ∷ rest) = when (is_array_of place kind) rest
behind_array place [] = None

-- One that takes an address of an item of such an array finds one on top.
abbrev pub behind_address_alone : Place → List Kind → Option (List Kind)
behind_address_alone place (kind ∷ rest) = when (is_address_of place kind) rest
behind_address_alone place [] = None
