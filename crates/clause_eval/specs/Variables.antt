-- Places of variables.
use Rattle.cil_model.specs.declared.place.Place.{Place}
use Rattle.cil_model.specs.declared.place.Place.TheVariants as places

-- The place is one of arrays.
abbrev pub IsArrays : Place → Type 0
IsArrays places.Bools = Unit {0}
IsArrays places.Ints = Unit {0}
IsArrays _ = ⊥
