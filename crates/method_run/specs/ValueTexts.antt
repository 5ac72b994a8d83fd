-- What a method returned, as text.
use Rattle.std.specs.Prelude.{ℕ, List, [], ◌++◌, Option, Some, None, codes}
use Rattle.std.specs.Option.{option_map_or}
use Rattle.cil_model.specs.Values.{Heap}
use Rattle.cil_model.specs.declared.machine.Value.{Value}
use Rattle.cil_model.specs.declared.machine.Value.TheVariants as values
use Rattle.cil_model.specs.declared.place.Place.{Place}
use Rattle.clause_eval.specs.Lookups.{items_at}
use Rattle.run_arguments.specs.Texts.{items_text, number_text}

-- A value of this type, over this heap. There are values that no type has: they have no text.
abbrev pub value_text : Place → Heap → Value → List ℕ
value_text place heap (values.Int n) = number_text place n
value_text place heap values.Null = codes "null"
value_text place heap (values.Array index) = option_map_or (items_text place) (items_at heap index) []
value_text place heap _ = []

-- What was returned, where the method's result has this type.
abbrev pub returned_text : Place → Heap → Option Value → List ℕ
returned_text place heap None = codes "returned"
returned_text place heap (Some value) = codes "returned " ++ value_text place heap value
