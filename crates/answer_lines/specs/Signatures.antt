-- Methods with the types of their parameters, as text.
use Rattle.std.specs.Prelude.{ℕ, List, ◌++◌, codes}
use Rattle.cil_model.specs.Places.{parameters_text}
use Rattle.cil_model.specs.declared.place.Place.{Place}
use Rattle.cil_model.specs.declared.unit.Unit.{Unit as MethodUnit}

-- A method's name with its parameters' types.
unfoldable pub signature_text : List ℕ → List Place → List ℕ
signature_text name types = name ++ codes "(" ++ parameters_text types ++ codes ")"

abbrev pub unit_signature : MethodUnit → List ℕ
unit_signature unit = signature_text unit.name unit.args
