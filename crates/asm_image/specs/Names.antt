-- The printed names of methods.
use Rattle.std.specs.Prelude.{ℕ, zero, suc, List, [], ◌∷◌, ◌++◌, codes}
use Rattle.cc_base.specs.Escapes.{escaped}
use Rattle.cil_model.specs.Places.{place_text, next_parameter, parameters_text}
use Rattle.cil_model.specs.declared.place.Place.{Place}
use Rattle.signature_blobs.specs.declared.method.SigTypes.{SigTypes}
use Rattle.signature_blobs.specs.declared.method.SigTypes.TheVariants as types
use Rattle.asm_image.specs.Cells.{type_name, namespace, method_name, signature, owner}

-- A type's name after its namespace. A point stands between, where there is a namespace.
abbrev pub qualified : List ℕ → List ℕ → List ℕ
qualified [] name = escaped name
qualified (byte ∷ bytes) name = escaped (byte ∷ bytes) ++ codes "." ++ escaped name

-- The name of the type of a row. A method without a type has row 0 here.
abbrev pub owner_text : List ℕ → ℕ → List ℕ
owner_text md zero = []
owner_text md (suc k) = qualified (namespace md (suc k)) (type_name md (suc k))

-- The type of the parameter of an index from 0 on, after a comma where it is not the first.
abbrev pub parameter_text : ℕ → Place → List ℕ
parameter_text zero place = place_text place
parameter_text (suc index) place = next_parameter place

abbrev pub types_text : SigTypes → List ℕ
types_text (types.Known known) = codes "(" ++ parameters_text known.args ++ codes ")"
types_text types.Other = codes "(?)"

-- The type and the method.
abbrev pub shortened : List ℕ → ℕ → List ℕ → List ℕ
shortened md owner name = owner_text md owner ++ codes "::" ++ escaped name

-- The same, and then the parameters.
abbrev pub printed : List ℕ → ℕ → List ℕ → SigTypes → List ℕ
printed md owner name types = shortened md owner name ++ types_text types

-- The same without the type.
abbrev pub own_name : List ℕ → ℕ → List ℕ
own_name md row = codes "::" ++ escaped (method_name md row) ++ types_text (signature md row).types

unfoldable pub short_name : List ℕ → ℕ → List ℕ
short_name md row = shortened md (owner md row) (method_name md row)

unfoldable pub printed_name : List ℕ → ℕ → List ℕ
printed_name md row = short_name md row ++ types_text (signature md row).types
