-- What callers know of a method.
use Rattle.std.specs.Prelude.{ℕ, ◌-◌, List, [], length, take}
use Rattle.asm_image.specs.Names.{types_text}
use Rattle.asm_image.specs.declared.method_row.MethodRow.{MethodRow}
use Rattle.cil_model.specs.declared.clause.Clause.{Clause}
use Rattle.cil_model.specs.declared.place.Place.TheVariants as places
use Rattle.cil_model.specs.declared.unit.CalleeInfo.{CalleeInfo}
use Rattle.method_code.specs.OfMethods.{args_of, result_of}

-- The printed name without the types of the parameters, which it ends with.
unfoldable pub unit_name : MethodRow → List ℕ
unit_name method = take (length method.name - length (types_text method.sig.types)) method.name

-- What callers know of a method with these clauses.
abbrev pub info_with : MethodRow → List Clause → CalleeInfo
info_with method clauses = record {
  name = unit_name method;
  result = result_of method.sig.types;
  args = args_of method.sig.types;
  clauses = clauses;
}

-- What is known where there is no such method.
abbrev pub no_info : CalleeInfo
no_info = record { name = []; result = places.Void; args = []; clauses = [] }
