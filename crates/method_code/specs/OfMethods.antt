-- The code of a method of an assembly, whose tokens have a meaning, and what callers know of it.
use Rattle.std.specs.Prelude.{◌≡◌, ℕ, Bool, true, false, ◌&&◌, List, [], filter_map, Option, Some, None, is_none, if◌then◌else◌}
use Rattle.std.specs.List.{list_all}
use Rattle.std.specs.Option.{option_map_or, option_and_then}
use Rattle.asm_image.specs.Bodies.{has_il_body}
use Rattle.asm_image.specs.declared.method_row.MethodRow.{MethodRow}
use Rattle.cc_base.specs.Tests.{first_of}
use Rattle.cil_model.specs.ClauseTrees.{clauses_in}
use Rattle.cil_model.specs.Clauses.{is_kind}
use Rattle.cil_model.specs.TreeKinds.{kind_in}
use Rattle.cil_model.specs.declared.clause.Clause.{Clause}
use Rattle.cil_model.specs.declared.clause.ClauseKind.TheVariants.{Ensures}
use Rattle.cil_model.specs.declared.instruction.Instr.{Instr}
use Rattle.cil_model.specs.declared.place.Kind.{Kind}
use Rattle.cil_model.specs.declared.place.Kind.TheVariants as kinds
use Rattle.cil_model.specs.declared.place.Place.{Place}
use Rattle.cil_model.specs.declared.place.Place.TheVariants as places
use Rattle.cil_model.specs.declared.shape.Shape.{Shape}
use Rattle.clause_faults.specs.Faults.{first_clause_fault}
use Rattle.il_decoder.specs.Body.{body_code}
use Rattle.il_decoder.specs.Decoding.{code_tests, instructions_of}
use Rattle.method_code.specs.Meanings.{Meaning}
use Rattle.method_code.specs.Numbering.{numbered}
use Rattle.method_unit.specs.UnitFile.{clause_told}
use Rattle.signature_blobs.specs.declared.method.SigTypes.{SigTypes}
use Rattle.signature_blobs.specs.declared.method.SigTypes.TheVariants as types

-- ---- code

-- The bytes of the code, where the method has a body of IL that stands there whole.
abbrev pub code_of : List ℕ → MethodRow → Option (List ℕ)
code_of asm method = if has_il_body method then body_code asm method.rva else None

-- The numbered instructions of code without a fault.
abbrev pub decoded_instrs : Meaning → List ℕ → Option (List Instr)
decoded_instrs meaning code = if is_none (first_of (code_tests code)) then Some (numbered meaning (instructions_of code)) else None

-- The numbered instructions of a method, where its code is there and decodes.
unfoldable pub instrs_of : Meaning → List ℕ → MethodRow → Option (List Instr)
instrs_of meaning asm method = option_and_then (decoded_instrs meaning) (code_of asm method)

-- ---- what clauses depend on besides the code

abbrev pub result_of : SigTypes → Place
result_of (types.Known signature) = signature.result
result_of types.Other = places.Void

abbrev pub args_of : SigTypes → List Place
args_of (types.Known signature) = signature.args
args_of types.Other = []

-- A shape with the result and the arguments of the signature, and with nothing else.
abbrev pub bare_shape : MethodRow → Shape
bare_shape method = record {
  result = result_of method.sig.types;
  args = args_of method.sig.types;
  locals = [];
  max_stack = 0;
  callees = [];
}

-- The shape has the result and the arguments of the method.
pub record HasSignature (method : MethodRow) (shape : Shape) : Type 0 where
  pub result : shape.result ≡ result_of method.sig.types
  pub args : shape.args ≡ args_of method.sig.types

-- ---- clauses

-- The clauses that code tells.
abbrev pub told_clauses : List Instr → List Clause
told_clauses is = filter_map clause_told (clauses_in is)

abbrev pub is_number : Option Kind → Bool
is_number (Some kinds.Int) = true
is_number _ = false

-- The clause of a method of this shape is a number.
abbrev pub is_number_clause : Shape → Clause → Bool
is_number_clause shape clause = is_number (kind_in shape.args shape.result (is_kind Ensures clause.kind) clause.tree)

-- The clauses of instructions of this shape, where they can be read from them and each is a number; else none.
abbrev pub known_clauses : Shape → List Instr → List Clause
known_clauses shape is =
    if is_none (first_clause_fault is shape) && list_all (is_number_clause shape) (told_clauses is) then told_clauses is else []

-- What callers know of a method: its clauses. Its locals, the limits on its code, and the tokens and kinds of its body
-- do not take them away.
unfoldable pub clauses_of : Meaning → List ℕ → MethodRow → List Clause
clauses_of meaning asm method = option_map_or (known_clauses (bare_shape method)) (instrs_of meaning asm method) []
