-- Why a method of an assembly is not analysed: the tests of its row, of its header and of its code, in order.
use Rattle.std.specs.Prelude.{ℕ, ◌+◌, nat_le, Bool, true, false, not, ◌||◌, List, [], ◌∷◌, ◌++◌, length, map, is_some, Option, Some, None, option_map}
use Rattle.std.specs.List.{list_all}
use Rattle.asm_image.specs.Bodies.{has_il_body}
use Rattle.asm_image.specs.declared.method_row.MethodRow.{MethodRow}
use Rattle.cc_base.specs.Tests.{must}
use Rattle.cil_model.specs.Blocks.{start_of_body}
use Rattle.cil_model.specs.Limits.{MAX_BLOCKS, MAX_CODE_BYTES, MAX_INSTRUCTIONS, MAX_NAME_BYTES, MAX_VARIABLES}
use Rattle.cil_model.specs.declared.instruction.Instr.{Instr}
use Rattle.cil_model.specs.declared.shape.Shape.{Shape}
use Rattle.cil_model.specs.declared.unit.CalleeInfo.{CalleeInfo}
use Rattle.clause_faults.specs.Faults.{first_clause_fault}
use Rattle.flow_graph.specs.BlocksOf.{block_starts}
use Rattle.il_decoder.specs.Body.{header_at}
use Rattle.il_decoder.specs.declared.body.Header.{Header}
use Rattle.method_code.specs.OfMethods.{args_of, result_of}
use Rattle.method_unit.specs.UnitFile.{names_something}
use Rattle.stack_typer.specs.FirstTypeFault.{first_type_fault}
use Rattle.unit_builder.specs.Bodies.{callee_keys, header_of, il_fault, locals_named, locals_told, unit_instrs}
use Rattle.unit_builder.specs.Callees.{unit_name}
use Rattle.unit_builder.specs.Callable.{are_known, is_static}
use Rattle.unit_builder.specs.Scopes.{Scope}
use Rattle.unit_builder.specs.declared.reason.Reason.{Reason}
use Rattle.unit_builder.specs.declared.reason.Reason.TheVariants.{Instance, Generic, NoBody, SignatureType, LocalType, LocalsNotZero, Section, TooLarge, Code, Clauses, Token, Kinds}

-- ---- the row

unfoldable pub row_tests : MethodRow → List (Option Reason)
row_tests method =
    must (is_static method) Instance
    ∷ must (not method.sig.generic) Generic
    ∷ must (has_il_body method) NoBody
    ∷ must (are_known method.sig.types) SignatureType
    ∷ []

-- ---- the header

-- A name of so many bytes fits a unit.
abbrev pub is_short_name : List ℕ → Bool
is_short_name name = nat_le (length name) MAX_NAME_BYTES

abbrev pub name_test : MethodRow → Option Reason
name_test method = must (is_short_name (unit_name method)) TooLarge

-- How many arguments, locals and stack slots the method has.
abbrev pub variable_count : List ℕ → MethodRow → Header → ℕ
variable_count asm method header = length (args_of method.sig.types) + length (locals_told asm header) + header.max_stack

abbrev pub has_none : {X : Type 0} → List X → Bool
has_none [] = true
has_none (x ∷ xs) = false

-- What is tested of the header, where one reads. The method's name counts in any case.
unfoldable pub header_tests : List ℕ → MethodRow → Option Header → List (Option Reason)
header_tests asm method None = name_test method ∷ []
header_tests asm method (Some header) =
    must (is_some (locals_named asm header)) LocalType
    ∷ must (has_none (locals_told asm header) || header.init_locals) LocalsNotZero
    ∷ must (not header.more_sections) Section
    ∷ must (nat_le header.code_len MAX_CODE_BYTES) TooLarge
    ∷ must (nat_le (variable_count asm method header) MAX_VARIABLES) TooLarge
    ∷ name_test method
    ∷ []

-- The name of the method of a key fits a unit.
abbrev pub has_short_name : (ℕ → CalleeInfo) → ℕ → Bool
has_short_name info key = is_short_name (info key).name

-- ---- the instructions

-- What the typing of a method depends on, besides its code.
unfoldable pub unit_shape : Scope → MethodRow → Shape
unit_shape scope method = record {
  result = result_of method.sig.types;
  args = args_of method.sig.types;
  locals = locals_told scope.asm (header_of scope.asm method);
  max_stack = (header_of scope.asm method).max_stack;
  callees = map scope.info (callee_keys scope method);
}

-- The number of an instruction names something, in a unit with so many callees.
abbrev pub token_test : ℕ → Instr → Option Reason
token_test callees i = must (names_something callees i.op) (Token i.at)

unfoldable pub token_tests : ℕ → List Instr → List (Option Reason)
token_tests callees is = map (token_test callees) is

-- How many blocks the body has.
abbrev pub blocks_in : List Instr → ℕ
blocks_in is = length (block_starts is (start_of_body is))

-- What is tested of instructions with these callees, before what is known of the callees is asked.
unfoldable pub code_tests : Scope → Shape → List ℕ → List Instr → List (Option Reason)
code_tests scope shape callees is =
    must (nat_le (length is) MAX_INSTRUCTIONS) TooLarge
    ∷ must (list_all (has_short_name scope.info) callees) TooLarge
    ∷ option_map Clauses (first_clause_fault is shape)
    ∷ must (nat_le (blocks_in is) MAX_BLOCKS) TooLarge
    ∷ token_tests (length callees) is

-- What is tested of the method's own code.
unfoldable pub own_tests : Scope → MethodRow → List (Option Reason)
own_tests scope method =
    option_map Code (il_fault scope.asm method)
    ∷ code_tests scope (unit_shape scope method) (callee_keys scope method) (unit_instrs scope method)

-- What is tested last: the code has kinds.
unfoldable pub kind_tests : Scope → MethodRow → List (Option Reason)
kind_tests scope method = option_map Kinds (first_type_fault (unit_instrs scope method) (unit_shape scope method)) ∷ []

-- ---- all tests

unfoldable pub reason_tests : Scope → MethodRow → List (Option Reason)
reason_tests scope method =
    row_tests method
    ++ (header_tests scope.asm method (header_at scope.asm method.rva) ++ (own_tests scope method ++ kind_tests scope method))
