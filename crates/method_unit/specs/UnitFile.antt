-- The tests of a unit file, in order, and the unit of a file that passes them. Those of the code say where in the file
-- an instruction, a block or a callee stands.
use Rattle.std.specs.Prelude.{ℕ, suc, ◌+◌, ◌==◌, nat_le, nat_lt, Bool, true, ◌&&◌, List, [], ◌∷◌, ◌++◌, length, map, filter_map, slice_get, is_some, Option, Some, option_map, if◌then◌else◌}
use Rattle.std.specs.Option.{option_map_or}
use Rattle.std.specs.List.{list_any}
use Rattle.cc_base.specs.Tests.{first_of, must}
use Rattle.cil_model.specs.Blocks.{start_of_body}
use Rattle.cil_model.specs.ClauseTrees.{clauses_in}
use Rattle.cil_model.specs.Limits.{MAX_BLOCKS, MAX_CLAUSES, MAX_INSTRUCTIONS, MAX_OLD_VALUES}
use Rattle.cil_model.specs.Terms.{Term}
use Rattle.cil_model.specs.UnitCalls.{array_place, unit_call}
use Rattle.cil_model.specs.WellFormed.{called_by}
use Rattle.cil_model.specs.declared.clause.Clause.{Clause}
use Rattle.cil_model.specs.declared.clause.ClauseKind.{ClauseKind}
use Rattle.cil_model.specs.declared.instruction.Instr.{Instr}
use Rattle.cil_model.specs.declared.instruction.Op.{Op}
use Rattle.cil_model.specs.declared.instruction.Op.TheVariants as ops
use Rattle.cil_model.specs.declared.shape.Shape.{Shape}
use Rattle.cil_model.specs.declared.unit.Unit.{Unit as MethodUnit}
use Rattle.clause_faults.specs.Faults.{fault_at as clause_fault_at, first_clause_fault}
use Rattle.flow_graph.specs.BlocksOf.{block_starts}
use Rattle.il_decoder.specs.Decoding.{code_tests, instructions_of}
use Rattle.il_decoder.specs.Faults.{fault_at as il_fault_at}
use Rattle.stack_typer.specs.FaultPlaces.{type_fault_at}
use Rattle.stack_typer.specs.FirstTypeFault.{first_type_fault}
use Rattle.unit_form.specs.Callees.{olds_in}
use Rattle.unit_form.specs.UnitFields.{FieldsOfUnit, unit_fields}
use Rattle.unit_form.specs.declared.unit_fault.UnitFault.{UnitFault}
use Rattle.unit_form.specs.declared.unit_fault.UnitFault.TheVariants.{Form}

-- ---- the fields

unfoldable pub field_test : List ℕ → Option UnitFault
field_test bytes = first_of (unit_fields bytes).tests

-- ---- the instructions

-- What stands at an IL offset breaks the form. The code begins at the offset `base` of the file.
abbrev pub form_at : ℕ → ℕ → UnitFault
form_at base at = Form (base + at)

-- The code is decoded.
unfoldable pub decoding_test : ℕ → List ℕ → Option UnitFault
decoding_test base code = option_map (λ fault. form_at base (il_fault_at fault)) (first_of (code_tests code))

-- No instruction stands past the limit.
unfoldable pub count_test : ℕ → List Instr → Option UnitFault
count_test base is = option_map (λ i. form_at base i.at) (slice_get is MAX_INSTRUCTIONS)

-- The operand of a call, of a new array, of an item's address or of a text is a number of a unit with so many callees.
abbrev pub names_something : ℕ → Op → Bool
names_something callees (ops.Call number) = is_some (unit_call number) && option_map_or (λ callee. nat_lt callee callees) (called_by (ops.Call number)) true
names_something callees (ops.NewArray number) = is_some (array_place number)
names_something callees (ops.LoadAddr number) = is_some (array_place number)
names_something callees (ops.Text number) = number == 0
names_something callees ops.Nop = true
names_something callees (ops.LoadArg n) = true
names_something callees (ops.StoreArg n) = true
names_something callees (ops.LoadLocal n) = true
names_something callees (ops.StoreLocal n) = true
names_something callees ops.Null = true
names_something callees (ops.Const n) = true
names_something callees ops.Dup = true
names_something callees ops.Pop = true
names_something callees ops.Return = true
names_something callees (ops.Branch test target) = true
names_something callees (ops.Switch targets) = true
names_something callees (ops.Bin operator) = true
names_something callees ops.Neg = true
names_something callees ops.Not = true
names_something callees ops.ConvI4 = true
names_something callees ops.Length = true
names_something callees (ops.LoadElem place) = true
names_something callees (ops.StoreElem place) = true
names_something callees (ops.LoadInd place) = true
names_something callees (ops.StoreInd place) = true

abbrev pub number_test : ℕ → ℕ → Instr → Option UnitFault
number_test base callees i = must (names_something callees i.op) (form_at base i.at)

unfoldable pub number_tests : ℕ → ℕ → List Instr → List (Option UnitFault)
number_tests base callees is = map (number_test base callees) is

-- ---- clauses and blocks

-- The code has no fault of clauses.
unfoldable pub clause_test : ℕ → List Instr → Shape → Option UnitFault
clause_test base is shape = option_map (λ fault. form_at base (clause_fault_at fault)) (first_clause_fault is shape)

-- A clause of this kind, where its code tells a tree.
abbrev pub clause_told : ClauseKind × Option Term → Option Clause
clause_told (kind, tree) = option_map (λ term. record { kind = kind; tree = term }) tree

-- The clauses that the code tells.
abbrev pub told_clauses : List Instr → List Clause
told_clauses is = filter_map clause_told (clauses_in is)

-- A method may have so many clauses, with so many old values together.
abbrev pub fit_together : List Clause → Bool
fit_together clauses = nat_le (length clauses) MAX_CLAUSES && nat_le (olds_in clauses) MAX_OLD_VALUES

-- These clauses and those that were added, which begin at this offset of the file, fit together.
unfoldable pub added_test : List Clause → List Clause → ℕ → Option UnitFault
added_test clauses added at = must (fit_together (clauses ++ added)) (Form at)

-- No block stands past the limit, where blocks start at these IL offsets.
unfoldable pub start_test : ℕ → List ℕ → Option UnitFault
start_test base starts = option_map (form_at base) (slice_get starts MAX_BLOCKS)

abbrev pub block_test : ℕ → List Instr → Option UnitFault
block_test base is = start_test base (block_starts is (start_of_body is))

-- ---- callees

-- Those of the numbers that none before them equals, and none of these that were met.
abbrev pub first_uses : List ℕ → List ℕ → List ℕ
first_uses met [] = []
first_uses met (n ∷ ns) = if list_any (λ m. m == n) met then first_uses met ns else n ∷ first_uses (n ∷ met) ns

-- The callees that the code calls, in order of their first use.
abbrev pub called_in : List Instr → List ℕ
called_in is = first_uses [] (filter_map (λ i. called_by i.op) is)

-- From the callee of this index on, each is the one that is used next. They begin at these offsets of the file.
abbrev pub order_tests_from : ℕ → List ℕ → List ℕ → List (Option UnitFault)
order_tests_from index uses [] = []
order_tests_from index [] (offset ∷ offsets) = Some (Form offset) ∷ order_tests_from (suc index) [] offsets
order_tests_from index (n ∷ uses) (offset ∷ offsets) = must (n == index) (Form offset) ∷ order_tests_from (suc index) uses offsets

unfoldable pub order_tests : List Instr → List ℕ → List (Option UnitFault)
order_tests is offsets = order_tests_from 0 (called_in is) offsets

-- ---- kinds

-- The code has kinds.
unfoldable pub typing_test : ℕ → List Instr → Shape → Option UnitFault
typing_test base is shape = option_map (λ fault. form_at base (type_fault_at fault)) (first_type_fault is shape)

-- ---- the file

-- The shape of a method with these fields.
abbrev pub shape_told : FieldsOfUnit → Shape
shape_told fields = record {
  result = fields.result;
  args = fields.args;
  locals = fields.locals;
  max_stack = fields.max_stack;
  callees = fields.callees;
}

-- What is tested of the instructions of a method of this shape, to whose clauses these were added. In the file the code
-- begins at the offset `base`, the callees at these offsets, and the added clauses at `at`.
unfoldable pub instr_tests : ℕ → Shape → List ℕ → List Clause → ℕ → List Instr → List (Option UnitFault)
instr_tests base shape offsets added at is =
    count_test base is
    ∷ (number_tests base (length shape.callees) is
    ++ (clause_test base is shape
    ∷ added_test (told_clauses is) added at
    ∷ block_test base is
    ∷ (order_tests is offsets
    ++ (typing_test base is shape ∷ []))))

-- All that is tested after the fields.
unfoldable pub code_tests_of : FieldsOfUnit → List (Option UnitFault)
code_tests_of fields =
    decoding_test fields.code_offset fields.code
    ∷ instr_tests fields.code_offset (shape_told fields) fields.callee_offsets fields.added fields.added_offset (instructions_of fields.code)

-- The first fault of a unit file, or none where it spells a unit.
unfoldable pub first_unit_fault : List ℕ → Option UnitFault
first_unit_fault bytes = first_of (field_test bytes ∷ code_tests_of (unit_fields bytes).value)

-- ---- the unit

-- The unit of these fields and these instructions.
abbrev pub unit_told : FieldsOfUnit → List Instr → MethodUnit
unit_told fields is = record {
  name = fields.name;
  result = fields.result;
  args = fields.args;
  locals = fields.locals;
  max_stack = fields.max_stack;
  callees = fields.callees;
  code = fields.code;
  clauses = told_clauses is ++ fields.added;
  body_start = start_of_body is;
  instrs = is;
}

-- The unit of a file without a fault.
unfoldable pub unit_of : List ℕ → MethodUnit
unit_of bytes = unit_told (unit_fields bytes).value (instructions_of (unit_fields bytes).value.code)
