-- The fields of a whole unit file, as they are read.
use Rattle.std.specs.Prelude.{ℕ, ◌+◌, ◌==◌, nat_le, List, [], ◌∷◌, ◌++◌, length, slice_index, Option}
use Rattle.cc_base.specs.Tests.{must}
use Rattle.cil_model.specs.Limits.{MAX_CODE_BYTES, MAX_VARIABLES}
use Rattle.cil_model.specs.declared.clause.Clause.{Clause}
use Rattle.cil_model.specs.declared.place.Place.{Place}
use Rattle.cil_model.specs.declared.unit.CalleeInfo.{CalleeInfo}
use Rattle.unit_form.specs.Callees.{callee_fields, callee_offsets, clauses_field}
use Rattle.unit_form.specs.Fields.{bytes_field, count_field, name_field, place_field, u16_field, u32_field, variables_field}
use Rattle.unit_form.specs.Forms.{form_of, is_form_number}
use Rattle.unit_form.specs.Parses.{Parse, field}
use Rattle.unit_form.specs.declared.clause_list.ClauseList.TheVariants.{Added}
use Rattle.unit_form.specs.declared.unit_fault.UnitFault.{UnitFault}
use Rattle.unit_form.specs.declared.unit_fault.UnitFault.TheVariants.{Form, Version}
use Rattle.unit_form.specs.declared.form.UnitForm.{UnitForm}
use Rattle.unit_form.specs.declared.form.UnitForm.TheVariants.{First, Second, Third}

-- What stands in a unit file, and where its callees, its code and its added clauses begin, or would begin.
pub record FieldsOfUnit : Type 0 where
  pub name : List ℕ
  pub result : Place
  pub args : List Place
  pub locals : List Place
  pub max_stack : ℕ
  pub callees : List CalleeInfo
  pub callee_offsets : List ℕ
  pub code : List ℕ
  pub code_offset : ℕ
  pub added : List Clause
  pub added_offset : ℕ

-- The four bytes `CCU1`, `CCU2` or `CCU3`.
unfoldable pub magic_tests : List ℕ → List (Option UnitFault)
magic_tests bytes =
    field bytes 0 4
    ∷ must (slice_index bytes 0 == 67) (Form 0)
    ∷ must (slice_index bytes 1 == 67) (Form 1)
    ∷ must (slice_index bytes 2 == 85) (Form 2)
    ∷ must (is_form_number (slice_index bytes 3)) (Version 3)
    ∷ []

-- The size of the stack, of a method with so many arguments and locals.
unfoldable pub max_stack_field : UnitForm → ℕ → List ℕ → ℕ → Parse ℕ
max_stack_field form variables bytes at =
    let size = count_field form bytes at in
    record { tests = size.tests ++ (must (nat_le (variables + size.value) MAX_VARIABLES) (Form at) ∷ []); value = size.value; next = size.next }

-- The code, after its length.
unfoldable pub code_field : List ℕ → ℕ → Parse (List ℕ)
code_field bytes at =
    let count = u32_field bytes at in
    let code = bytes_field count.value bytes count.next in
    record { tests = count.tests ++ (must (nat_le count.value MAX_CODE_BYTES) (Form at) ∷ code.tests); value = code.value; next = code.next }

-- The clauses that were added, which the third form alone has.
unfoldable pub added_field : UnitForm → List Place → Place → List ℕ → ℕ → Parse (List Clause)
added_field First args result bytes at = record { tests = []; value = []; next = at }
added_field Second args result bytes at = record { tests = []; value = []; next = at }
added_field Third args result bytes at = clauses_field Added Third args result bytes at

-- Nothing stands from here on.
unfoldable pub end_tests : List ℕ → ℕ → List (Option UnitFault)
end_tests bytes at = must (nat_le (length bytes) at) (Form at) ∷ []

-- All fields behind the magic, in the order in which they stand in a file of this form.
unfoldable pub fields_in : UnitForm → List ℕ → Parse FieldsOfUnit
fields_in form bytes =
    let name = name_field bytes 4 in
    let result = place_field bytes name.next in
    let args = variables_field form 0 bytes result.next in
    let locals = variables_field form (length args.value) bytes args.next in
    let max_stack = max_stack_field form (length args.value + length locals.value) bytes locals.next in
    let count = u16_field bytes max_stack.next in
    let callees = callee_fields form count.value bytes count.next in
    let code = code_field bytes callees.next in
    let added = added_field form args.value result.value bytes code.next in
    record {
      tests = name.tests ++ (result.tests ++ (args.tests ++ (locals.tests ++ (max_stack.tests ++ (count.tests ++ (callees.tests ++ (code.tests ++ (added.tests ++ end_tests bytes added.next))))))));
      value = record {
        name = name.value;
        result = result.value;
        args = args.value;
        locals = locals.value;
        max_stack = max_stack.value;
        callees = callees.value;
        callee_offsets = callee_offsets form count.value bytes count.next;
        code = code.value;
        code_offset = callees.next + 4;
        added = added.value;
        added_offset = code.next;
      };
      next = added.next;
    }

-- The magic, and the fields in the form that it names.
unfoldable pub unit_fields : List ℕ → Parse FieldsOfUnit
unit_fields bytes =
    let fields = fields_in (form_of bytes) bytes in
    record { tests = magic_tests bytes ++ fields.tests; value = fields.value; next = fields.next }
