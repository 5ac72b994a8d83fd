-- The fields that were read from a unit file, and those that they are.
use Rattle.std.specs.Prelude.{◌≡◌, ℕ, ◌+◌, ◌≤◌, List, length}
use Rattle.cil_model.specs.Limits.{MAX_CODE_BYTES}
use Rattle.cil_model.specs.declared.unit.Unit.{Unit as MethodUnit}
use Rattle.unit_form.specs.AddedClauses.{added_clauses}
use Rattle.unit_form.specs.UnitFields.{FieldsOfUnit}
use Rattle.unit_form.specs.declared.unit_fields.UnitFields.{UnitFields}

abbrev pub fields_told : UnitFields → FieldsOfUnit
fields_told fields = record {
  name = fields.name.now;
  result = fields.result;
  args = fields.args.items;
  locals = fields.locals.items;
  max_stack = fields.max_stack;
  callees = fields.callees.items;
  callee_offsets = fields.callee_offsets.items;
  code = fields.code.now;
  code_offset = fields.code_offset;
  added = fields.added.items;
  added_offset = fields.added_offset;
}

-- The unit has the fields that were read, and after the clauses that its code tells those that were added.
pub record HasRead (unit : MethodUnit) (fields : FieldsOfUnit) : Type 0 where
  pub name : unit.name ≡ fields.name
  pub result : unit.result ≡ fields.result
  pub args : unit.args ≡ fields.args
  pub locals : unit.locals ≡ fields.locals
  pub max_stack : unit.max_stack ≡ fields.max_stack
  pub callees : unit.callees ≡ fields.callees
  pub code : unit.code ≡ fields.code
  pub added : added_clauses unit ≡ fields.added

-- The code that was read lies in the file from its offset on, and keeps its limit.
pub record IsCodeWithin (bytes : List ℕ) (fields : UnitFields) : Type 0 where
  pub short : length fields.code.now ≤ MAX_CODE_BYTES
  pub inside : fields.code_offset + length fields.code.now ≤ length bytes
