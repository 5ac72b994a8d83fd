-- The instructions that the code of a clause may have.
use Rattle.std.specs.Prelude.{◌+◌, Bool, true, false, List, Option, Some}
use Rattle.std.specs.Option.{option_map_or}
use Rattle.cil_model.specs.Runs.{instr_at}
use Rattle.cil_model.specs.UnitCalls.{unit_call}
use Rattle.cil_model.specs.declared.instruction.Instr.{Instr}
use Rattle.cil_model.specs.declared.instruction.Op.{Op}
use Rattle.cil_model.specs.declared.instruction.Op.TheVariants as ops
use Rattle.cil_model.specs.declared.unit_numbers.UnitCall.{UnitCall}
use Rattle.cil_model.specs.declared.unit_numbers.UnitCall.TheVariants as calls

-- The calls that stand in a clause or close it.
abbrev pub is_clause_call : Option UnitCall → Bool
is_clause_call (Some (calls.Requires message)) = true
is_clause_call (Some (calls.Ensures message)) = true
is_clause_call (Some calls.EndContractBlock) = true
is_clause_call (Some (calls.Result place)) = true
is_clause_call (Some (calls.OldValue place)) = true
is_clause_call _ = false

-- The calls that take a message.
abbrev pub takes_message : Option UnitCall → Bool
takes_message (Some (calls.Requires message)) = message
takes_message (Some (calls.Ensures message)) = message
takes_message (Some (calls.Assert message)) = message
takes_message (Some (calls.Assume message)) = message
takes_message _ = false

abbrev pub calls_with_message : Op → Bool
calls_with_message (ops.Call number) = takes_message (unit_call number)
calls_with_message _ = false

-- A clause may have the operation, where the one after it takes a message or does not. Branches that do not go
-- forward are another fault.
abbrev pub is_pure_before : Bool → Op → Bool
is_pure_before message ops.Nop = true
is_pure_before message (ops.LoadArg n) = true
is_pure_before message ops.Null = true
is_pure_before message (ops.Const n) = true
is_pure_before message (ops.Bin operator) = true
is_pure_before message ops.Neg = true
is_pure_before message ops.Not = true
is_pure_before message ops.ConvI4 = true
is_pure_before message ops.Length = true
is_pure_before message (ops.LoadElem place) = true
is_pure_before message (ops.Branch test target) = true
is_pure_before message (ops.Text token) = message
is_pure_before message (ops.Call number) = is_clause_call (unit_call number)
is_pure_before message _ = false

-- A clause may have the instruction where it stands. A message stands just before the call that takes it.
abbrev pub is_pure : List Instr → Instr → Bool
is_pure is i = is_pure_before (option_map_or (λ next. calls_with_message next.op) (instr_at is (i.at + i.size)) false) i.op
