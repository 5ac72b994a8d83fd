-- Faults, the methods that they are in, and those that were called there, as text.
use Rattle.std.specs.Prelude.{ℕ, List, [], ◌++◌, Option, slice_get, codes}
use Rattle.std.specs.Option.{option_and_then, option_map_or}
use Rattle.cil_model.specs.Runs.{instr_at}
use Rattle.cil_model.specs.WellFormed.{called_by}
use Rattle.cil_model.specs.declared.instruction.Instr.{Instr}
use Rattle.cil_model.specs.declared.instruction.Op.{Op}
use Rattle.cil_model.specs.declared.machine.FaultKind.{FaultKind}
use Rattle.cil_model.specs.declared.machine.World.{World}
use Rattle.cil_model.specs.declared.unit.CalleeInfo.{CalleeInfo}
use Rattle.cil_model.specs.declared.unit.Unit.{Unit as MethodUnit}
use Rattle.il_decoder.specs.Labels.{label}
use Rattle.answer_lines.specs.FaultKinds.{kind_text}
use Rattle.answer_lines.specs.Signatures.{unit_signature}

-- ---- methods

-- The method of this index in a world.
abbrev pub method_text : World → ℕ → List ℕ
method_text w index = option_map_or unit_signature (slice_get w.units index) []

-- ---- callees

-- The method that an operation of a unit calls.
abbrev pub callee_of_op : MethodUnit → Op → Option CalleeInfo
callee_of_op unit op = option_and_then (slice_get unit.callees) (called_by op)

-- The method that the instruction at an offset calls.
abbrev pub callee_at : MethodUnit → ℕ → Option CalleeInfo
callee_at unit at = option_and_then (λ (i : Instr). callee_of_op unit i.op) (instr_at unit.instrs at)

-- The method that is called at an offset in the code of the method of an index.
abbrev pub called_at : World → ℕ → ℕ → Option CalleeInfo
called_at w index at = option_and_then (λ (unit : MethodUnit). callee_at unit at) (slice_get w.units index)

-- ---- faults

-- The offset in the code of the method of this index, and the method.
abbrev pub position_text : World → ℕ → ℕ → List ℕ
position_text w index at = codes " at " ++ label at ++ codes " in " ++ method_text w index

-- A fault at an offset in the code of the method of this index.
abbrev pub fault_text : World → FaultKind → ℕ → ℕ → List ℕ
fault_text w kind index at = codes "fault " ++ kind_text (called_at w index at) kind ++ position_text w index at

-- The line that tells of it.
abbrev pub fault_line : World → FaultKind → ℕ → ℕ → List ℕ
fault_line w kind index at = fault_text w kind index at ++ codes "\n"
