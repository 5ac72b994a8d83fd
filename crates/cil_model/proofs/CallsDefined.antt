-- A call whose arguments fit has a row, and so has a return whose result fits.
use Rattle.std.proofs.Common.{◌≡◌, ℕ, List, Option, Some, None, slice_get, refl, inl}
use Rattle.cil_model.specs.Calls.{FreeCall, FreelyCalled, ReturnRow, WorldCall, args_of, callee_index, called, ensures_fault, result_of}
use Rattle.cil_model.specs.Clauses.{false_requires}
use Rattle.cil_model.specs.Values.{Heap}
use Rattle.cil_model.specs.declared.instruction.Instr.{Instr}
use Rattle.cil_model.specs.declared.machine.Config.{Config}
use Rattle.cil_model.specs.declared.machine.Config.TheVariants as configs
use Rattle.cil_model.specs.declared.machine.FaultKind.TheVariants as faults
use Rattle.cil_model.specs.declared.machine.Frame.{Frame}
use Rattle.cil_model.specs.declared.machine.Value.{Value}
use Rattle.cil_model.specs.declared.machine.World.{World}
use Rattle.cil_model.specs.declared.unit.CalleeInfo.{CalleeInfo}
use Rattle.cil_model.specs.declared.unit.Unit.{Unit as MethodUnit}
use Rattle.cil_model.proofs.Running.{returning, returning_row}

freely_defined : (callee : CalleeInfo) (args : List Value) (i : Instr) (f : Frame) (heap : Heap) (fault : Option ℕ) → (new : Config) × FreelyCalled callee args i f heap fault new
freely_defined callee args i f heap (Some k) = (configs.Fault (faults.Requires k) f.unit i.at, refl)
freely_defined callee args i f heap None = (configs.NoRoom, inl refl)

-- Whatever its callee ensures, a free call has a row.
pub free_call_defined : (unit : MethodUnit) (number : ℕ) (callee : CalleeInfo) (args : List Value) (i : Instr) (f : Frame) (heap : Heap)
    → slice_get unit.callees number ≡ Some callee → args_of heap callee.args f.stack ≡ Some args → (new : Config) × FreeCall unit number i f heap new
free_call_defined unit number callee args i f heap callee_is args_are =
    let (new, freely) = freely_defined callee args i f heap (false_requires callee.clauses args heap) in
    (new, record { callee = callee; args = args; callee_is = callee_is; args_are = args_are; freely = freely })

pub world_call_defined : (w : World) (callers : List Frame) (number index : ℕ) (callee : MethodUnit) (args : List Value) (i : Instr) (f : Frame) (heap : Heap)
    → callee_index w f.unit number ≡ Some index → slice_get w.units index ≡ Some callee → args_of heap callee.args f.stack ≡ Some args
    → (new : Config) × WorldCall w callers number i f heap new
world_call_defined w callers number index callee args i f heap index_is callee_is args_are = (
  called callers callee index args i f heap (false_requires callee.clauses args heap),
  record { index = index; callee = callee; args = args; index_is = index_is; callee_is = callee_is; args_are = args_are; new_is = refl },
)

pub return_defined : (callers : List Frame) (unit : MethodUnit) (result : Option Value) (i : Instr) (f : Frame) (heap : Heap)
    → result_of heap unit.result f.stack ≡ Some result → (new : Config) × ReturnRow callers unit i f heap new
return_defined callers unit result i f heap result_is =
    let fault = ensures_fault unit f heap result in
    (returning callers i f heap result fault, (result, result_is, returning_row callers i f heap result fault))
