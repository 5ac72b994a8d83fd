-- The end of the one run of a method under limits, in which an array finds room while the cells last.
use Rattle.std.specs.Prelude.{ℕ, zero, suc, ◌+◌, nat_le, List, [], ◌∷◌, ◌++◌, length, reverse, Option, Some, None, slice_get, if◌then◌else◌}
use Rattle.cil_model.specs.Calls.{args_of, behind_call, callee_index, clauses_in_force, ensures_fault, entry_frame, pushed, result_of}
use Rattle.cil_model.specs.Clauses.{false_requires}
use Rattle.cil_model.specs.Effects.{Effect, GoesOn, Faults, Assumes, FindsNoRoom, effects}
use Rattle.cil_model.specs.Runs.{instr_at}
use Rattle.cil_model.specs.UnitCalls.{unit_call}
use Rattle.cil_model.specs.Values.{Heap}
use Rattle.cil_model.specs.declared.instruction.Instr.{Instr}
use Rattle.cil_model.specs.declared.instruction.Op.{Op}
use Rattle.cil_model.specs.declared.instruction.Op.TheVariants as ops
use Rattle.cil_model.specs.declared.machine.Config.{Config}
use Rattle.cil_model.specs.declared.machine.Config.TheVariants as configs
use Rattle.cil_model.specs.declared.machine.FaultKind.TheVariants as faults
use Rattle.cil_model.specs.declared.machine.Frame.{Frame}
use Rattle.cil_model.specs.declared.machine.Value.{Value}
use Rattle.cil_model.specs.declared.machine.World.{World}
use Rattle.cil_model.specs.declared.unit.Unit.{Unit as MethodUnit}
use Rattle.cil_model.specs.declared.unit_numbers.UnitCall.{UnitCall}
use Rattle.cil_model.specs.declared.unit_numbers.UnitCall.TheVariants as calls
use Rattle.clause_eval.specs.Stores.{cells_of}
use Rattle.cil_eval.specs.declared.limits.Limits.{Limits}
use Rattle.cil_eval.specs.declared.stop.Stop.{Stop}
use Rattle.cil_eval.specs.declared.stop.Stop.TheVariants as stops

-- ---- states

-- A run that has not ended: the frame that runs, its caller and so on, and the heap.
pub record State : Type 0 where
  pub running : Frame
  pub below : List Frame
  pub heap : Heap

-- The machine's configuration.
abbrev pub config_of : State → Config
config_of s = configs.Live (reverse s.below ++ s.running ∷ []) s.heap

-- What comes of a state: the next one, or an end or a limit. Where the machine has no step it is stuck.
pub data Turn : Type 0 where
  To : State → Turn
  Ends : Stop → Turn
  Stuck : Turn

-- ---- effects

abbrev pub after_effect : State → Instr → Effect → Turn
after_effect s i (GoesOn new heap) = To (record s { running = new; heap = heap })
after_effect s i (Faults kind) = Ends (stops.Fault kind s.running.unit i.at)
after_effect s i Assumes = Ends (stops.Assumed s.running.unit i.at)
after_effect s i FindsNoRoom = Ends stops.Cells

-- The new array is made while the cells last.
abbrev pub after_array : ℕ → State → Instr → Effect → Turn
after_array cells s i (GoesOn new heap) =
    if nat_le (cells_of heap) cells then after_effect s i (GoesOn new heap) else Ends stops.Cells
after_array cells s i effect = after_effect s i effect

-- What comes of all that an instruction may do. Only a new array leaves a choice: it may find no room.
abbrev pub after_effects : ℕ → State → Instr → List Effect → Turn
after_effects cells s i [] = Stuck
after_effects cells s i (FindsNoRoom ∷ effect ∷ others) = after_array cells s i effect
after_effects cells s i (effect ∷ others) = after_effect s i effect

-- ---- calls

-- The first Requires that is false is told before the depth is tested.
abbrev pub after_requires : Limits → State → Instr → ℕ → MethodUnit → List Value → Option ℕ → Turn
after_requires limits s i index callee args (Some k) = Ends (stops.Fault (faults.Requires k) s.running.unit i.at)
after_requires limits s i index callee args None =
    if nat_le (length s.below + 2) limits.depth then To (record {
      running = entry_frame callee index args s.heap;
      below = behind_call i (length callee.args) s.running ∷ s.below;
      heap = s.heap;
    }) else Ends stops.Depth

abbrev pub after_args : Limits → State → Instr → ℕ → MethodUnit → Option (List Value) → Turn
after_args limits s i index callee None = Stuck
after_args limits s i index callee (Some args) = after_requires limits s i index callee args (false_requires (clauses_in_force callee) args s.heap)

abbrev pub after_callee : Limits → State → Instr → ℕ → Option MethodUnit → Turn
after_callee limits s i index None = Stuck
after_callee limits s i index (Some callee) = after_args limits s i index callee (args_of s.heap callee.args s.running.stack)

abbrev pub after_index : World → Limits → State → Instr → Option ℕ → Turn
after_index w limits s i None = Stuck
after_index w limits s i (Some index) = after_callee limits s i index (slice_get w.units index)

-- ---- returns

abbrev pub resumed : List Frame → Option Value → Heap → Turn
resumed [] result heap = Ends (stops.Returned result)
resumed (caller ∷ below) result heap = To (record { running = pushed caller result; below = below; heap = heap })

abbrev pub after_ensures : State → Instr → Option Value → Option ℕ → Turn
after_ensures s i result (Some k) = Ends (stops.Fault (faults.Ensures k) s.running.unit i.at)
after_ensures s i result None = resumed s.below result s.heap

abbrev pub after_result : State → MethodUnit → Instr → Option (Option Value) → Turn
after_result s unit i None = Stuck
after_result s unit i (Some result) = after_ensures s i result (ensures_fault unit s.running s.heap result)

-- ---- one step

abbrev pub after_call : World → Limits → State → MethodUnit → Instr → Option UnitCall → Turn
after_call w limits s unit i (Some (calls.Callee number)) = after_index w limits s i (callee_index w s.running.unit number)
after_call w limits s unit i (Some (calls.Requires message)) = after_effects limits.cells s i (effects unit i s.running s.heap)
after_call w limits s unit i (Some (calls.Ensures message)) = after_effects limits.cells s i (effects unit i s.running s.heap)
after_call w limits s unit i (Some (calls.Assert message)) = after_effects limits.cells s i (effects unit i s.running s.heap)
after_call w limits s unit i (Some (calls.Assume message)) = after_effects limits.cells s i (effects unit i s.running s.heap)
after_call w limits s unit i (Some calls.EndContractBlock) = after_effects limits.cells s i (effects unit i s.running s.heap)
after_call w limits s unit i (Some (calls.Result place)) = after_effects limits.cells s i (effects unit i s.running s.heap)
after_call w limits s unit i (Some (calls.OldValue place)) = after_effects limits.cells s i (effects unit i s.running s.heap)
after_call w limits s unit i None = after_effects limits.cells s i (effects unit i s.running s.heap)

abbrev pub after_op : World → Limits → State → MethodUnit → Instr → Op → Turn
after_op w limits s unit i ops.Return = after_result s unit i (result_of s.heap unit.result s.running.stack)
after_op w limits s unit i (ops.Call number) = after_call w limits s unit i (unit_call number)
after_op w limits s unit i ops.Nop = after_effects limits.cells s i (effects unit i s.running s.heap)
after_op w limits s unit i (ops.LoadArg n) = after_effects limits.cells s i (effects unit i s.running s.heap)
after_op w limits s unit i (ops.StoreArg n) = after_effects limits.cells s i (effects unit i s.running s.heap)
after_op w limits s unit i (ops.LoadLocal n) = after_effects limits.cells s i (effects unit i s.running s.heap)
after_op w limits s unit i (ops.StoreLocal n) = after_effects limits.cells s i (effects unit i s.running s.heap)
after_op w limits s unit i ops.Null = after_effects limits.cells s i (effects unit i s.running s.heap)
after_op w limits s unit i (ops.Const n) = after_effects limits.cells s i (effects unit i s.running s.heap)
after_op w limits s unit i ops.Dup = after_effects limits.cells s i (effects unit i s.running s.heap)
after_op w limits s unit i ops.Pop = after_effects limits.cells s i (effects unit i s.running s.heap)
after_op w limits s unit i (ops.Branch test target) = after_effects limits.cells s i (effects unit i s.running s.heap)
after_op w limits s unit i (ops.Switch targets) = after_effects limits.cells s i (effects unit i s.running s.heap)
after_op w limits s unit i (ops.Bin operator) = after_effects limits.cells s i (effects unit i s.running s.heap)
after_op w limits s unit i ops.Neg = after_effects limits.cells s i (effects unit i s.running s.heap)
after_op w limits s unit i ops.Not = after_effects limits.cells s i (effects unit i s.running s.heap)
after_op w limits s unit i ops.ConvI4 = after_effects limits.cells s i (effects unit i s.running s.heap)
after_op w limits s unit i (ops.Text token) = after_effects limits.cells s i (effects unit i s.running s.heap)
after_op w limits s unit i (ops.NewArray number) = after_effects limits.cells s i (effects unit i s.running s.heap)
after_op w limits s unit i ops.Length = after_effects limits.cells s i (effects unit i s.running s.heap)
after_op w limits s unit i (ops.LoadElem place) = after_effects limits.cells s i (effects unit i s.running s.heap)
after_op w limits s unit i (ops.StoreElem place) = after_effects limits.cells s i (effects unit i s.running s.heap)
after_op w limits s unit i (ops.LoadAddr number) = after_effects limits.cells s i (effects unit i s.running s.heap)
after_op w limits s unit i (ops.LoadInd place) = after_effects limits.cells s i (effects unit i s.running s.heap)
after_op w limits s unit i (ops.StoreInd place) = after_effects limits.cells s i (effects unit i s.running s.heap)

abbrev pub after_instr : World → Limits → State → MethodUnit → Option Instr → Turn
after_instr w limits s unit None = Stuck
after_instr w limits s unit (Some i) = after_op w limits s unit i i.op

abbrev pub after_unit : World → Limits → State → Option MethodUnit → Turn
after_unit w limits s None = Stuck
after_unit w limits s (Some unit) = after_instr w limits s unit (instr_at unit.instrs s.running.at)

-- What comes of one step.
abbrev pub turn : World → Limits → State → Turn
turn w limits s = after_unit w limits s (slice_get w.units s.running.unit)

-- ---- the end

-- The end of a run from a state in which so many steps are left. The steps are tested before each step. A run
-- that gets stuck has no end.
unfoldable pub outcome : World → Limits → ℕ → State → Option Stop
outcome w limits zero s = Some stops.Steps
outcome w limits (suc left) s = elim (turn w limits s) [ To next ↦ outcome w limits left next | Ends stop ↦ Some stop | Stuck ↦ None ]

-- The last state of a run from a state in which so many steps are left: the one at which the run ends, or the one in
-- which they are all taken.
unfoldable pub last_state : World → Limits → ℕ → State → State
last_state w limits zero s = s
last_state w limits (suc left) s = elim (turn w limits s) [ To next ↦ last_state w limits left next | Ends stop ↦ s | Stuck ↦ s ]

-- The state in which a method begins.
abbrev pub entry_state : MethodUnit → ℕ → List Value → Heap → State
entry_state unit index args heap = record { running = entry_frame unit index args heap; below = []; heap = heap }
