-- What comes of calls and returns of frames that hold a state.
use Rattle.std.specs.Prelude.{◌≡◌, ℕ, ◌+◌, ◌<◌, ◌≤◌, Bool, length, nat_le, Option, Some, None, slice_get}
use Rattle.std.specs.List.{AllByRecursion}
use Rattle.cil_model.specs.Calls.{clauses_in_force, result_of}
use Rattle.cil_model.specs.Values.{Heap}
use Rattle.cil_model.specs.declared.clause.Clause.{Clause}
use Rattle.cil_model.specs.declared.instruction.Instr.{Instr}
use Rattle.cil_model.specs.declared.machine.Value.{Value}
use Rattle.cil_model.specs.declared.machine.World.{World}
use Rattle.cil_model.specs.declared.unit.Unit.{Unit as MethodUnit}
use Rattle.clause_eval.specs.Piles.{HasRoomFor}
use Rattle.cil_eval.specs.Held.{Holds, Turned, with_value}
use Rattle.cil_eval.specs.Outcome.{State, after_callee, after_result}
use Rattle.clause_eval.specs.Piles.{size_of}
use Rattle.clause_eval.specs.Told.{OldsLackResult, olds_in_clauses}
use Rattle.cil_eval.specs.declared.frames.Frames.{Frames}
use Rattle.cil_eval.specs.declared.limits.Limits.{Limits}
use Rattle.cil_eval.specs.declared.stop.Stop.{Stop}

-- The frames have room for a call of this unit.
pub record HasRoomToCall (unit : MethodUnit) (frames : Frames) : Type 0 where
  pub stack : length frames.stack.below < frames.stack.depth
  pub args : HasRoomFor (length unit.args) frames.args
  pub locals : HasRoomFor (length unit.locals) frames.locals
  pub entry_args : HasRoomFor (length unit.args) frames.entry_args
  pub olds : HasRoomFor (olds_in_clauses (clauses_in_force unit)) frames.olds
  pub positions : size_of frames.positions < frames.positions.room
  pub caller : 1 ≤ length frames.positions.top

-- Of every state that the frames held, the machine holds what comes of a call of this unit, or stopped as it ends.
abbrev pub Calls : MethodUnit → ℕ → ℕ → Instr → Bool → Frames → Heap → Frames → Option Stop → Type 0
Calls callee index unit i deeper old heap new stop =
    (limits : Limits) (w : World) (s : State) → Holds w old heap s → slice_get w.units index ≡ Some callee → s.running.unit ≡ unit
    → deeper ≡ nat_le (length s.below + 2) limits.depth → Turned w (after_callee limits s i index (Some callee)) new heap stop

-- The same of a return of a method of this unit.
abbrev pub Returns : MethodUnit → ℕ → Instr → Frames → Heap → Frames → Option Stop → Type 0
Returns unit index i old heap new stop =
    (w : World) (s : State) → Holds w old heap s → slice_get w.units index ≡ Some unit → s.running.unit ≡ index
    → AllByRecursion (λ (clause : Clause). OldsLackResult clause.tree) (clauses_in_force unit)
    → Turned w (after_result s unit i (result_of s.heap unit.result s.running.stack)) new heap stop

-- The frames with a result on the stack, where there is one.
abbrev pub with_result : Option Value → Frames → Frames
with_result None frames = frames
with_result (Some value) frames = with_value value frames
