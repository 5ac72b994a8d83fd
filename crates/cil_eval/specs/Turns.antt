-- What comes of one step of frames that hold a state.
use Rattle.std.specs.Prelude.{◌≡◌, ℕ, ◌+◌, Bool, length, nat_le, Option}
use Rattle.std.specs.List.{AllByRecursion}
use Rattle.cil_model.specs.Calls.{callee_index}
use Rattle.cil_model.specs.Values.{Heap}
use Rattle.cil_model.specs.declared.instruction.Instr.{Instr}
use Rattle.cil_model.specs.declared.machine.World.{World}
use Rattle.cil_eval.specs.Held.{Holds, Turned}
use Rattle.cil_eval.specs.Outcome.{State, after_index, turn}
use Rattle.cil_eval.specs.StackRows.{IsLength}
use Rattle.cil_eval.specs.declared.frames.Frames.{Frames}
use Rattle.cil_eval.specs.declared.limits.Limits.{Limits}
use Rattle.cil_eval.specs.declared.stop.Stop.{Stop}

abbrev pub CallsNumber : World → ℕ → ℕ → Instr → Bool → Frames → Heap → Frames → Option Stop → Type 0
CallsNumber w number unit i deeper old heap new stop =
    (limits : Limits) (s : State) → Holds w old heap s → s.running.unit ≡ unit → deeper ≡ nat_le (length s.below + 2) limits.depth
    → Turned w (after_index w limits s i (callee_index w unit number)) new heap stop

-- Of every state that the frames held, under limits with so many cells, the machine holds the next one, or it stopped
-- at the run's end.
abbrev pub Turns : World → ℕ → Bool → Frames → Heap → Frames → Heap → Option Stop → Type 0
Turns w cells deeper old heap new after stop =
    (limits : Limits) (s : State) → Holds w old heap s → AllByRecursion IsLength s.running.stack → limits.cells ≡ cells
    → deeper ≡ nat_le (length s.below + 2) limits.depth → Turned w (turn w limits s) new after stop
