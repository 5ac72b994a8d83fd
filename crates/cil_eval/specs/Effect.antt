-- What comes of a step that stays in its frame.
use Rattle.std.specs.Prelude.{◌≡◌, ℕ, Option}
use Rattle.std.specs.List.{AllByRecursion}
use Rattle.cil_model.specs.Effects.{effects}
use Rattle.cil_model.specs.Values.{Heap}
use Rattle.cil_model.specs.declared.instruction.Instr.{Instr}
use Rattle.cil_model.specs.declared.machine.World.{World}
use Rattle.cil_model.specs.declared.unit.Unit.{Unit as MethodUnit}
use Rattle.cil_eval.specs.Held.{Holds, Turned}
use Rattle.cil_eval.specs.Outcome.{State, after_effects}
use Rattle.cil_eval.specs.StackRows.{IsLength}
use Rattle.cil_eval.specs.declared.frames.Frames.{Frames}
use Rattle.cil_eval.specs.declared.stop.Stop.{Stop}

-- Of every state that the frames held, whose lengths are lengths of arrays, the machine holds what comes of the
-- instruction's effects, or it stopped as they end.
abbrev pub Effects : ℕ → MethodUnit → ℕ → Instr → Frames → Heap → Frames → Heap → Option Stop → Type 0
Effects cells unit index i old heap new after stop =
    (w : World) (s : State) → Holds w old heap s → s.running.unit ≡ index → AllByRecursion IsLength s.running.stack
    → Turned w (after_effects cells s i (effects unit i s.running s.heap)) new after stop
