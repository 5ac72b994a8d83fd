-- How the machine holds a state: all of it but the heaps at entry, of which it has the old values.
use Rattle.std.specs.Prelude.{◌≡◌, ℕ, ◌+◌, List, [], ◌∷◌, map, drop, Option, Some, None, slice_get}
use Rattle.cil_model.specs.Calls.{clauses_in_force}
use Rattle.cil_model.specs.Values.{Heap}
use Rattle.cil_model.specs.declared.instruction.Instr.{Instr}
use Rattle.cil_model.specs.declared.machine.Frame.{Frame}
use Rattle.cil_model.specs.declared.machine.Value.{Value}
use Rattle.cil_model.specs.declared.machine.World.{World}
use Rattle.cil_model.specs.declared.unit.Unit.{Unit as MethodUnit}
use Rattle.cil_eval.specs.Outcome.{State, Turn, To, Ends, Stuck}
use Rattle.clause_eval.specs.Piles.{Piled}
use Rattle.clause_eval.specs.Told.{olds_of_clauses}
use Rattle.cil_eval.specs.declared.action.Action.{Action}
use Rattle.cil_eval.specs.declared.action.Action.TheVariants as actions
use Rattle.cil_eval.specs.declared.frames.Frames.{Frames}
use Rattle.cil_eval.specs.declared.frames.Position.{Position}
use Rattle.cil_eval.specs.declared.stop.Stop.{Stop}
use Rattle.cil_eval.specs.declared.stop.Stop.TheVariants as stops

-- ---- the parts of frames

abbrev pub position_of : Frame → Position
position_of f = record { unit = f.unit; at = f.at }

abbrev pub olds_of_unit : Option MethodUnit → List Value → Heap → List (Option Value)
olds_of_unit None args entry = []
olds_of_unit (Some unit) args entry = olds_of_clauses (clauses_in_force unit) args entry

-- The old values of a frame, when its method began.
abbrev pub olds_of : World → Frame → List (Option Value)
olds_of w f = olds_of_unit (slice_get w.units f.unit) f.entry_args f.entry_heap

-- A pile has this part of each frame.
pub record HasPart {X : Type 0} (part : Frame → List X) (s : State) (p : Piled X) : Type 0 where
  pub top : p.top ≡ part s.running
  pub below : p.below ≡ map part s.below

-- The frames and the heap are those of the state.
pub record Holds (w : World) (frames : Frames) (heap : Heap) (s : State) : Type 0 where
  pub stack : HasPart (λ f. f.stack) s frames.stack
  pub args : HasPart (λ f. f.args) s frames.args
  pub locals : HasPart (λ f. f.locals) s frames.locals
  pub entry_args : HasPart (λ f. f.entry_args) s frames.entry_args
  pub olds : HasPart (olds_of w) s frames.olds
  pub positions : frames.positions.top ≡ map position_of (s.running ∷ s.below)
  pub heap_is : heap ≡ s.heap

-- ---- what comes of a turn

-- The machine goes on and holds the next state, or it stops. Where it is stuck, nothing is said.
abbrev pub Turned : World → Turn → Frames → Heap → Option Stop → Type 0
Turned w (To next) frames heap stop = (stop ≡ None) × Holds w frames heap next
Turned w (Ends end) frames heap stop = stop ≡ Some end
Turned w Stuck frames heap stop = Unit {0}

-- ---- actions

-- The pile with another position of the frame that runs.
abbrev pub moved : ℕ → ℕ → Piled Position → Piled Position
moved unit at p = record p { top = record { unit = unit; at = at } ∷ drop 1 p.top }

abbrev pub moved_to : ℕ → ℕ → Frames → Frames
moved_to unit at frames = record frames { positions = moved unit at frames.positions }

abbrev pub with_value : Value → Frames → Frames
with_value value frames = record frames { stack = record frames.stack { top = value ∷ frames.stack.top } }

-- The frames after an action of an instruction.
abbrev pub acted_frames : Action → ℕ → Instr → Frames → Frames
acted_frames (actions.Push value) unit i frames = moved_to unit (i.at + i.size) (with_value value frames)
acted_frames actions.Next unit i frames = moved_to unit (i.at + i.size) frames
acted_frames (actions.Jump at) unit i frames = moved_to unit at frames
acted_frames action unit i frames = frames

-- The end that an action makes.
abbrev pub stop_of : Action → ℕ → Instr → Option Stop
stop_of (actions.Fault kind) unit i = Some (stops.Fault kind unit i.at)
stop_of actions.Assumed unit i = Some (stops.Assumed unit i.at)
stop_of actions.Cells unit i = Some stops.Cells
stop_of actions.Stuck unit i = Some stops.Steps
stop_of action unit i = None
