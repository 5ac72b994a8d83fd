-- The machine as contracts see it, and the runs that it does.
use Rattle.std.specs.Prelude.{◌≡◌, ◌≢◌, ℕ, zero, suc, ◌+◌, ◌≤◌, min, ◌∷◌, length, Option, Some, None}
use Rattle.std.specs.List.{AllByRecursion}
use Rattle.cil_model.specs.Limits.{MAX_OLD_VALUES, MAX_VARIABLES}
use Rattle.cil_model.specs.Runs.{Step, StepsTo}
use Rattle.cil_model.specs.declared.machine.Frame.{Frame}
use Rattle.cil_model.specs.declared.machine.Value.{Value}
use Rattle.cil_model.specs.declared.machine.World.{World}
use Rattle.cil_eval.specs.Capacity.{HoldDepth}
use Rattle.cil_eval.specs.Flows.{AreRunnable}
use Rattle.cil_eval.specs.Held.{Holds, Turned, olds_of}
use Rattle.cil_eval.specs.MachineSteps.{EndsAfter, EndsBy}
use Rattle.cil_eval.specs.Outcome.{State, Turn, To, Ends, Stuck, config_of, last_state, outcome, turn}
use Rattle.clause_eval.specs.Piles.{Piled}
use Rattle.cil_eval.specs.StackRows.{IsLength}
use Rattle.clause_eval.specs.Stores.{Store}
use Rattle.cil_eval.specs.declared.frames.Frames.{Frames}
use Rattle.cil_eval.specs.declared.limits.Limits.{Limits}
use Rattle.cil_eval.specs.declared.stop.Stop.{Stop}
use Rattle.cil_eval.specs.declared.stop.Stop.TheVariants as stops

-- A machine: what it runs, the steps that it took, the end that it came to, and its frames and arrays.
pub record Machinery : Type 0 where
  pub world : World
  pub limits : Limits
  pub taken : ℕ
  pub ended : Option Stop
  pub frames : Frames
  pub store : Store

-- ---- states that memory was taken for

-- The lists of a frame are no longer than a method may have them.
pub record IsSmall (w : World) (f : Frame) : Type 0 where
  pub stack : length f.stack ≤ MAX_VARIABLES
  pub args : length f.args ≤ MAX_VARIABLES
  pub locals : length f.locals ≤ MAX_VARIABLES
  pub entry_args : length f.entry_args ≤ MAX_VARIABLES
  pub olds : length (olds_of w f) ≤ MAX_OLD_VALUES

pub record Fits (w : World) (limits : Limits) (s : State) : Type 0 where
  pub frames : AllByRecursion (IsSmall w) (s.running ∷ s.below)
  pub deep : length s.below + 1 ≤ limits.depth
  pub lengths : AllByRecursion IsLength s.running.stack

-- A step is defined, and holds of what it comes to.
abbrev pub Leads : (State → Type 0) → Turn → Type 0
Leads P (To next) = P next
Leads P (Ends stops.Steps) = ⊥
Leads P (Ends end) = Unit {0}
Leads P Stuck = ⊥

-- For so many steps, each state fits and none is stuck.
abbrev pub GoesOn : World → Limits → ℕ → State → Type 0
GoesOn w limits zero s = Unit {0}
GoesOn w limits (suc n) s = Fits w limits s × Leads (GoesOn w limits n) (turn w limits s)

-- ---- runs

-- The machine holds the state to which the steps lead from a start that it took.
pub record IsLive (m : Machinery) (start : State) : Type 0 where
  pub state : State
  pub holds : Holds m.world m.frames m.store.heap state
  pub steps : StepsTo (Step m.world) (config_of start) m.taken (config_of state)
  pub onward : (n : ℕ) → GoesOn m.world m.limits n state
  pub same : (n : ℕ) → outcome m.world m.limits (m.taken + n) start ≡ outcome m.world m.limits n state
  pub last : (n : ℕ) → last_state m.world m.limits (m.taken + n) start ≡ last_state m.world m.limits n state

-- The run from a start ended by the steps that the machine took, and the machine has the arrays of its last state.
pub record HasEnded (m : Machinery) (start : State) (stop : Stop) : Type 0 where
  pub no_limit : stop ≢ stops.Steps
  pub steps : EndsAfter m.world m.limits (config_of start) m.taken stop
  pub same : (n : ℕ) → outcome m.world m.limits (m.taken + n) start ≡ Some stop
  pub heap : (n : ℕ) → m.store.heap ≡ (last_state m.world m.limits (m.taken + n) start).heap

abbrev pub ComesTo : Machinery → State → Option Stop → Type 0
ComesTo m start None = IsLive m start
ComesTo m start (Some stop) = HasEnded m start stop

-- The machine is where the run from this state is after the steps that it took.
pub record IsRun (m : Machinery) (start : State) : Type 0 where
  pub within : m.taken ≤ m.limits.steps
  pub comes : ComesTo m start m.ended

-- The end of a run under the machine's limits, in which so many steps are taken at most.
abbrev pub end_after : Machinery → ℕ → State → Option Stop
end_after m n start = outcome m.world m.limits (min m.limits.steps n) start

-- The last state of such a run.
abbrev pub state_after : Machinery → ℕ → State → State
state_after m n start = last_state m.world m.limits (min m.limits.steps n) start

-- The steps of the machine lead from the start to where the run is: to the state that comes of so many as were taken,
-- or to its end.
abbrev pub ComesBySteps : Machinery → State → Option Stop → Type 0
ComesBySteps m start None = StepsTo (Step m.world) (config_of start) m.taken (config_of (state_after m m.taken start))
ComesBySteps m start (Some stop) = EndsAfter m.world m.limits (config_of start) m.taken stop

-- One step of the machine leads from the state where the run was to the one where it is, or to its end; or no step was
-- left.
abbrev pub IsOneStep : Machinery → Machinery → State → Option Stop → Type 0
IsOneStep old new start None = Step old.world (config_of (state_after old old.taken start)) (config_of (state_after new new.taken start))
IsOneStep old new start (Some stops.Steps) = old.limits.steps ≤ old.taken
IsOneStep old new start (Some stop) = EndsBy old.limits (Step old.world (config_of (state_after old old.taken start))) stop

-- What is run, and under which limits, stays the same.
pub record IsSameMachine (old new : Machinery) : Type 0 where
  pub world : new.world ≡ old.world
  pub limits : new.limits ≡ old.limits

-- However many steps more a run may take, it ends in this.
abbrev pub StopsIn : Machinery → State → Stop → Type 0
StopsIn m start stop = (n : ℕ) → end_after m (m.taken + 1 + n) start ≡ Some stop

-- ---- one step of frames that hold a state

-- Of every state that the frames held with space for a step, the machine holds the next one, or it stopped at the end.
abbrev pub Advances : World → Limits → Frames → Store → Frames → Store → Option Stop → Type 0
Advances w limits old store new after stop =
    (s : State) → Holds w old store.heap s → Fits w limits s → Turned w (turn w limits s) new after.heap stop

-- What holds of a machine's memory.
pub record HasMemory (limits : Limits) (w : World) (frames : Frames) (store : Store) : Type 0 where
  pub runnable : AreRunnable w
  pub room : HoldDepth limits.depth frames
  pub cells : store.limit ≡ limits.cells

-- The same, and room for the values of arguments.
pub record IsReady (limits : Limits) (w : World) (frames : Frames) (store : Store) (values : Piled Value) : Type 0 where
  pub memory : HasMemory limits w frames store
  pub deep : 1 ≤ limits.depth
  pub values_room : values.room ≡ MAX_VARIABLES

-- ---- the calls of a machine

-- A machine that took no step.
pub record IsNew (w : World) (most : Limits) (m : Machinery) : Type 0 where
  pub world : m.world ≡ w
  pub limits : m.limits ≡ most
  pub taken : m.taken ≡ 0

-- Behind a step that answers None one more is counted, within the limit. Where the limit stopped it, none is.
abbrev pub TookStep : Machinery → Machinery → Option Stop → Type 0
TookStep old new (Some stop) = new.ended ≡ None → (new.taken ≡ old.taken) × (old.limits.steps ≤ old.taken)
TookStep old new None = (new.taken ≡ old.taken + 1) × (old.taken + 1 ≤ old.limits.steps)

-- Where a run has not ended by itself, it took so many steps, or all that there are.
abbrev pub TookSteps : Machinery → ℕ → Machinery → Type 0
TookSteps old n new = new.ended ≡ None → new.taken ≡ min old.limits.steps (old.taken + n)
