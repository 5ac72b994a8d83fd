-- What rows do to a state.
use Rattle.std.specs.Prelude.{◌≡◌, ℕ, ◌+◌, ◌≤◌, Bool, true, false, List, [], ◌∷◌, length, Option, Some, None, option_map}
use Rattle.cil_model.specs.Effects.{Effect, stored}
use Rattle.cil_model.specs.Values.{Heap}
use Rattle.cil_model.specs.declared.instruction.Instr.{Instr}
use Rattle.cil_model.specs.declared.machine.Frame.{Frame}
use Rattle.cil_model.specs.declared.machine.Value.{Value}
use Rattle.cil_model.specs.declared.place.Place.{Place}
use Rattle.cil_eval.specs.Outcome.{State, Turn, To, Ends, Stuck as StuckTurn, after_effects}
use Rattle.clause_eval.specs.Piles.{Piled}
use Rattle.cil_eval.specs.declared.action.Action.{Action}
use Rattle.cil_eval.specs.declared.action.Action.TheVariants.{Push, Next, Jump, Fault, Assumed, Cells, Stuck}
use Rattle.cil_eval.specs.declared.stop.Stop.TheVariants as stops

-- The frame goes on at an IL offset, with this stack, over this heap.
abbrev pub goes_at : ℕ → List Value → Heap → State → Turn
goes_at at stack heap s = To (record s { running = record s.running { at = at; stack = stack }; heap = heap })

-- What comes of an action, where this is left of the stack.
abbrev pub acted : Action → List Value → Heap → State → Instr → Turn
acted (Push value) rest heap s i = goes_at (i.at + i.size) (value ∷ rest) heap s
acted Next rest heap s i = goes_at (i.at + i.size) rest heap s
acted (Jump at) rest heap s i = goes_at at rest heap s
acted (Fault kind) rest heap s i = Ends (stops.Fault kind s.running.unit i.at)
acted Assumed rest heap s i = Ends (stops.Assumed s.running.unit i.at)
acted Cells rest heap s i = Ends stops.Cells
acted Stuck rest heap s i = StuckTurn

-- The run goes on after an action.
abbrev pub goes_on : Action → Bool
goes_on (Push value) = true
goes_on Next = true
goes_on (Jump at) = true
goes_on _ = false

-- What an instruction may do to a frame with this stack.
abbrev pub StackRow : Type 0
StackRow = Instr → Frame → Heap → List Value → List Effect

-- The action is what the row does to each state that has this stack, over this heap, where arrays have so many
-- cells.
abbrev pub DoesOver : ℕ → StackRow → Action → List Value → List Value → Heap → Heap → Type 0
DoesOver cells row action old rest heap after =
    (s : State) (i : Instr) → after_effects cells s i (row i s.running heap old) ≡ acted action rest after s i

-- The same, whatever the heap and the cells are.
abbrev pub Does : StackRow → Action → List Value → List Value → Type 0
Does row action old rest = (cells : ℕ) (heap : Heap) → DoesOver cells row action old rest heap heap

-- Values were taken from the top list alone.
pub record IsTakenFrom (old new : Piled Value) : Type 0 where
  pub below : new.below ≡ old.below
  pub room : new.room ≡ old.room
  pub depth : new.depth ≡ old.depth
  pub shorter : length new.top ≤ length old.top

-- ---- variables

-- The stack and the variables after a store, where the variable takes what the stack has.
abbrev pub stored_by : Heap → List Place → ℕ → List Value → List Value → Option (List Value × List Value)
stored_by heap places n variables [] = None
stored_by heap places n variables (value ∷ rest) = option_map (λ new. (rest, new)) (stored heap places n value variables)

abbrev pub when : {X : Type 0} → Bool → X → Option X
when true x = Some x
when false x = None

-- ---- whole frames

-- The state with this stack and these variables.
abbrev pub with_parts : List Value → List Value → List Value → State → State
with_parts stack args locals s = record s { running = record s.running { stack = stack; args = args; locals = locals } }

abbrev pub with_variables : List Value → List Value → State → State
with_variables args locals s = record s { running = record s.running { args = args; locals = locals } }
