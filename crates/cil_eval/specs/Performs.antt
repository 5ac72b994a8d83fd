-- What an instruction does to the frame that runs.
use Rattle.std.specs.Prelude.{◌≡◌, ℕ, length, Option, Some, None}
use Rattle.cil_model.specs.Effects.{effects_of}
use Rattle.cil_model.specs.Values.{Heap}
use Rattle.cil_model.specs.declared.instruction.Instr.{Instr}
use Rattle.cil_model.specs.declared.instruction.Op.{Op}
use Rattle.cil_model.specs.declared.machine.Value.{Value}
use Rattle.cil_model.specs.declared.unit.Unit.{Unit as MethodUnit}
use Rattle.cil_eval.specs.Actions.{IsTakenFrom, acted, with_parts, with_variables}
use Rattle.cil_eval.specs.Outcome.{State, after_effects}
use Rattle.clause_eval.specs.Piles.{Piled}
use Rattle.cil_eval.specs.declared.action.Action.{Action}
use Rattle.cil_eval.specs.declared.action.Action.TheVariants as actions
use Rattle.cil_eval.specs.declared.frames.Frames.{Frames}

-- The action, and what is left of the lists, is what the operation does to each state whose frame has these lists, over
-- this heap, where arrays have so many cells.
abbrev pub Performs : ℕ → MethodUnit → Op → Action → Frames → Frames → Heap → Heap → Type 0
Performs cells unit op action old new heap after =
    (s : State) (i : Instr) → after_effects cells (with_parts old.stack.top old.args.top old.locals.top s) i
    (effects_of op unit i (with_parts old.stack.top old.args.top old.locals.top s).running heap)
    ≡ acted action new.stack.top after (with_variables new.args.top new.locals.top (with_parts old.stack.top old.args.top old.locals.top s)) i

-- A list of variables has as many as before, and nothing else changed.
pub record IsKept (old new : Piled Value) : Type 0 where
  pub below : new.below ≡ old.below
  pub room : new.room ≡ old.room
  pub depth : new.depth ≡ old.depth
  pub same : length new.top ≡ length old.top

-- Nothing changed but the top lists, of which the stack got no longer.
pub record Stays (old new : Frames) : Type 0 where
  pub stack : IsTakenFrom old.stack new.stack
  pub args : IsKept old.args new.args
  pub locals : IsKept old.locals new.locals
  pub entry_args : new.entry_args ≡ old.entry_args
  pub olds : new.olds ≡ old.olds
  pub positions : new.positions ≡ old.positions

-- A push of a variable, if it is there.
abbrev pub push_of : Option Value → Action
push_of None = actions.Stuck
push_of (Some value) = actions.Push value
