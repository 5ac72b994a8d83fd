-- The frames at the start of a method.
use Rattle.std.specs.Prelude.{◌≡◌, ℕ, ◌+◌, ◌<◌, ◌≤◌, List, [], ◌∷◌, ◌++◌, length, map, drop}
use Rattle.cil_model.specs.Calls.{clauses_in_force}
use Rattle.cil_model.specs.Limits.{MAX_OLD_VALUES, MAX_VARIABLES}
use Rattle.cil_model.specs.Values.{Heap, zero_of}
use Rattle.cil_model.specs.declared.machine.Value.{Value}
use Rattle.cil_model.specs.declared.unit.Unit.{Unit as MethodUnit}
use Rattle.clause_eval.specs.Piles.{HasRoomFor, Piled, closed, size_of}
use Rattle.clause_eval.specs.Told.{olds_in_clauses, olds_of_clauses}
use Rattle.cil_eval.specs.declared.frames.Frames.{Frames}
use Rattle.cil_eval.specs.declared.frames.Position.{Position}

-- A pile with one more list.
abbrev pub opened : {X : Type 0} → List X → Piled X → Piled X
opened xs p = record p { top = xs; below = p.top ∷ p.below }

-- There are no frames: each list is empty, and none is below it.
pub record IsEmpty {X : Type 0} (p : Piled X) : Type 0 where
  pub top : p.top ≡ []
  pub below : p.below ≡ []

pub record HoldNothing (frames : Frames) : Type 0 where
  pub stack : IsEmpty frames.stack
  pub args : IsEmpty frames.args
  pub locals : IsEmpty frames.locals
  pub entry_args : IsEmpty frames.entry_args
  pub olds : IsEmpty frames.olds
  pub positions : IsEmpty frames.positions

-- The frames have room for one of this unit, whose arguments are there already.
pub record HasRoomToEnter (unit : MethodUnit) (frames : Frames) : Type 0 where
  pub stack : length frames.stack.below < frames.stack.depth
  pub locals : HasRoomFor (length unit.locals) frames.locals
  pub entry_args : HasRoomFor (length frames.args.top) frames.entry_args
  pub olds : HasRoomFor (olds_in_clauses (clauses_in_force unit)) frames.olds
  pub positions : size_of frames.positions < frames.positions.room
  pub caller : 1 ≤ length frames.positions.top

-- The frames with one of this unit, which begins with the arguments that are there, over this heap. The caller goes on
-- at a position.
abbrev pub entered : MethodUnit → ℕ → Position → Heap → Frames → Frames
entered unit index behind heap frames = record {
  stack = opened [] frames.stack;
  args = frames.args;
  locals = opened (map zero_of unit.locals) frames.locals;
  entry_args = opened frames.args.top frames.entry_args;
  olds = opened (olds_of_clauses (clauses_in_force unit) frames.args.top heap) frames.olds;
  positions = record frames.positions { top = record { unit = index; at = unit.body_start } ∷ behind ∷ drop 1 frames.positions.top };
}

-- The pile with one item fewer.
abbrev pub popped : {X : Type 0} → Piled X → Piled X
popped p = record p { top = drop 1 p.top }

-- The frames without the one that runs.
abbrev pub left : Frames → Frames
left frames = record {
  stack = closed frames.stack.below frames.stack;
  args = closed frames.args.below frames.args;
  locals = closed frames.locals.below frames.locals;
  entry_args = closed frames.entry_args.below frames.entry_args;
  olds = closed frames.olds.below frames.olds;
  positions = popped frames.positions;
}

-- ---- the first frame

-- The frames have room for a frame of any method.
pub record HasRoomToBegin (frames : Frames) : Type 0 where
  pub args : size_of frames.args + MAX_VARIABLES ≤ frames.args.room
  pub locals : size_of frames.locals + MAX_VARIABLES ≤ frames.locals.room
  pub entry_args : size_of frames.entry_args + MAX_VARIABLES ≤ frames.entry_args.room
  pub olds : size_of frames.olds + MAX_OLD_VALUES ≤ frames.olds.room
  pub positions : size_of frames.positions < frames.positions.room

-- The frames, of which there were none, with one of this unit, which begins with these arguments over this heap.
abbrev pub begun : MethodUnit → ℕ → List Value → Heap → Frames → Frames
begun unit index args heap frames = record {
  stack = frames.stack;
  args = record frames.args { top = args ++ frames.args.top };
  locals = record frames.locals { top = map zero_of unit.locals ++ frames.locals.top };
  entry_args = record frames.entry_args { top = args ++ frames.entry_args.top };
  olds = record frames.olds { top = olds_of_clauses (clauses_in_force unit) args heap ++ frames.olds.top };
  positions = record frames.positions { top = record { unit = index; at = unit.body_start } ∷ frames.positions.top };
}
