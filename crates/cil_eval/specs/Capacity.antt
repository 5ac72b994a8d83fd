-- How much room the lists of the frames have, and what one step may need.
use Rattle.std.specs.Prelude.{◌≡◌, ℕ, ◌+◌, ◌*◌, ◌≤◌, [], length}
use Rattle.clause_eval.specs.Piles.{HasRoomFor}
use Rattle.clause_eval.specs.Piles.{Piled}
use Rattle.cil_eval.specs.declared.frames.Frames.{Frames}
use Rattle.cil_model.specs.Limits.{MAX_OLD_VALUES, MAX_VARIABLES}

-- ---- what stays

pub record SameRoom {X : Type 0} (old new : Piled X) : Type 0 where
  pub items : new.room ≡ old.room
  pub lists : new.depth ≡ old.depth

-- The frames have as much room in all as they had, and positions lie in one list if they did.
pub record SameRooms (old new : Frames) : Type 0 where
  pub stack : SameRoom old.stack new.stack
  pub args : SameRoom old.args new.args
  pub locals : SameRoom old.locals new.locals
  pub entry_args : SameRoom old.entry_args new.entry_args
  pub olds : SameRoom old.olds new.olds
  pub positions : SameRoom old.positions new.positions
  pub line : new.positions.below ≡ old.positions.below

-- ---- what a step may need

-- The frames have room for one value more, and for a frame of any method.
pub record HasSpace (frames : Frames) : Type 0 where
  pub stack : HasRoomFor 1 frames.stack
  pub args : HasRoomFor MAX_VARIABLES frames.args
  pub locals : HasRoomFor MAX_VARIABLES frames.locals
  pub entry_args : HasRoomFor MAX_VARIABLES frames.entry_args
  pub olds : HasRoomFor MAX_OLD_VALUES frames.olds
  pub positions : HasRoomFor 1 frames.positions
  pub caller : 1 ≤ length frames.positions.top

-- ---- what there is

-- A pile has room for so many items in each of the frames and in one more, and for the lists of all frames.
pub record IsFor {X : Type 0} (count depth : ℕ) (p : Piled X) : Type 0 where
  pub items : p.room ≡ (depth + 1) * count
  pub lists : p.depth ≡ depth

-- The frames have memory for runs of this depth, and positions lie in one list.
pub record HoldDepth (depth : ℕ) (frames : Frames) : Type 0 where
  pub stack : IsFor MAX_VARIABLES depth frames.stack
  pub args : IsFor MAX_VARIABLES depth frames.args
  pub locals : IsFor MAX_VARIABLES depth frames.locals
  pub entry_args : IsFor MAX_VARIABLES depth frames.entry_args
  pub olds : IsFor MAX_OLD_VALUES depth frames.olds
  pub positions : IsFor 1 depth frames.positions
  pub line : frames.positions.below ≡ []
