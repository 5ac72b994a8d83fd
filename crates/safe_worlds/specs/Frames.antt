-- What a frame can come to of the arrays that there were when it began, and what it has changed of them.
use Rattle.std.specs.Prelude.{Some}
use Rattle.std.specs.List.{AllByRecursion}
use Rattle.cil_model.specs.Calls.{IsPassedOrNew, KeepsArrays}
use Rattle.cil_model.specs.Values.{Heap}
use Rattle.cil_model.specs.declared.machine.Frame.{Frame}
use Rattle.cil_model.specs.declared.machine.Value.{Value}
use Rattle.safe_worlds.specs.declared.entry.Entry.{Entry}

-- Where the frame began.
abbrev pub entry_of : Frame → Entry
entry_of f = record { unit = f.unit; args = f.entry_args; heap = f.entry_heap }

-- A value that a frame of this entry can come to: it names no array, or one that was passed, or one that was made
-- since.
abbrev pub IsInReach : Entry → Value → Type 0
IsInReach entry v = IsPassedOrNew entry.heap entry.args (Some v)

-- A frame of this entry has only what it can come to, and each earlier array has its type and its length as at the
-- entry, and its items too unless it was passed.
pub record KeepsItsReach (entry : Entry) (f : Frame) (heap : Heap) : Type 0 where
  pub args : AllByRecursion (IsInReach entry) f.args
  pub locals : AllByRecursion (IsInReach entry) f.locals
  pub stack : AllByRecursion (IsInReach entry) f.stack
  pub keeps : KeepsArrays entry.heap heap entry.args
