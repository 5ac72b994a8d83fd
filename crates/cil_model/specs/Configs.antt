-- Configurations whose values are values of their heap: whatever a run comes to is one.
use Rattle.std.specs.Prelude.{◌≡◌, List, Some, slice_get}
use Rattle.std.specs.List.{AllByRecursion}
use Rattle.cil_model.specs.Values.{Heap, IsHeap, KeepsForms, FitPlaces, IsValue}
use Rattle.cil_model.specs.declared.machine.Config.{Config}
use Rattle.cil_model.specs.declared.machine.Config.TheVariants as configs
use Rattle.cil_model.specs.declared.machine.Frame.{Frame}
use Rattle.cil_model.specs.declared.unit.Unit.{Unit as MethodUnit}

-- A frame of this unit over a heap: its variables hold values of their types, its stack has values, and the
-- arrays that there were at its entry have kept their types and lengths.
pub record IsFrameOf (unit : MethodUnit) (heap : Heap) (f : Frame) : Type 0 where
  pub args : FitPlaces heap unit.args f.args
  pub locals : FitPlaces heap unit.locals f.locals
  pub stack : AllByRecursion (IsValue heap) f.stack
  pub entry_heap_is : IsHeap f.entry_heap
  pub entry_args : FitPlaces f.entry_heap unit.args f.entry_args
  pub kept : KeepsForms f.entry_heap heap

-- A frame of one of these units.
pub record IsFrame (units : List MethodUnit) (heap : Heap) (f : Frame) : Type 0 where
  pub unit : MethodUnit
  pub of : slice_get units f.unit ≡ Some unit
  pub is : IsFrameOf unit heap f

-- Frames of these units over a heap, or an end.
abbrev pub IsConfig : List MethodUnit → Config → Type 0
IsConfig units (configs.Live frames heap) = IsHeap heap × AllByRecursion (IsFrame units heap) frames
IsConfig units _ = Unit {0}

-- The arrays of the first configuration have kept their types and lengths in the second.
abbrev pub ArraysKept : Config → Config → Type 0
ArraysKept (configs.Live frames heap) (configs.Live others after) = KeepsForms heap after
ArraysKept _ _ = Unit {0}
