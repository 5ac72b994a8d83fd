-- The points of runs.
use Rattle.std.specs.Prelude.{ℕ, List, [], ◌∷◌}
use Rattle.cil_model.specs.Configs.{IsFrameOf}
use Rattle.cil_model.specs.Runs.{LocalRuns}
use Rattle.cil_model.specs.Values.{Heap, IsHeap}
use Rattle.cil_model.specs.declared.machine.Config.{Config}
use Rattle.cil_model.specs.declared.machine.Config.TheVariants.{Live}
use Rattle.cil_model.specs.declared.machine.Frame.{Frame}
use Rattle.cil_model.specs.declared.machine.Value.{Value}
use Rattle.cil_model.specs.declared.unit.Unit.{Unit as MethodUnit}
use Rattle.machine_points.specs.MachineValues.{HasMachineValues}
use Rattle.machine_points.specs.declared.point.Point.{Point}

-- The point of a frame over a heap.
abbrev pub point : Frame → Heap → Point
point frame heap = record { frame = frame; heap = heap }

-- Of one unit: its variables hold values of their types besides.
pub record IsPointOf (unit : MethodUnit) (p : Point) : Type 0 where
  pub heap : IsHeap p.heap
  pub frame : IsFrameOf unit p.heap p.frame

-- The one frame that lives there.
abbrev pub lives_at : Point → Config
lives_at p = Live (p.frame ∷ []) p.heap

-- A run of the unit by itself comes to the point.
pub record IsReached (unit : MethodUnit) (p : Point) : Type 0 where
  pub index : ℕ
  pub args : List Value
  pub heap : Heap
  pub count : ℕ
  pub runs : LocalRuns unit index args heap count (lives_at p)

-- Each point to which a run of the unit comes has values of the machine.
abbrev pub RunsHaveValues : MethodUnit → Type 0
RunsHaveValues unit = (p : Point) → IsReached unit p → HasMachineValues p
