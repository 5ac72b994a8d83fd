-- What an evaluator's steps are of those of the machine, which knows no limits.
use Rattle.std.specs.Prelude.{◌≡◌, ℕ, ◌+◌, ◌<◌, List, length}
use Rattle.cil_model.specs.Runs.{Step, StepsTo}
use Rattle.cil_model.specs.Values.{Heap}
use Rattle.cil_model.specs.declared.machine.Config.{Config}
use Rattle.cil_model.specs.declared.machine.Config.TheVariants as configs
use Rattle.cil_model.specs.declared.machine.Frame.{Frame}
use Rattle.cil_model.specs.declared.machine.World.{World}
use Rattle.cil_eval.specs.declared.limits.Limits.{Limits}
use Rattle.cil_eval.specs.declared.stop.Stop.{Stop}
use Rattle.cil_eval.specs.declared.stop.Stop.TheVariants as stops

-- A step leads to more frames than there may be.
pub record GoesTooDeep (limits : Limits) (Next : Config → Type 0) : Type 0 where
  pub frames : List Frame
  pub heap : Heap
  pub next : Next (configs.Live frames heap)
  pub deep : limits.depth < length frames

-- One of the configurations that a step leads to is what the stop tells: an end of the run, or a limit that is met. No
-- step tells that all steps are taken.
abbrev pub EndsBy : Limits → (Config → Type 0) → Stop → Type 0
EndsBy limits Next (stops.Returned result) = Next (configs.Returned result)
EndsBy limits Next (stops.Fault kind unit at) = Next (configs.Fault kind unit at)
EndsBy limits Next (stops.Assumed unit at) = Next (configs.Assumed unit at)
EndsBy limits Next stops.Cells = Next configs.NoRoom
EndsBy limits Next stops.Depth = GoesTooDeep limits Next
EndsBy limits Next stops.Steps = ⊥

-- So many steps of the machine lead from a configuration to this stop.
pub record EndsAfter (w : World) (limits : Limits) (start : Config) (taken : ℕ) (stop : Stop) : Type 0 where
  pub before : ℕ
  pub last : Config
  pub steps : StepsTo (Step w) start before last
  pub stops : EndsBy limits (Step w last) stop
  pub taken_is : taken ≡ before + 1
