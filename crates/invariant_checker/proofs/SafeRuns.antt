-- A unit is safe where no step at a point to which a run comes ends in a fault.
use Rattle.std.proofs.Common.{ℕ, List}
use Rattle.cil_model.specs.Runs.{IsDefined, IsNoFault, LocalRuns, LocalSafe, LocalStep}
use Rattle.cil_model.specs.Values.{Heap}
use Rattle.cil_model.specs.declared.machine.Config.{Config}
use Rattle.cil_model.specs.declared.machine.Config.TheVariants as configs
use Rattle.cil_model.specs.declared.machine.FaultKind.{FaultKind}
use Rattle.cil_model.specs.declared.machine.Value.{Value}
use Rattle.cil_model.specs.declared.unit.Unit.{Unit as MethodUnit}
use Rattle.cil_model.proofs.AloneSafe.{alone_is_safe, no_callee_no_call}
use Rattle.unit_flow.specs.Flow.{IsLawful}
use Rattle.unit_flow.specs.declared.unit_flow.UnitFlow.{UnitFlow}
use Rattle.unit_flow.proofs.KindsAlong.{makes}
use Rattle.unit_flow.proofs.LawfulCode as laws
use Rattle.unit_flow.proofs.OnTheWay.{StepsToFault, itself, run_faults, typed}
use Rattle.invariant_checker.specs.Safety.{IsSafe}

-- No step ends in a fault.
abbrev pub NoneFaults : (code : UnitFlow) → IsLawful code → Type 0
NoneFaults code lawful = (kind : FaultKind) (index at : ℕ) → StepsToFault code lawful kind index at → ⊥

module _ (code : UnitFlow) (lawful : IsLawful code) (none : NoneFaults code lawful) where
  abbrev unit : MethodUnit
  unit = code.unit

  is_no_fault : (index : ℕ) (args : List Value) (heap : Heap) (n : ℕ) (c : Config)
      → LocalRuns unit index args heap n c → IsNoFault c
  is_no_fault index args heap n (configs.Fault kind m at) runs =
      none kind m at (run_faults code lawful index args heap n kind m at runs)
  is_no_fault index args heap n _ runs = tt

  defined : (index : ℕ) (args : List Value) (heap : Heap) (n : ℕ) (c : Config) → LocalRuns unit index args heap n c
      → IsDefined (LocalStep unit) c
  defined index args heap n c runs =
      (typed code lawful).runs unit (itself code lawful) lawful.formed.locals (laws.lawful_body code lawful) index args
      heap n c runs

  local_safe : LocalSafe unit
  local_safe index args heap n c runs = (is_no_fault index args heap n c runs, defined index args heap n c runs)

  pub runs_are_safe : IsSafe unit
  runs_are_safe = record {
    local = local_safe;
    worlds = λ alone w m of. alone_is_safe w m unit of (no_callee_no_call unit lawful.formed alone) (makes code lawful)
        local_safe;
  }
