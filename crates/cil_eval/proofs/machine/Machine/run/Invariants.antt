use Rattle.std.proofs.Common.{◌≡◌, ◌+◌}
use Rattle.cil_eval.specs.Outcome.{State}
use Rattle.cil_eval.specs.Machines.{IsRun, IsSameMachine}
use Rattle.cil_eval.proofs.machine.Machine.run.Given as goal

abbrev pub invariant-loop : goal.invariant-loop
invariant-loop l = record {
  kept : (start : State) → IsRun l.fn.self start → IsRun l.self start;
  same : IsSameMachine l.fn.self l.self;
  taken : l.self.taken ≡ l.fn.self.taken + l.counter;
}
