use Rattle.std.proofs.Common.{◌≡◌, ◌++◌, drop}
use Rattle.obligation_prover.specs.Faults.{faults_of}
use Rattle.invariant_checker.specs.Verdicts.{own_verdicts, verdicts_in_turn}
use Rattle.invariant_checker.proofs.judging.push_in_turn.Given as goal

abbrev pub invariant-loop-kind : goal.invariant-loop-kind
invariant-loop-kind l =
    l.found.items ++ verdicts_in_turn l.unit l.instr (drop l.kind-index (faults_of l.unit l.instr.op)) l.state
    ≡ l.initial.found.items ++ own_verdicts l.unit l.instr l.initial.state
