use Rattle.transfer_rules.proofs.Walking.{IsOnWay}
use Rattle.transfer_rules.proofs.walks.walk.Given as goal

abbrev pub invariant-loop-instr : goal.invariant-loop-instr
invariant-loop-instr l = IsOnWay l.unit l.instrs l.initial.state l.state l.instr-index
