use Rattle.invariant_checker.proofs.JudgeSteps.{IsUnderWay}
use Rattle.invariant_checker.proofs.judging.judge_instrs.Given as goal

abbrev pub invariant-loop-instr : goal.invariant-loop-instr
invariant-loop-instr l = IsUnderWay l.unit l.instrs l.initial.found.items l.initial.state l.found.items l.state l.instr-index
