use Rattle.ensures_infer.proofs.Returning.{IsUnderWay}
use Rattle.ensures_infer.proofs.returns.push_each.Given as goal

abbrev pub invariant-loop-instr : goal.invariant-loop-instr
invariant-loop-instr l =
    IsUnderWay l.unit l.instrs l.initial.found.items l.initial.state l.found.items l.state l.instr-index
