use Rattle.std.proofs.Common.{length, drop}
use Rattle.clause_faults.specs.Faults.{code_faults, first_fault}
use Rattle.clause_faults.proofs.WayLemmas.Passing.{IsUnderWay}
use Rattle.clause_faults.proofs.clause_code.pass_code.Given as goal

abbrev pub invariant-loop-index : goal.invariant-loop-index
invariant-loop-index l =
    IsUnderWay (length l.clause.code.now) l.clause.instrs.now l.clause.shape.now l.clause.closing.now l.clause.code.now l.clause.start
    (first_fault (code_faults l.clause.instrs.now l.clause.shape.now l.clause.start l.clause.closing.now l.clause.code.now))
    l.index (drop l.index l.clause.code.now) l.first l.stacks
