use Rattle.std.proofs.Common.{refl}
use Rattle.answer_lines.specs.LineCounts.{line_count}
use Rattle.assembly_answers.proofs.PlainFaults.{assembly_fault_plain}
use Rattle.assembly_answers.proofs.method_world.answer_no_world.Goals as goal

pub answer_refused-requires : goal.answer_refused-requires
answer_refused-requires g c = rw c.assembly_fault_text.ensures (assembly_fault_plain c.in-Refused.fault.cause)

pub answer_misfit-requires : goal.answer_misfit-requires
unfolding line_count
answer_misfit-requires g c = refl

pub answer_misfit-requires-in-SeveralMethods : goal.answer_misfit-requires-in-SeveralMethods
unfolding line_count
answer_misfit-requires-in-SeveralMethods g c = refl

pub answer_misfit-requires-in-NotAnalysed : goal.answer_misfit-requires-in-NotAnalysed
unfolding line_count
answer_misfit-requires-in-NotAnalysed g c = refl

pub returns-in-Refused-clause-written : goal.returns-in-Refused-clause-written
returns-in-Refused-clause-written g c = rw (c.in-Refused.is, ← c.assembly_fault_text.ensures) c.answer_refused.ensures.written

pub returns-in-NoMethod-clause-written : goal.returns-in-NoMethod-clause-written
returns-in-NoMethod-clause-written g c = rw c.in-NoMethod.is c.answer_misfit.ensures.written

pub returns-in-SeveralMethods-clause-written : goal.returns-in-SeveralMethods-clause-written
returns-in-SeveralMethods-clause-written g c = rw c.in-SeveralMethods.is c.answer_misfit-in-SeveralMethods.ensures.written

pub returns-in-NotAnalysed-clause-written : goal.returns-in-NotAnalysed-clause-written
returns-in-NotAnalysed-clause-written g c = rw c.in-NotAnalysed.is c.answer_misfit-in-NotAnalysed.ensures.written
