use Rattle.answer_lines.proofs.LineLemmas.{misfit_is_line}
use Rattle.answer_lines.proofs.puts.answer_misfit.Goals as goal

pub answer_error-requires : goal.answer_error-requires
answer_error-requires g c = rw (c.deref.ensures.value, c.in_ok-line.ensures) (misfit_is_line c.args.reason.now c.requires)

pub returns-clause-written : goal.returns-clause-written
returns-clause-written g c = rw (c.deref.ensures.value, c.in_ok-line.ensures) at c.answer_error.ensures.written
