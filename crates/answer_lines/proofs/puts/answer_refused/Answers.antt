use Rattle.answer_lines.proofs.LineLemmas.{refused_is_line}
use Rattle.answer_lines.proofs.puts.answer_refused.Goals as goal

pub answer_error-requires : goal.answer_error-requires
answer_error-requires g c = rw (c.deref.ensures.value, c.in_ok-line.ensures) (refused_is_line c.args.name.now c.args.fault.now c.args.at c.requires)

pub returns-clause-written : goal.returns-clause-written
returns-clause-written g c = rw (c.deref.ensures.value, c.in_ok-line.ensures) at c.answer_error.ensures.written
