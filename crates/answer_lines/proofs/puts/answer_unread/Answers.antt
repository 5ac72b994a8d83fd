use Rattle.answer_lines.proofs.LineLemmas.{unread_is_line}
use Rattle.answer_lines.proofs.puts.answer_unread.Goals as goal

pub answer_error-requires : goal.answer_error-requires
answer_error-requires g c = rw (c.deref.ensures.value, c.in_ok-line.ensures) (unread_is_line c.args.name.now)

pub returns-clause-written : goal.returns-clause-written
returns-clause-written g c = rw (c.deref.ensures.value, c.in_ok-line.ensures) at c.answer_error.ensures.written
