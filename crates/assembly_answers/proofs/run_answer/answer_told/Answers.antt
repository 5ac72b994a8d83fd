use Rattle.answer_lines.proofs.Writings.{gives_error}
use Rattle.assembly_answers.proofs.run_answer.answer_told.Goals as goal

pub returns-in-Misfit : goal.returns-in-Misfit
returns-in-Misfit g c = rw (c.in-Misfit.is, ← c.as_slice.ensures) (gives_error 11 _ _ _ _ _ _ c.answer_misfit.ensures.status c.answer_misfit.ensures.written)
