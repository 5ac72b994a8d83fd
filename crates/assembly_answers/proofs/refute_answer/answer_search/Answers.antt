use Rattle.std.proofs.Common.{◌∙◌}
use Rattle.answer_lines.proofs.Writings.{written_whole}
use Rattle.assembly_answers.specs.RefuteText.{not_refuted_line}
use Rattle.assembly_answers.proofs.CountedRuns.{not_refuted_is_line}
use Rattle.assembly_answers.proofs.refute_answer.answer_search.Goals as goal

pub put_line-requires : goal.put_line-requires
put_line-requires g c = rw (c.deref-in-NotFound.ensures.value, c.in_ok-line-in-NotFound.ensures) (not_refuted_is_line c.in-NotFound.tried c.in-NotFound.started)

pub returns-in_ok-put_line-in-NotFound-clause-written : goal.returns-in_ok-put_line-in-NotFound-clause-written
returns-in_ok-put_line-in-NotFound-clause-written g c =
    rw c.in-NotFound.is
    (written_whole _ 0 _ _ (not_refuted_line c.in-NotFound.tried c.in-NotFound.started) (c.deref-in-NotFound.ensures.value ∙ c.in_ok-line-in-NotFound.ensures)
    c.in_ok-put_line-in-NotFound.ensures)
