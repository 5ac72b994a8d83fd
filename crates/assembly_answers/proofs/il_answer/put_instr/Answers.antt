use Rattle.assembly_answers.proofs.CountedIl.{instr_is_line}
use Rattle.assembly_answers.proofs.il_answer.put_instr.Goals as goal

pub put_line-requires : goal.put_line-requires
put_line-requires g c = rw (c.deref.ensures.value, c.in_ok-append_line.ensures, c.clear.ensures.items) (instr_is_line c.args.instr.now)
