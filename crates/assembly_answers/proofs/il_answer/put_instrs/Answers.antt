use Rattle.std.proofs.Common.{refl, sym}
use Rattle.std.proofs.lemmas.Result.{err_from_is_err_and}
use Rattle.cc_base.proofs.CountLemmas.{Kept-refl, Kept-trans}
use Rattle.cc_base.proofs.SinkLemmas.{appended-nil}
use Rattle.answer_lines.specs.LineCounts.{line_count}
use Rattle.answer_lines.specs.Writing.{Writes}
use Rattle.answer_lines.proofs.Writings.{puts_next, texts_next, texts_stop}
use Rattle.assembly_answers.specs.IlText.{il_line, il_text}
use Rattle.assembly_answers.proofs.il_answer.put_instrs.Goals as goal

pub loop-instr-init : goal.loop-instr-init
unfolding line_count
loop-instr-init g c = record {
  so_far = sym (appended-nil (g.O.Sink.written c.args.out.now));
  puts = refl;
  kept = Kept-refl (g.O.Sink.faults c.args.out.now);
}

pub loop-instr-preserved : goal.loop-instr-preserved
loop-instr-preserved g c = record {
  so_far = texts_next il_line c.args.instrs.now c.loop-instr.instr-index c.instr-item.result _ _ _
      c.loop-instr-test.true c.instr-item.is c.loop-instr.invariant.so_far (Writes.whole c.in_ok-put_instr.ensures);
  puts = puts_next il_line c.args.instrs.now c.loop-instr.instr-index c.instr-item.result _ _ _
      c.loop-instr-test.true c.instr-item.is c.loop-instr.invariant.puts (Writes.puts c.in_ok-put_instr.ensures);
  kept = Kept-trans _ _ _ c.loop-instr.invariant.kept c.put_instr.ensures.kept;
}

pub returns-in_err-put_instr : goal.returns-in_err-put_instr
unfolding il_text
returns-in_err-put_instr g c =
    let p = err_from_is_err_and c.from_residual.result c.from_residual.ensures.1 in
    rw (p.1, p.2)
    (texts_stop il_line c.args.instrs.now c.loop-instr.instr-index c.instr-item.result c.in_err-put_instr.field-0.0 _ _ _ _ _ _ _ _ _
    c.loop-instr-test.true c.instr-item.is c.loop-instr.invariant.so_far c.loop-instr.invariant.kept c.in_err-put_instr.ensures)
