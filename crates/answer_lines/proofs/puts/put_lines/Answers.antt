use Rattle.std.proofs.Common.{Vec, ℕ, Global, refl, sym}
use Rattle.std.proofs.lemmas.Result.{err_from_is_err_and}
use Rattle.cc_base.proofs.CountLemmas.{Kept-refl, Kept-trans}
use Rattle.cc_base.proofs.SinkLemmas.{appended-nil}
use Rattle.answer_lines.specs.LineCounts.{line_count}
use Rattle.answer_lines.specs.Writing.{Writes}
use Rattle.answer_lines.proofs.Writings.{puts_next, texts_next, texts_stop}
use Rattle.answer_lines.proofs.puts.put_lines.Goals as goal

pub loop-line-init : goal.loop-line-init
unfolding line_count
loop-line-init g c = record {
  so_far = sym (appended-nil (g.S.Sink.written c.args.sink.now));
  puts = refl;
  kept = Kept-refl (g.S.Sink.faults c.args.sink.now);
}

pub loop-line-preserved : goal.loop-line-preserved
loop-line-preserved g c = record {
  so_far = texts_next (λ (line : Vec ℕ Global). line.items) c.args.lines.now c.loop-line.line-index c.line-item.result _ _ _
      c.loop-line-test.true c.line-item.is c.loop-line.invariant.so_far (Writes.whole (rw c.deref.ensures.value at c.in_ok-put_line.ensures));
  puts = puts_next (λ (line : Vec ℕ Global). line.items) c.args.lines.now c.loop-line.line-index c.line-item.result _ _ _
      c.loop-line-test.true c.line-item.is c.loop-line.invariant.puts (Writes.puts (rw c.deref.ensures.value at c.in_ok-put_line.ensures));
  kept = Kept-trans _ _ _ c.loop-line.invariant.kept c.put_line.ensures.kept;
}

pub returns-in_err-put_line : goal.returns-in_err-put_line
returns-in_err-put_line g c =
    let p = err_from_is_err_and c.from_residual.result c.from_residual.ensures.1 in
    rw (p.1, p.2)
    (texts_stop (λ (line : Vec ℕ Global). line.items) c.args.lines.now c.loop-line.line-index c.line-item.result c.in_err-put_line.field-0.0 _ _ _ _ _ _ _ _ _
    c.loop-line-test.true c.line-item.is c.loop-line.invariant.so_far c.loop-line.invariant.kept (rw c.deref.ensures.value at c.in_err-put_line.ensures))
