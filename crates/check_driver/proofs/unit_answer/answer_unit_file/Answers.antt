use Rattle.std.proofs.Common.{refl}
use Rattle.std.specs.Prelude.{codes}
use Rattle.answer_lines.specs.Answers.{refused_line}
use Rattle.check_driver.proofs.Answering.{too_large}
use Rattle.answer_lines.proofs.Writings.{gives_error}
use Rattle.answer_lines.specs.LineCounts.{line_count}
use Rattle.check_driver.proofs.unit_answer.answer_unit_file.Goals as goal

pub answer_refused-requires : goal.answer_refused-requires
unfolding line_count
answer_refused-requires g c = refl

pub returns-then-bytes-ge-READ_LIMIT-clause-answer : goal.returns-then-bytes-ge-READ_LIMIT-clause-answer
returns-then-bytes-ge-READ_LIMIT-clause-answer g c =
    rw (too_large c.args.name.now c.args.bytes.now c.if-bytes-ge-READ_LIMIT.true)
    (gives_error 5 (refused_line c.args.name.now (codes "file too large") 0x04000000) c.answer_refused.result
    (g.O.Sink.written c.args.out.now) (g.O.Sink.puts c.args.out.now) (g.O.Sink.faults c.args.out.now) _ c.answer_refused.ensures.status c.answer_refused.ensures.written)
