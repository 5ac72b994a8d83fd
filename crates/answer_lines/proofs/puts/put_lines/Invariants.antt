use Rattle.std.proofs.Common.{◌≡◌, take}
use Rattle.cc_base.specs.Counts.{Kept}
use Rattle.cc_base.specs.Sink.{appended, counted}
use Rattle.answer_lines.specs.LineCounts.{line_count}
use Rattle.answer_lines.specs.Writing.{joined}
use Rattle.answer_lines.proofs.puts.put_lines.Given as goal

abbrev pub invariant-loop-line : goal.invariant-loop-line
invariant-loop-line g l =
    let written = g.S.Sink.written in
    let puts = g.S.Sink.puts in
    let faults = g.S.Sink.faults in
    record {
      so_far : written l.sink ≡ appended (written l.initial.sink) (joined (take l.line-index l.lines));
      puts : puts l.sink ≡ counted (line_count (joined (take l.line-index l.lines))) (puts l.initial.sink);
      kept : Kept (faults l.initial.sink) (faults l.sink);
    }
