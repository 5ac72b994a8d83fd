use Rattle.std.proofs.Common.{◌≡◌, take}
use Rattle.cc_base.specs.Counts.{Kept}
use Rattle.cc_base.specs.Sink.{appended, counted}
use Rattle.std.specs.List.{flat_map}
use Rattle.answer_lines.specs.LineCounts.{line_count}
use Rattle.assembly_answers.specs.IlText.{il_line}
use Rattle.assembly_answers.proofs.il_answer.put_instrs.Given as goal

abbrev pub invariant-loop-instr : goal.invariant-loop-instr
invariant-loop-instr g l =
    let written = g.O.Sink.written in
    let puts = g.O.Sink.puts in
    let faults = g.O.Sink.faults in
    record {
      so_far : written l.out ≡ appended (written l.initial.out) (flat_map il_line (take l.instr-index l.instrs));
      puts : puts l.out ≡ counted (line_count (flat_map il_line (take l.instr-index l.instrs))) (puts l.initial.out);
      kept : Kept (faults l.initial.out) (faults l.out);
    }
