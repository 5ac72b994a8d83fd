use Rattle.std.proofs.Common.{length}
use Rattle.cc_base.specs.Counts.{Kept}
use Rattle.assembly_answers.proofs.Listing.{AtRest}
use Rattle.assembly_answers.proofs.list_answer.put_methods.Given as goal

abbrev pub invariant-loop-token : goal.invariant-loop-token
invariant-loop-token g l =
    let written = g.O.Sink.written in
    let puts = g.O.Sink.puts in
    let faults = g.O.Sink.faults in
    record {
      rest : AtRest (written l.initial.out) (written l.out) (puts l.initial.out) (puts l.out) l.walk l.initial.walk;
      kept : Kept (faults l.initial.out) (faults l.out);
    }

abbrev pub decreases-loop-token : goal.decreases-loop-token
decreases-loop-token g l = length l.walk
