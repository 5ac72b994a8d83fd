use Rattle.std.proofs.Common.{take}
use Rattle.flow_graph.proofs.Marks.{AreStarts}
use Rattle.flow_graph.proofs.blocks.start_offsets.Given as goal

abbrev pub invariant-loop-instr : goal.invariant-loop-instr
invariant-loop-instr l = AreStarts l.body_start (take l.instr-index l.body) l.offsets.items
