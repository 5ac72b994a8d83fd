use Rattle.std.proofs.Common.{◌-◌, ◌≤◌}
use Rattle.asm_image.specs.Cells.{type_count, Begins}
use Rattle.asm_image.proofs.RunLemmas.{BeginLater}
use Rattle.asm_image.proofs.types.found_owner.Given as goal

abbrev pub invariant-loop-owner : goal.invariant-loop-owner
invariant-loop-owner l = record {
  between : l.owner ≤ l.last;
  there : l.last ≤ type_count l.metadata.bytes;
  begins : Begins l.metadata.bytes l.owner l.row;
  later : BeginLater l.metadata.bytes l.last l.row;
}

abbrev pub decreases-loop-owner : goal.decreases-loop-owner
decreases-loop-owner l = l.last - l.owner
