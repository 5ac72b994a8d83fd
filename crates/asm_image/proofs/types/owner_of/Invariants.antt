use Rattle.std.proofs.Common.{◌-◌, ◌≤◌}
use Rattle.asm_image.specs.Cells.{type_count, Begins}
use Rattle.asm_image.proofs.types.owner_of.Given as goal

abbrev pub invariant-loop-owner : goal.invariant-loop-owner
invariant-loop-owner l = record {
  there : l.owner ≤ type_count l.metadata.bytes;
  begins : Begins l.metadata.bytes l.owner l.row;
}

abbrev pub decreases-loop-owner : goal.decreases-loop-owner
decreases-loop-owner l = l.count - l.owner
