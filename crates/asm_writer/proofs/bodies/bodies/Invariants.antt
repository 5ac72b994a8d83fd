use Rattle.std.proofs.Common.{◌≡◌, ◌+◌, ◌≤◌, take}
use Rattle.asm_writer.specs.Bodies.{body_item, locals_row}
use Rattle.asm_writer.specs.Each.{each_from}
use Rattle.asm_writer.specs.Packing.{packed}
use Rattle.asm_writer.proofs.bodies.bodies.Given as goal

abbrev pub invariant-loop-method : goal.invariant-loop-method
invariant-loop-method l = record {
  whole : l.bodies ≡ packed (each_from 0 (body_item l.methods) (take l.method-index l.methods));
  row : l.row ≡ locals_row l.methods l.method-index;
  few : l.row ≤ l.method-index + 1;
}
