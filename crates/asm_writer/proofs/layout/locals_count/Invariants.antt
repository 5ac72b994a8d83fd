use Rattle.std.proofs.Common.{◌≡◌, ◌≤◌, take}
use Rattle.std.specs.List.{sum_by}
use Rattle.asm_writer.specs.Bodies.{locals_rows}
use Rattle.asm_writer.proofs.layout.locals_count.Given as goal

abbrev pub invariant-loop-method : goal.invariant-loop-method
invariant-loop-method l = record {
  is : l.count ≡ sum_by locals_rows (take l.method-index l.methods);
  few : l.count ≤ l.method-index;
}
