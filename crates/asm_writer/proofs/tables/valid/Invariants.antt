use Rattle.std.proofs.Common.{◌≡◌, ◌≤◌, ◌*◌, ◌^◌, take}
use Rattle.std.specs.List.{sum_by}
use Rattle.asm_writer.specs.Stream.{valid_bit}
use Rattle.asm_writer.proofs.tables.valid.Given as goal

abbrev pub invariant-loop-table : goal.invariant-loop-table
invariant-loop-table l = record {
  is : l.bits ≡ sum_by (valid_bit l.layout) (take l.table-index l.tables);
  bound : l.bits ≤ l.table-index * 2 ^ 43;
}
