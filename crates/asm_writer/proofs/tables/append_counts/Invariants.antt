use Rattle.std.proofs.Common.{◌≡◌, ◌++◌, take}
use Rattle.std.specs.List.{flat_map}
use Rattle.asm_writer.specs.Stream.{count_bytes}
use Rattle.asm_writer.proofs.tables.append_counts.Given as goal

abbrev pub invariant-loop-table : goal.invariant-loop-table
invariant-loop-table l = l.out.items ≡ l.initial.out.items ++ flat_map (count_bytes l.layout) (take l.table-index l.tables)
