use Rattle.std.proofs.Common.{◌≡◌, ◌++◌, take}
use Rattle.std.specs.List.{flat_map}
use Rattle.asm_writer.specs.Stream.{table_bytes}
use Rattle.asm_writer.proofs.tables.append_tables.Given as goal

abbrev pub invariant-loop-table : goal.invariant-loop-table
invariant-loop-table l = l.out.items ≡ l.initial.out.items ++ flat_map (table_bytes l.layout l.methods) (take l.table-index l.tables)
