use Rattle.std.proofs.Common.{◌≡◌, ◌++◌}
use Rattle.asm_writer.specs.Layout.{rows_bytes}
use Rattle.asm_writer.specs.Rows.{extern_rows}
use Rattle.asm_writer.proofs.tables.append_rows_of_externs.Given as goal

abbrev pub invariant-loop-index : goal.invariant-loop-index
invariant-loop-index l = l.out.items ≡ l.initial.out.items ++ rows_bytes l.layout (extern_rows l.table l.index)
