use Rattle.std.proofs.Common.{◌≡◌, ◌++◌, take}
use Rattle.std.specs.List.{flat_map}
use Rattle.asm_writer.specs.Layout.{fields_bytes}
use Rattle.asm_writer.proofs.tables.append_rows.Given as goal

abbrev pub invariant-loop-row : goal.invariant-loop-row
invariant-loop-row g l = l.out.items ≡ l.initial.out.items ++ flat_map (fields_bytes l.layout) (take l.row-index l.rows)
