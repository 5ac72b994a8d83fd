use Rattle.std.proofs.Common.{arith}
use Rattle.metadata_tables.proofs.SchemaLemmas.{table_known}
use Rattle.metadata_tables.proofs.CellLemmas.{offset_kept}
use Rattle.metadata_tables.proofs.tables.Tables.offset_in_row.Goals as goal

pub returns : goal.returns
returns c =
    rw (← c.self.view_is, c.from-2.ensures, c.from.ensures)
    (offset_kept c.self.inside.md.now c.self.inside.layout c.args.table c.args.column c.self.invariant.layout_kept (table_known c.args.table c.requires.table) (omega arith))

pub bounds-self-inside-from : goal.bounds-self-inside-from
bounds-self-inside-from c = omega (arith, c.from.ensures, table_known c.args.table c.requires.table)
