use Rattle.std.proofs.Common.{length, refl, ap, arith}
use Rattle.metadata_tables.specs.Layout.{column_offset}
use Rattle.metadata_tables.proofs.CellLemmas.{cell_place}
use Rattle.metadata_tables.proofs.tables.Tables.cell_at.Goals as goal

pub overflow_mul-result : goal.overflow_mul-result
overflow_mul-result c =
    let p = cell_place c.args.self.now c.self.inside.layout c.args.table c.args.row c.args.column c.count_of.result c.offset_in_row.result (column_offset c.args.self.now c.args.table c.args.column) (rw c.self.view_is at c.self.invariant.layout_kept) (rw c.self.view_is at c.self.invariant.sound)
    c.requires.first c.requires.last c.requires.column c.count_of.ensures c.offset_in_row.ensures refl in
    omega (arith, p.within, c.self.invariant.short, ap length c.self.view_is)

pub overflow_add-result : goal.overflow_add-result
overflow_add-result c =
    let p = cell_place c.args.self.now c.self.inside.layout c.args.table c.args.row c.args.column c.count_of.result c.offset_in_row.result (column_offset c.args.self.now c.args.table c.args.column) (rw c.self.view_is at c.self.invariant.layout_kept) (rw c.self.view_is at c.self.invariant.sound)
    c.requires.first c.requires.last c.requires.column c.count_of.ensures c.offset_in_row.ensures refl in
    omega (arith, p.within, c.self.invariant.short, ap length c.self.view_is)

pub overflow_add-result-2 : goal.overflow_add-result-2
overflow_add-result-2 c =
    let p = cell_place c.args.self.now c.self.inside.layout c.args.table c.args.row c.args.column c.count_of.result c.offset_in_row.result c.offset_in_row-2.result (rw c.self.view_is at c.self.invariant.layout_kept) (rw c.self.view_is at c.self.invariant.sound)
    c.requires.first c.requires.last c.requires.column c.count_of.ensures c.offset_in_row.ensures (rw (← c.from.ensures) c.offset_in_row-2.ensures) in
    omega (arith, p.within, c.self.invariant.short, ap length c.self.view_is)

pub returns-clause-place : goal.returns-clause-place
returns-clause-place c =
    let p = cell_place c.args.self.now c.self.inside.layout c.args.table c.args.row c.args.column c.count_of.result c.offset_in_row.result c.offset_in_row-2.result (rw c.self.view_is at c.self.invariant.layout_kept) (rw c.self.view_is at c.self.invariant.sound)
    c.requires.first c.requires.last c.requires.column c.count_of.ensures c.offset_in_row.ensures (rw (← c.from.ensures) c.offset_in_row-2.ensures) in
    p.is

pub returns-clause-within : goal.returns-clause-within
returns-clause-within c =
    let p = cell_place c.args.self.now c.self.inside.layout c.args.table c.args.row c.args.column c.count_of.result c.offset_in_row.result c.offset_in_row-2.result (rw c.self.view_is at c.self.invariant.layout_kept) (rw c.self.view_is at c.self.invariant.sound)
    c.requires.first c.requires.last c.requires.column c.count_of.ensures c.offset_in_row.ensures (rw (← c.from.ensures) c.offset_in_row-2.ensures) in
    omega (arith, p.within)
