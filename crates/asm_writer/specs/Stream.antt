-- The stream `#~` (ECMA-335 II.24.2.6).
use Rattle.std.specs.Prelude.{ℕ, ◌+◌, ◌^◌, List, [], ◌∷◌, ◌++◌, flat_map, sum_by, if◌then◌else◌, ◌==◌}
use Rattle.asm_writer.specs.declared.layout.Layout.{Layout}
use Rattle.asm_writer.specs.declared.number.Number.{Number}
use Rattle.asm_writer.specs.declared.number.Number.TheVariants.{Zeros, Two, Four, Eight}
use Rattle.asm_writer.specs.declared.plan.MethodPlan.{MethodPlan}
use Rattle.asm_writer.specs.declared.table.Table.{Table}
use Rattle.asm_writer.specs.Layout.{is_wide_heap, row_count, rows_bytes}
use Rattle.asm_writer.specs.Numbers.{numbers_bytes}
use Rattle.asm_writer.specs.Padding.{padded}
use Rattle.asm_writer.specs.Rows.{table_rows}
use Rattle.asm_writer.specs.Tables.{all_tables, table_number}

-- HeapSizes: 1 where indexes into `#Strings` have four bytes, and 4 where those into `#Blob` have.
abbrev pub heap_sizes : Layout → ℕ
heap_sizes l = (if is_wide_heap l.strings then 1 else 0) + (if is_wide_heap l.blobs then 4 else 0)

-- Valid has a bit for each table that has rows.
abbrev pub valid_bit : Layout → Table → ℕ
valid_bit l table = if row_count l table == 0 then 0 else 2 ^ table_number table

abbrev pub valid : Layout → ℕ
valid l = sum_by (valid_bit l) all_tables

-- Versions and HeapSizes, Valid and Sorted.
abbrev pub stream_numbers : Layout → List Number
stream_numbers l = Zeros 6 ∷ Two (heap_sizes l) ∷ Eight (valid l) ∷ Zeros 8 ∷ []

-- The row count of a table that has rows.
abbrev pub count_numbers : Layout → Table → List Number
count_numbers l table = if row_count l table == 0 then [] else Four (row_count l table) ∷ []

abbrev pub count_bytes : Layout → Table → List ℕ
count_bytes l table = numbers_bytes (count_numbers l table)

abbrev pub table_bytes : Layout → List MethodPlan → Table → List ℕ
table_bytes l methods table = rows_bytes l (table_rows methods l.externs table)

-- The numbers before, the row counts and the rows, filled up to a multiple of four.
unfoldable pub tables_stream : Layout → List MethodPlan → List ℕ
tables_stream l methods =
    padded 4
    (numbers_bytes (stream_numbers l)
    ++ flat_map (count_bytes l) all_tables
    ++ flat_map (table_bytes l methods) all_tables)
