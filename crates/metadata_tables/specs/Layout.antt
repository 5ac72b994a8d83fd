-- Where the fields, row counts and cells of the stream `#~` stand (ECMA-335 II.24.2.6).
use Rattle.std.specs.Prelude.{ℕ, ◌+◌, ◌-◌, ◌*◌, List, map, take, sum_by, slice_index, slice_index_or, Option, Some, None, ◌==◌, if◌then◌else◌, codes}
use Rattle.std.specs.List.{range_with_len}
use Rattle.std.specs.Int.{bit_at}
use Rattle.cc_base.specs.LittleEndian.{u16_at, u32_at, u64_at}
use Rattle.metadata_tables.specs.declared.root.Stream.{Stream}
use Rattle.metadata_tables.specs.declared.schema.Column.{Column}
use Rattle.metadata_tables.specs.declared.schema.Column.TheVariants.{Two}
use Rattle.metadata_tables.specs.Root.{stream}
use Rattle.metadata_tables.specs.Schema.{columns_of, width, total_width}

-- Where a stream begins and ends.
abbrev pub start_of : Option Stream → ℕ
start_of None = 0
start_of (Some s) = s.at

abbrev pub end_of : Option Stream → ℕ
end_of None = 0
end_of (Some s) = s.at + s.size

unfoldable pub tables_at : List ℕ → ℕ
tables_at md = start_of (stream md (codes "#~"))

unfoldable pub tables_end : List ℕ → ℕ
tables_end md = end_of (stream md (codes "#~"))

-- The field HeapSizes: which heaps have wide indexes.
unfoldable pub heap_sizes : List ℕ → ℕ
heap_sizes md = slice_index md (tables_at md + 6)

-- The field Valid: a bit for each table that is present.
unfoldable pub valid : List ℕ → ℕ
valid md = u64_at md (tables_at md + 8)

-- Where the row counts stand, one for each table that is present.
unfoldable pub counts_at : List ℕ → ℕ
counts_at md = tables_at md + 24

-- How many of the tables below this one have their bit set.
unfoldable pub present_below : ℕ → ℕ → ℕ
present_below bits table = sum_by (bit_at bits) (range_with_len 0 table)

-- The row count of a table where it is present, else 0.
unfoldable pub stored_count : List ℕ → ℕ → ℕ
stored_count md table =
    if bit_at (valid md) table == 1 then u32_at md (counts_at md + 4 * present_below (valid md) table) else 0

-- The row counts of the tables 00 to 2c.
unfoldable pub row_counts : List ℕ → List ℕ
row_counts md = map (stored_count md) (range_with_len 0 45)

-- How many rows a table has, 0 where there is no such table.
abbrev pub row_count : List ℕ → ℕ → ℕ
row_count md table = slice_index (row_counts md) table

-- Where the rows begin: after the row counts.
unfoldable pub rows_at : List ℕ → ℕ
rows_at md = counts_at md + 4 * present_below (valid md) 64

-- The bytes of a row of a table.
unfoldable pub row_width : List ℕ → ℕ → ℕ → ℕ
row_width counts heap_sizes table = total_width counts heap_sizes (columns_of table)

-- The bytes of all rows of the tables below this one.
unfoldable pub bytes_below : List ℕ → ℕ → ℕ → ℕ
bytes_below counts heap_sizes table =
    sum_by (λ lower. slice_index counts lower * row_width counts heap_sizes lower) (range_with_len 0 table)

-- Where each of some columns begins in a row, and after the last one where the row ends. No table has more than nine.
unfoldable pub column_offsets : List ℕ → ℕ → List Column → List ℕ
column_offsets counts heap_sizes columns = map (λ column. total_width counts heap_sizes (take column columns)) (range_with_len 0 10)

-- Those of each table.
unfoldable pub offsets : List ℕ → ℕ → List (List ℕ)
offsets counts heap_sizes = map (λ table. column_offsets counts heap_sizes (columns_of table)) (range_with_len 0 45)

-- Where the first row of each table stands, where those of the first table begin at a place.
unfoldable pub bases : List ℕ → ℕ → ℕ → List ℕ
bases counts heap_sizes rows_at = map (λ table. rows_at + bytes_below counts heap_sizes table) (range_with_len 0 45)

-- Where the first row of a table stands.
unfoldable pub base : List ℕ → ℕ → ℕ
base md table = rows_at md + bytes_below (row_counts md) (heap_sizes md) table

-- Where a column, counted from 0, begins in each row of a table, and after the last column where a row ends.
unfoldable pub column_offset : List ℕ → ℕ → ℕ → ℕ
column_offset md table column = total_width (row_counts md) (heap_sizes md) (take column (columns_of table))

-- The bytes of each cell of a column.
unfoldable pub column_width : List ℕ → ℕ → ℕ → ℕ
column_width md table column = width (row_counts md) (heap_sizes md) (slice_index_or (columns_of table) column Two)

-- Where the cell of a table, a row counted from 1 and a column stands.
unfoldable pub cell_at : List ℕ → ℕ → ℕ → ℕ → ℕ
cell_at md table row column =
    base md table + (row - 1) * row_width (row_counts md) (heap_sizes md) table + column_offset md table column

-- The number in that cell.
unfoldable pub cell : List ℕ → ℕ → ℕ → ℕ → ℕ
cell md table row column =
    if column_width md table column == 4 then u32_at md (cell_at md table row column) else u16_at md (cell_at md table row column)
