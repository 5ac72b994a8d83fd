-- All tests of the metadata's root, streams and tables, in the order of reading.
use Rattle.std.specs.Prelude.{ℕ, ◌+◌, List, [], ◌∷◌, ◌++◌, length, map, replicate, slice_index, Option, ◌==◌, ◌&&◌, not}
use Rattle.std.specs.List.{flat_map, range_with_len}
use Rattle.std.specs.Int.{bit_at}
use Rattle.cc_base.specs.Tests.{first_of, must}
use Rattle.metadata_tables.specs.declared.fault.TableFault.{TableFault}
use Rattle.metadata_tables.specs.declared.fault.TableFault.TheVariants.{BadTables, Short}
use Rattle.metadata_tables.specs.Tests.{fields}
use Rattle.metadata_tables.specs.Root.{streams_tests}
use Rattle.metadata_tables.specs.Schema.{columns_of}
use Rattle.metadata_tables.specs.Layout.{tables_at, tables_end, valid, counts_at, present_below, rows_at, row_counts, heap_sizes, row_width, bytes_below}

-- A set bit of Valid, which stands at a place, is that of a table that there is.
unfoldable pub bit_test : ℕ → ℕ → ℕ → Option TableFault
bit_test bits at bit = must (not (bit_at bits bit == 1 && length (columns_of bit) == 0)) (BadTables bit at)

-- Each bit of Valid, from the lowest on.
unfoldable pub bits_tests : ℕ → ℕ → List (Option TableFault)
bits_tests bits at = map (bit_test bits at) (range_with_len 0 64)

-- The rows of a table, over the row counts of all tables and HeapSizes, where the rows of the first table begin at a
-- place.
unfoldable pub rows_tests : ℕ → List ℕ → ℕ → ℕ → ℕ → List (Option TableFault)
rows_tests end counts heap_sizes rows_at table =
    fields end (λ at. Short at) (rows_at + bytes_below counts heap_sizes table)
    (replicate (slice_index counts table) (row_width counts heap_sizes table))

-- The rows of each table.
unfoldable pub all_rows_tests : ℕ → List ℕ → ℕ → ℕ → List (Option TableFault)
all_rows_tests end counts heap_sizes rows_at = flat_map (rows_tests end counts heap_sizes rows_at) (range_with_len 0 45)

-- The stream `#~`: its header up to Valid, the bits of Valid, Sorted, the row counts, and the rows.
unfoldable pub tables_tests : List ℕ → List (Option TableFault)
tables_tests md =
    fields (tables_end md) (λ at. Short at) (tables_at md) (4 ∷ 1 ∷ 1 ∷ 1 ∷ 1 ∷ 8 ∷ [])
    ++ bits_tests (valid md) (tables_at md + 8)
    ++ fields (tables_end md) (λ at. Short at) (tables_at md + 16) (8 ∷ [])
    ++ fields (tables_end md) (λ at. Short at) (counts_at md) (replicate (present_below (valid md) 64) 4)
    ++ all_rows_tests (tables_end md) (row_counts md) (heap_sizes md) (rows_at md)

-- All tests.
unfoldable pub table_tests : List ℕ → List (Option TableFault)
table_tests md = streams_tests md ++ tables_tests md

-- The first fault of the metadata.
unfoldable pub first_table_fault : List ℕ → Option TableFault
first_table_fault md = first_of (table_tests md)
