-- Where cells stand, and that they lie in the metadata.
use Rattle.std.proofs.Common.{◌≡◌, ℕ, zero, suc, ◌+◌, ◌-◌, ◌*◌, ◌≤◌, ◌<◌, List, [], ◌∷◌, length, ◌++◌, get_or, take, replicate, Option, Some, None, Bool, true, false, cond, refl, sym, ap, ◌∙◌, arith, inl, inr}
use Rattle.std.specs.Prelude.{slice_index_or, codes}
use Rattle.std.proofs.lemmas.Bool.{cases_lt}
use Rattle.std.proofs.Math.Nat.{mul-le-mul_left}
use Rattle.std.proofs.lemmas.List.{get_or_past, take_all}
use Rattle.std.proofs.lemmas.List.Sums.{sum_by-cons, sum_by_more, sum_by_more_le}
use Rattle.std.proofs.lemmas.List.FromFn.{get_or-map-range_with_len, length-map-range_with_len}
use Rattle.cc_base.specs.Tests.{first_of}
use Rattle.cc_base.proofs.TestLemmas.{none_behind, each-passed}
use Rattle.metadata_tables.specs.declared.fault.TableFault.{TableFault}
use Rattle.metadata_tables.specs.declared.fault.TableFault.TheVariants.{Short}
use Rattle.metadata_tables.specs.declared.layout.Layout.{Layout}
use Rattle.metadata_tables.specs.declared.root.Stream.{Stream}
use Rattle.metadata_tables.specs.declared.schema.Column.{Column}
use Rattle.metadata_tables.specs.declared.schema.Column.TheVariants.{Two, Four, Strings, Guid, Blob, Row, Coded}
use Rattle.metadata_tables.specs.Tests.{fields}
use Rattle.metadata_tables.specs.Root.{stream}
use Rattle.metadata_tables.specs.Schema.{columns_of, width, total_width}
use Rattle.metadata_tables.specs.Layout.{end_of, tables_at, tables_end, heap_sizes, valid, counts_at, present_below, stored_count, row_counts, row_count, rows_at, row_width, bytes_below, column_offsets, offsets, bases, base, column_offset, column_width, cell_at}
use Rattle.metadata_tables.specs.Placed.{IsLayoutOf}
use Rattle.metadata_tables.specs.TableTests.{rows_tests, all_rows_tests, tables_tests, first_table_fault, bits_tests}
use Rattle.metadata_tables.proofs.SchemaLemmas.{columns_few, table_known}
use Rattle.metadata_tables.proofs.HeaderLemmas.{stream-within}
use Rattle.metadata_tables.proofs.HeapLemmas.{streams-sound, tables-sound}
use Rattle.metadata_tables.proofs.FieldLemmas.{fields-fits, fields-short}

-- Of fields that all fit, the first does.
prefix-fits : (end : ℕ) (fault : ℕ → TableFault) (at w : ℕ) (widths : List ℕ) → first_of (fields end fault at (w ∷ widths)) ≡ None → at + w ≤ end
prefix-fits end fault at w widths e =
    elim (cases_lt end (at + w)) [
      | inl past ↦
          let failed = fields-short end fault at w widths past in
          absurd cc
      | inr fit ↦ fit
    ]

-- Of fields that all fit, each ends before the end.
run-row : (count end : ℕ) (fault : ℕ → TableFault) (at w row : ℕ) → row < count
    → first_of (fields end fault at (replicate count w)) ≡ None → at + row * w + w ≤ end
run-row zero end fault at w row h e = absurd (omega arith)
run-row (suc count) end fault at w zero h e = omega (arith, prefix-fits end fault at w (replicate count w) e)
run-row (suc count) end fault at w (suc row) h e =
    let fit = prefix-fits end fault at w (replicate count w) e in
    let later = run-row count end fault (at + w) w row (omega arith) (sym (fields-fits end fault at w (replicate count w) fit) ∙ e) in
    omega arith

-- ---- the rows

all-rows : (md : List ℕ) → first_table_fault md ≡ None → first_of (all_rows_tests (tables_end md) (row_counts md) (heap_sizes md) (rows_at md)) ≡ None
unfolding tables_tests
all-rows md e =
    none_behind
    (fields (tables_end md) (λ at. Short at) (tables_at md) (4 ∷ 1 ∷ 1 ∷ 1 ∷ 1 ∷ 8 ∷ [])
    ++ bits_tests (valid md) (tables_at md + 8)
    ++ fields (tables_end md) (λ at. Short at) (tables_at md + 16) (8 ∷ [])
    ++ fields (tables_end md) (λ at. Short at) (counts_at md) (replicate (present_below (valid md) 64) 4))
    (all_rows_tests (tables_end md) (row_counts md) (heap_sizes md) (rows_at md)) (tables-sound md e)

row_counts-length : (md : List ℕ) → length (row_counts md) ≡ 45
unfolding row_counts
row_counts-length md = length-map-range_with_len (stored_count md) 0 45

pub table-known : (md : List ℕ) (table row : ℕ) → 1 ≤ row → row ≤ row_count md table → table < 45
table-known md table row first last =
    elim (cases_lt table 45) [
      | inl lt ↦ lt
      | inr past ↦
          let none : get_or (row_counts md) table 0 ≡ 0 = get_or_past (row_counts md) table 0 (omega (arith, row_counts-length md)) in
          absurd (omega arith)
    ]

-- A row ends before the stream does.
row-end : (md : List ℕ) (table row : ℕ) → first_table_fault md ≡ None → 1 ≤ row → row ≤ row_count md table
    → base md table + (row - 1) * row_width (row_counts md) (heap_sizes md) table + row_width (row_counts md) (heap_sizes md) table ≤ tables_end md
unfolding all_rows_tests rows_tests base
row-end md table row e first last =
    run-row (row_count md table) (tables_end md) (λ at. Short at) (rows_at md + bytes_below (row_counts md) (heap_sizes md) table) (row_width (row_counts md) (heap_sizes md) table)
    (row - 1) (omega arith)
    (each-passed (rows_tests (tables_end md) (row_counts md) (heap_sizes md) (rows_at md)) 0 45 table (omega arith) (table-known md table row first last) (all-rows md e))

end-within : (md : List ℕ) (o : Option Stream) → ((s : Stream) → o ≡ Some s → s.at + s.size ≤ length md) → end_of o ≤ length md
end-within md None h = omega arith
end-within md (Some s) h = h s refl

pub tables_end-within : (md : List ℕ) → first_table_fault md ≡ None → tables_end md ≤ length md
unfolding tables_end
tables_end-within md e = end-within md (stream md (codes "#~")) (λ s found. stream-within md (codes "#~") s (streams-sound md e) found)

-- A cell ends before its row does.
pub cell_end : (md : List ℕ) (table row column : ℕ) → first_table_fault md ≡ None → 1 ≤ row → row ≤ row_count md table → column < length (columns_of table)
    → cell_at md table row column + column_width md table column ≤ length md
unfolding cell_at row_width column_offset column_width
cell_end md table row column e first last known =
    omega (
      arith,
      row-end md table row e first last,
      tables_end-within md e,
      sum_by_more_le (width (row_counts md) (heap_sizes md)) (columns_of table) column Two known,
    )

-- ---- what is kept of the layout

pub base_kept : (md : List ℕ) (layout : Layout) (table : ℕ) → IsLayoutOf md layout → table < 45 → get_or layout.bases table 0 ≡ base md table
unfolding bases base
base_kept md layout table kept known =
    ap (λ (xs : List ℕ). get_or xs table 0) kept.bases_kept
    ∙ get_or-map-range_with_len (λ k. rows_at md + bytes_below (row_counts md) (heap_sizes md) k) 0 45 table table 0 known (omega arith)

pub offset_kept : (md : List ℕ) (layout : Layout) (table column : ℕ) → IsLayoutOf md layout → table < 45 → column < 10
    → get_or (get_or layout.offsets table []) column 0 ≡ column_offset md table column
unfolding offsets column_offsets column_offset
offset_kept md layout table column kept known few =
    ap (λ (xs : List (List ℕ)). get_or (get_or xs table []) column 0) kept.offsets_kept
    ∙ ap (λ (xs : List ℕ). get_or xs column 0) (get_or-map-range_with_len (λ k. column_offsets (row_counts md) (heap_sizes md) (columns_of k)) 0 45 table table [] known (omega arith))
    ∙ get_or-map-range_with_len (λ k. total_width (row_counts md) (heap_sizes md) (take k (columns_of table))) 0 10 column column 0 few (omega arith)

-- A row ends after its last column.
pub row_width-is_offset : (md : List ℕ) (table : ℕ) → row_width (row_counts md) (heap_sizes md) table ≡ column_offset md table 9
unfolding row_width column_offset
row_width-is_offset md table = ap (total_width (row_counts md) (heap_sizes md)) (sym (take_all 9 (columns_of table) (columns_few table)))

-- A column ends where the next one begins.
pub offset_next : (md : List ℕ) (table column : ℕ) → column < length (columns_of table) → column_offset md table (column + 1) ≡ column_offset md table column + column_width md table column
unfolding column_offset column_width
offset_next md table column known = sum_by_more (width (row_counts md) (heap_sizes md)) (columns_of table) column Two known

cond-least : (b : Bool) → 2 ≤ cond b 2 4
cond-least true = omega arith
cond-least false = omega arith

cond-least-wide : (b : Bool) → 2 ≤ cond b 4 2
cond-least-wide true = omega arith
cond-least-wide false = omega arith

-- No column is narrower than two bytes.
pub width-least : (counts : List ℕ) (sizes : ℕ) (column : Column) → 2 ≤ width counts sizes column
unfolding width
width-least counts sizes Two = omega arith
width-least counts sizes Four = omega arith
width-least counts sizes Strings = cond-least-wide _
width-least counts sizes Guid = cond-least-wide _
width-least counts sizes Blob = cond-least-wide _
width-least counts sizes (Row table) = cond-least _
width-least counts sizes (Coded kind) = cond-least _

-- The column of two bytes has two.
pub width-two : (counts : List ℕ) (sizes : ℕ) (column : Column) → column ≡ Two → width counts sizes column ≡ 2
unfolding width
width-two counts sizes column is = rw is refl

-- A row has two bytes at least for each of its columns.
row-wide : (counts : List ℕ) (sizes : ℕ) (columns : List Column) → 2 * length columns ≤ total_width counts sizes columns
row-wide counts sizes [] = omega arith
row-wide counts sizes (column ∷ columns) = omega (arith, row-wide counts sizes columns, width-least counts sizes column, sum_by-cons (width counts sizes) column columns)

-- So many rows of so many bytes end before an end.
rows-end : (count w base end : ℕ) → 1 ≤ count → base + (count - 1) * w + w ≤ end → count * w ≤ end
rows-end zero w base end some h = omega arith
rows-end (suc count) w base end some h =
    let before : suc count - 1 ≡ count = omega arith in
    let rows : base + count * w + w ≤ end = rw before at h in
    omega (arith, rows)

few-cells : (count wide w end : ℕ) → 2 * wide ≤ w → count * w ≤ end → 2 * count * wide ≤ end
few-cells count wide w end wider h =
    let each : count * (2 * wide) ≤ count * w = mul-le-mul_left count wider in
    let same : 2 * count * wide ≡ count * (2 * wide) = omega arith in
    omega (arith, each, same, h)

-- There are no more pairs of bytes in cells than in the metadata.
pub rows_few : (md : List ℕ) (table : ℕ) → first_table_fault md ≡ None → 2 * row_count md table * length (columns_of table) ≤ length md
unfolding row_width
rows_few md table e =
    elim (cases_lt 0 (row_count md table)) [
      | inl lt ↦
          let end = row-end md table (row_count md table) e lt (omega arith) in
          let rows = rows-end (row_count md table) (row_width (row_counts md) (heap_sizes md) table) (base md table) (tables_end md) lt end in
          let few = few-cells (row_count md table) (length (columns_of table)) (row_width (row_counts md) (heap_sizes md) table) (tables_end md) (row-wide (row_counts md) (heap_sizes md) (columns_of table)) rows in
          omega (arith, few, tables_end-within md e)
      | inr none ↦ let zero_rows : row_count md table ≡ 0 = omega arith in rw zero_rows (omega arith)
    ]

-- No cell is narrower than two bytes.
pub column_width_least : (md : List ℕ) (table column : ℕ) → 2 ≤ column_width md table column
unfolding column_width
column_width_least md table column = width-least (row_counts md) (heap_sizes md) (slice_index_or (columns_of table) column Two)

pub column_width_two : (md : List ℕ) (table column : ℕ) → slice_index_or (columns_of table) column Two ≡ Two → column_width md table column ≡ 2
unfolding column_width
column_width_two md table column two = width-two (row_counts md) (heap_sizes md) (slice_index_or (columns_of table) column Two) two

-- Two bytes at least of a cell lie before the end.
pub cell_within : (md : List ℕ) (table row column : ℕ) → first_table_fault md ≡ None → 1 ≤ row → row ≤ row_count md table → column < length (columns_of table)
    → cell_at md table row column + 2 ≤ length md
cell_within md table row column sound first last known =
    omega (arith, cell_end md table row column sound first last known, column_width_least md table column)

-- The sum that the code computes is the place of the cell, of which two bytes at least lie before the end.
pub record IsCellPlace (md : List ℕ) (table row column place : ℕ) : Type 0 where
  pub is : place ≡ cell_at md table row column
  pub within : place + 2 ≤ length md

pub cell_place : (md : List ℕ) (layout : Layout) (table row column b w before : ℕ) → IsLayoutOf md layout → first_table_fault md ≡ None
    → 1 ≤ row → row ≤ row_count md table → column < length (columns_of table)
    → b ≡ get_or layout.bases table 0 → w ≡ column_offset md table 9 → before ≡ column_offset md table column → IsCellPlace md table row column (b + (row - 1) * w + before)
unfolding cell_at
cell_place md layout table row column b w before kept sound first last known b_is w_is before_is =
    let place : b + (row - 1) * w + before ≡ cell_at md table row column =
    rw (b_is ∙ base_kept md layout table kept (table_known table (omega arith)), w_is, before_is, ← row_width-is_offset md table) refl in
    record { is = place; within = omega (arith, place, cell_within md table row column sound first last known) }
