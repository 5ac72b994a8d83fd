-- How large the parts of the file are, in bytes, and what passes a limit.
use Rattle.std.specs.Prelude.{ℕ, ◌+◌, List, length, sum_by, Bool, nat_le, ◌&&◌}
use Rattle.std.specs.List.{list_all}
use Rattle.cil_model.specs.Limits.{MAX_FILE_BYTES}
use Rattle.asm_writer.specs.declared.field.Field.{Field}
use Rattle.asm_writer.specs.declared.layout.Layout.{Layout}
use Rattle.asm_writer.specs.declared.plan.AsmPlan.{AsmPlan}
use Rattle.asm_writer.specs.declared.plan.MethodPlan.{MethodPlan}
use Rattle.asm_writer.specs.declared.table.Table.{Table}
use Rattle.asm_writer.specs.Blobs.{blob_items}
use Rattle.asm_writer.specs.Bodies.{body_header}
use Rattle.asm_writer.specs.Headers.{file_alignment, dos_header, file_header, optional_header, section_header, cli_header_size}
use Rattle.asm_writer.specs.Layout.{layout_of, field_number}
use Rattle.asm_writer.specs.Limits.{is_within, is_short_extern}
use Rattle.asm_writer.specs.Linked.{Linked, alone}
use Rattle.asm_writer.specs.Metadata.{user_strings, guids, streams, root_size}
use Rattle.asm_writer.specs.Names.{string_items}
use Rattle.asm_writer.specs.Numbers.{number_width, numbers_width}
use Rattle.asm_writer.specs.Padding.{round_up}
use Rattle.asm_writer.specs.Rows.{table_rows}
use Rattle.asm_writer.specs.Stream.{stream_numbers, count_numbers, tables_stream}
use Rattle.asm_writer.specs.Tables.{all_tables}

-- The items of a heap, one after another.
abbrev pub items_size : List (List ℕ) → ℕ
items_size items = sum_by length items

unfoldable pub body_size : MethodPlan → ℕ
body_size m = round_up 4 (numbers_width (body_header 0 m) + length m.code.items)

abbrev pub bodies_size : List MethodPlan → ℕ
bodies_size methods = sum_by body_size methods

-- Columns, rows, and several rows.
abbrev pub field_width : Layout → Field → ℕ
field_width l field = number_width (field_number l field)

unfoldable pub row_width : Layout → List Field → ℕ
row_width l fields = sum_by (field_width l) fields

unfoldable pub rows_width : Layout → List (List Field) → ℕ
rows_width l rows = sum_by (row_width l) rows

-- The row count of a table, and its rows.
abbrev pub count_size : Layout → Table → ℕ
count_size l table = numbers_width (count_numbers l table)

abbrev pub table_size : Layout → List MethodPlan → Table → ℕ
table_size l methods table = rows_width l (table_rows methods l.externs table)

-- The stream `#~`.
unfoldable pub tables_size : Layout → List MethodPlan → ℕ
tables_size l methods =
    round_up 4
    (numbers_width (stream_numbers l)
    + sum_by (count_size l) all_tables
    + sum_by (table_size l methods) all_tables)

unfoldable pub metadata_size : Linked → ℕ
metadata_size all =
    let l = layout_of all in
    root_size (streams (tables_stream l all.plan.methods.items) l)
    + tables_size l all.plan.methods.items
    + round_up 4 (items_size (string_items all))
    + length user_strings
    + length guids
    + round_up 4 (items_size (blob_items all.plan.methods.items all.externs))

unfoldable pub section_size : Linked → ℕ
section_size all = round_up file_alignment (cli_header_size + bodies_size all.plan.methods.items + metadata_size all)

unfoldable pub headers_size : Bool → ℕ
headers_size wide =
    round_up file_alignment
    (numbers_width dos_header
    + numbers_width (file_header wide)
    + numbers_width (optional_header wide)
    + length (section_header 0))

unfoldable pub linked_size : Linked → ℕ
linked_size all = headers_size all.plan.wide + section_size all

-- The file, each extern and each method keep their limits.
unfoldable pub linked_fits : Linked → Bool
linked_fits all =
    nat_le (linked_size all) MAX_FILE_BYTES
    && (list_all is_short_extern all.externs && list_all is_within all.plan.methods.items)

-- The same of a plan alone.
unfoldable pub file_size : AsmPlan → ℕ
file_size plan = linked_size (alone plan)

unfoldable pub fits : AsmPlan → Bool
fits plan = linked_fits (alone plan)
