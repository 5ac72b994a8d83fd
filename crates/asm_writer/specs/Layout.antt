-- What rows cite, and the numbers in their columns (ECMA-335 II.24.2.6).
use Rattle.std.specs.Prelude.{ℕ, ◌+◌, ◌-◌, ◌^◌, List, [], ◌∷◌, length, flat_map, slice_index, Bool, nat_le, if◌then◌else◌}
use Rattle.std.specs.List.{list_any}
use Rattle.asm_writer.specs.declared.field.Field.{Field}
use Rattle.asm_writer.specs.declared.field.Field.TheVariants.{Plain, Strings, MethodName, OwnName, ExternName, Guid, Blobs, MethodSignature, MethodLocals, ExternSignature, MethodBody, Row, Coded}
use Rattle.asm_writer.specs.declared.layout.Layout.{Layout}
use Rattle.asm_writer.specs.declared.number.Number.{Number}
use Rattle.asm_writer.specs.declared.number.Number.TheVariants.{Two, Four}
use Rattle.asm_writer.specs.declared.table.Table.{Table}
use Rattle.asm_writer.specs.declared.table.Table.TheVariants as tables
use Rattle.asm_writer.specs.Blobs.{blob_heap, blob_index, signature_index, locals_index, extern_signature_index}
use Rattle.asm_writer.specs.Bodies.{bodies}
use Rattle.asm_writer.specs.Headers.{bodies_rva}
use Rattle.asm_writer.specs.Linked.{Linked}
use Rattle.asm_writer.specs.Names.{name_index, method_name_index, extern_name_index, own_name_index, strings_heap}
use Rattle.asm_writer.specs.Numbers.{number_bytes}
use Rattle.asm_writer.specs.Packing.{Packing}
use Rattle.asm_writer.specs.Rows.{fixed_rows, table_rows}
use Rattle.asm_writer.specs.Tables.{coded_tables, coded_value, tag_bits}

abbrev pub layout_of : Linked → Layout
layout_of all = record {
  strings = strings_heap all;
  blobs = blob_heap all.plan.methods.items all.externs;
  bodies = bodies all.plan.methods.items;
  methods = length (table_rows all.plan.methods.items (length all.externs) tables.MethodDef);
  locals = length (table_rows all.plan.methods.items (length all.externs) tables.StandAloneSig);
  externs = length all.externs;
  own_name = own_name_index all;
}

-- How many rows a table has.
abbrev pub row_count : Layout → Table → ℕ
row_count l tables.MethodDef = l.methods
row_count l tables.StandAloneSig = l.locals
row_count l tables.TypeRef = length (fixed_rows tables.TypeRef) + l.externs
row_count l tables.MemberRef = length (fixed_rows tables.MemberRef) + l.externs
row_count l tables.AssemblyRef = length (fixed_rows tables.AssemblyRef) + l.externs
row_count l table = length (fixed_rows table)

-- An index of four bytes or of two.
abbrev pub index : Bool → ℕ → Number
index is_wide n = if is_wide then Four n else Two n

-- An offset in a heap of 2^16 bytes or more.
abbrev pub is_wide_heap : Packing → Bool
is_wide_heap heap = nat_le (2 ^ 16) (length heap.bytes)

-- A row of one of these tables, where the tag leaves too few bits for the rows of one of them.
abbrev pub is_wide_index : Layout → List Table → ℕ → Bool
is_wide_index l among bits = list_any (λ table. nat_le (2 ^ (16 - bits)) (row_count l table)) among

-- The offset of an item in a heap.
abbrev pub heap_index : Packing → ℕ → Number
heap_index heap item = index (is_wide_heap heap) (slice_index heap.offsets item)

-- The number in a column. The heap `#GUID` is small.
abbrev pub field_number : Layout → Field → Number
field_number l (Plain number) = number
field_number l (Strings name) = heap_index l.strings (name_index name)
field_number l (MethodName method) = heap_index l.strings (method_name_index method)
field_number l OwnName = heap_index l.strings l.own_name
field_number l (ExternName index part) = heap_index l.strings (extern_name_index l.methods index part)
field_number l (Guid n) = Two n
field_number l (Blobs blob) = heap_index l.blobs (blob_index blob)
field_number l (MethodSignature method) = heap_index l.blobs (signature_index method)
field_number l (MethodLocals method) = heap_index l.blobs (locals_index method)
field_number l (ExternSignature index) = heap_index l.blobs (extern_signature_index l.methods index)
field_number l (MethodBody method) = Four (bodies_rva + slice_index l.bodies.offsets method)
field_number l (Row table row) = index (is_wide_index l (table ∷ []) 0) row
field_number l (Coded kind table row) = index (is_wide_index l (coded_tables kind) (tag_bits kind)) (coded_value kind table row)

abbrev pub field_bytes : Layout → Field → List ℕ
field_bytes l field = number_bytes (field_number l field)

unfoldable pub fields_bytes : Layout → List Field → List ℕ
fields_bytes l fields = flat_map (field_bytes l) fields

unfoldable pub rows_bytes : Layout → List (List Field) → List ℕ
rows_bytes l rows = flat_map (fields_bytes l) rows
