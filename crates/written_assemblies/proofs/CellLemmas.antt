-- The cells that were written, as they are read.
use Rattle.std.proofs.Common.{◌≡◌, ℕ, ◌+◌, ◌*◌, ◌-◌, ◌^◌, ◌<◌, ◌≤◌, List, ◌∷◌, ◌++◌, length, map, take, Bool, true, false, Option, Some, refl, sym, subst, ◌∙◌, arith, nat_le}
use Rattle.std.specs.Prelude.{◌==◌, if◌then◌else◌, slice_index_or}
use Rattle.std.proofs.lemmas.List.Concat.{flat_map-append}
use Rattle.cc_base.specs.LittleEndian.{u16_at, u32_at}
use Rattle.metadata_tables.specs.declared.schema.Column.{Column}
use Rattle.metadata_tables.specs.declared.schema.Column.TheVariants as columns
use Rattle.metadata_tables.specs.Layout.{row_width as read_width, base, column_offset, column_width, cell_at, cell}
use Rattle.metadata_tables.specs.Schema.{columns_of, width, total_width}
use Rattle.asm_writer.specs.declared.field.Field.{Field}
use Rattle.asm_writer.specs.declared.layout.Layout.{Layout}
use Rattle.asm_writer.specs.declared.number.Number.{Number}
use Rattle.asm_writer.specs.declared.number.Number.TheVariants.{Zeros, Two, Four, Eight}
use Rattle.asm_writer.specs.declared.plan.MethodPlan.{MethodPlan}
use Rattle.asm_writer.specs.Layout.{index, field_number, field_bytes, fields_bytes}
use Rattle.asm_writer.specs.Numbers.{number_bytes, number_width}
use Rattle.asm_writer.specs.Sizes.{row_width}
use Rattle.asm_writer.specs.Stream as written
use Rattle.asm_writer.specs.Stream.{table_bytes}
use Rattle.written_assemblies.specs.Columns.{column_of}
use Rattle.written_assemblies.specs.Counts.{counts_of}
use Rattle.written_assemblies.specs.Parts.{Stands}
use Rattle.written_assemblies.proofs.PartLemmas.{stands_within, stands_u16, stands_u32}
use Rattle.asm_writer.proofs.Lengths.{length_fields}
use Rattle.written_assemblies.proofs.WidthLemmas.{HasWidth, has_width, widths_are}
use Rattle.written_assemblies.proofs.MetadataLemmas.{md_of, IsSound, counts_are, sizes_are}

-- The number has this value, and room for it.
abbrev pub Says : Number → ℕ → Type 0
Says (Zeros count) v = ⊥
Says (Two n) v = (n ≡ v) × (v < 2 ^ 16)
Says (Four n) v = (n ≡ v) × (v < 2 ^ 32)
Says (Eight n) v = ⊥

number_read : (number : Number) (v : ℕ) (md : List ℕ) (at : ℕ) → Says number v → Stands (number_bytes number) md at
    → (if number_width number == 4 then u32_at md at else u16_at md at) ≡ v
number_read (Zeros count) v md at says stands = absurd says
number_read (Two n) v md at says stands = stands_u16 n md at (subst (λ (k : ℕ). k < 2 ^ 16) (sym says.0) says.1) stands ∙ says.0
number_read (Four n) v md at says stands = stands_u32 n md at (subst (λ (k : ℕ). k < 2 ^ 32) (sym says.0) says.1) stands ∙ says.0
number_read (Eight n) v md at says stands = absurd says

-- An index into what has so many items.
pub index_says : (wide : Bool) (n size : ℕ) → nat_le (2 ^ 16) size ≡ wide → n ≤ size → size < 2 ^ 32 → Says (index wide n) n
index_says true n size is within few = (refl, omega (arith, within, few))
index_says false n size is within few = (refl, grind (arith, is, within))

-- A column stands in its row.
column_in : (l : Layout) (before : List Field) (f : Field) (after : List Field) → Stands (field_bytes l f) (fields_bytes l (before ++ f ∷ after)) (row_width l before)
unfolding fields_bytes
column_in l before f after = record {
  prefix = fields_bytes l before;
  rest = fields_bytes l after;
  parts = flat_map-append (field_bytes l) before (f ∷ after);
  begins = length_fields l before;
}

-- The cell of a row that stands where rows of the table do.
pub cell_is : (l : Layout) (ms : List MethodPlan) (number row : ℕ) (before : List Field) (f : Field) (after : List Field) (column : Column) (v : ℕ) → IsSound l ms
    → map column_of before ≡ map Some (take (length before) (columns_of number))
    → column_of f ≡ Some column → slice_index_or (columns_of number) (length before) columns.Two ≡ column
    → Stands (fields_bytes l (before ++ f ∷ after)) (md_of l ms) (base (md_of l ms) number + (row - 1) * read_width (counts_of l.methods l.locals l.externs) (written.heap_sizes l) number)
    → Says (field_number l f) v → cell (md_of l ms) number row (length before) ≡ v
unfolding cell cell_at column_width column_offset
cell_is l ms number row before f after column v s prefixes is here stands says =
    let offset : row_width l before ≡ total_width (counts_of l.methods l.locals l.externs) (written.heap_sizes l) (take (length before) (columns_of number)) = widths_are l before _ prefixes in
    let wide : number_width (field_number l f) ≡ width (counts_of l.methods l.locals l.externs) (written.heap_sizes l) column = subst (λ (c : Option Column). HasWidth l f c) is (has_width l f) in
    let at = stands_within _ _ _ _ _ (column_in l before f after) stands in
    rw (counts_are l ms s, sizes_are l ms s, here, sym wide, sym offset) (number_read (field_number l f) v (md_of l ms) _ says at)
