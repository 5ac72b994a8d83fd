-- The types and methods that were written, as they are read.
use Rattle.cil_model.specs.Limits.{MAX_VARIABLES}
use Rattle.std.proofs.Common.{◌≡◌, ℕ, ◌+◌, ◌*◌, ◌-◌, ◌^◌, ◌<◌, ◌≤◌, List, [], ◌∷◌, length, drop, get_or, Bool, true, false, Some, refl, sym, ap, ap₂, ◌∙◌, append_assoc, arith, slice_index}
use Rattle.std.specs.List.{flat_map}
use Rattle.metadata_tables.specs.Heaps.{string_at, blob_at, item_of}
use Rattle.metadata_tables.specs.Layout.{row_width as read_width, base, bytes_below, cell}
use Rattle.metadata_tables.specs.Root.{zero_ended}
use Rattle.metadata_tables.specs.Schema.{columns_of}
use Rattle.metadata_tables.specs.declared.schema.Column.TheVariants as columns
use Rattle.asm_writer.specs.declared.field.Field.{Field}
use Rattle.asm_writer.specs.declared.field.Field.TheVariants as fields
use Rattle.asm_writer.specs.declared.number.Number.TheVariants.{Two}
use Rattle.asm_writer.specs.Linked.{Linked}
use Rattle.asm_writer.specs.declared.plan.MethodPlan.{MethodPlan}
use Rattle.asm_writer.specs.declared.table.Table.{Table}
use Rattle.asm_writer.specs.declared.table.Table.TheVariants as tables
use Rattle.asm_writer.specs.Blobs.{signature_index}
use Rattle.asm_writer.specs.Layout.{layout_of, is_wide_heap, fields_bytes}
use Rattle.asm_writer.specs.Names as written_names
use Rattle.asm_writer.specs.Names.{cited_names, name_text, method_name_index}
use Rattle.asm_writer.specs.Rows.{type_def_rows, method_row, method_flags, table_rows}
use Rattle.asm_writer.specs.Signatures as signatures
use Rattle.asm_writer.specs.Stream as written
use Rattle.asm_writer.specs.Stream.{count_bytes, table_bytes, tables_stream}
use Rattle.asm_writer.specs.Tables.{all_tables, table_number}
use Rattle.written_assemblies.specs.Counts.{counts_of}
use Rattle.written_assemblies.specs.Parts.{Stands}
use Rattle.written_assemblies.specs.Texts.{HasNoZero}
use Rattle.written_assemblies.proofs.PartLemmas.{stands_at, stands_within, stands_drop, stands_reach}
use Rattle.written_assemblies.proofs.TextLemmas.{text_back}
use Rattle.written_assemblies.proofs.RootLemmas.{strings_heap_is, blob_heap_is, length_laid}
use Rattle.written_assemblies.proofs.RowLemmas.{are_rows, width_of, row_stands}
use Rattle.written_assemblies.proofs.TableLemmas.{types_stand, methods_stand}
use Rattle.written_assemblies.proofs.MetadataLemmas.{md_of, IsSound, stands_rows, base_is}
use Rattle.written_assemblies.proofs.CellLemmas.{index_says, cell_is}
use Rattle.written_assemblies.proofs.LayoutLemmas.{method_row_is, method_rows, method_name_stands, signature_stands}
use Rattle.written_assemblies.proofs.BlobLemmas.{blob_back, signature_short}

-- The metadata of a plan.
abbrev pub md_for : Linked → List ℕ
md_for source = md_of (layout_of source) source.plan.methods.items

abbrev pub Sound : Linked → Type 0
Sound source = IsSound (layout_of source) source.plan.methods.items

-- ---- rows

-- The row of a list index of a table.
pub table_row : (source : Linked) (table : Table) (i : ℕ) (row : List Field) → Sound source
    → Stands (table_bytes (layout_of source) source.plan.methods.items table) (flat_map (table_bytes (layout_of source) source.plan.methods.items) all_tables) (bytes_below (counts_of (layout_of source).methods (layout_of source).locals (layout_of source).externs) (written.heap_sizes (layout_of source)) (table_number table))
    → i < length (table_rows source.plan.methods.items (length source.externs) table) → get_or (table_rows source.plan.methods.items (length source.externs) table) i [] ≡ row
    → Stands (fields_bytes (layout_of source) row) (md_for source) (base (md_for source) (table_number table) + (i + 1 - 1) * read_width (counts_of (layout_of source).methods (layout_of source).locals (layout_of source).externs) (written.heap_sizes (layout_of source)) (table_number table))
table_row source table i row s stands within is =
    let l = layout_of source in
    let ms = source.plan.methods.items in
    let inner = row_stands l table (table_rows ms l.externs table) i row [] (are_rows ms l.externs table) within is in
    let here = stands_within _ _ _ _ _ stands (stands_rows l ms) in
    let same : i + 1 - 1 ≡ i = omega arith in
    stands_at _ _ _ _ (ap₂ (λ (a b : ℕ). a + b * width_of l table) (sym (base_is l ms (table_number table) s)) (sym same)) (stands_within _ _ _ _ _ inner here)

-- The row of the method of a list index.
pub method_row_stands : (source : Linked) (i : ℕ) (m : MethodPlan) → Sound source → i < length source.plan.methods.items → get_or source.plan.methods.items i m ≡ m
    → Stands (fields_bytes (layout_of source) (method_row i m)) (md_for source) (base (md_for source) 6 + (i + 1 - 1) * read_width (counts_of (layout_of source).methods (layout_of source).locals (layout_of source).externs) (written.heap_sizes (layout_of source)) 6)
method_row_stands source i m s within is =
    let rows = method_rows source.plan.methods.items (length source.externs) in
    table_row source tables.MethodDef i (method_row i m) s (methods_stand (layout_of source) source.plan.methods.items s.counts) (omega (arith, rows, within)) (method_row_is source.plan.methods.items (length source.externs) i m [] within is)

pub type_row_stands : (source : Linked) (i : ℕ) (row : List Field) → Sound source → i < 2 → get_or type_def_rows i [] ≡ row
    → Stands (fields_bytes (layout_of source) row) (md_for source) (base (md_for source) 2 + (i + 1 - 1) * read_width (counts_of (layout_of source).methods (layout_of source).locals (layout_of source).externs) (written.heap_sizes (layout_of source)) 2)
type_row_stands source i row s within is =
    table_row source tables.TypeDef i row s (types_stand (layout_of source) source.plan.methods.items s.counts) within is

-- ---- heaps

pub few_strings : (source : Linked) → Sound source → length (layout_of source).strings.bytes < 2 ^ 32
few_strings source s = let all = length_laid (tables_stream (layout_of source) source.plan.methods.items) (layout_of source) in let few = s.few in omega (arith, all, few)

pub few_blobs : (source : Linked) → Sound source → length (layout_of source).blobs.bytes < 2 ^ 32
few_blobs source s = let all = length_laid (tables_stream (layout_of source) source.plan.methods.items) (layout_of source) in let few = s.few in omega (arith, all, few)

-- The text that stands at an offset of `#Strings`.
pub text_read : (source : Linked) (name : List ℕ) (offset : ℕ) → Sound source → HasNoZero name → Stands (written_names.zero_ended name) (layout_of source).strings.bytes offset → string_at (md_for source) offset ≡ Some name
unfolding string_at written_names.zero_ended
text_read source name offset s no_zero stands =
    let few = s.few in
    let strings = strings_heap_is (tables_stream (layout_of source) source.plan.methods.items) (layout_of source) (omega (arith, few)) in
    ap (λ (bytes : List ℕ). zero_ended (drop offset bytes)) strings
    ∙ ap zero_ended (stands_drop _ _ _ stands ∙ append_assoc name (0 ∷ []) stands.rest)
    ∙ text_back name stands.rest no_zero

pub blob_read : (source : Linked) (content : List ℕ) (offset : ℕ) → Sound source → length content < 2 ^ 14 → Stands (signatures.blob content) (layout_of source).blobs.bytes offset → blob_at (md_for source) offset ≡ Some content
unfolding blob_at
blob_read source content offset s short stands =
    let few = s.few in
    let blobs = blob_heap_is (tables_stream (layout_of source) source.plan.methods.items) (layout_of source) (omega (arith, few)) in
    ap (λ (bytes : List ℕ). item_of (drop offset bytes)) blobs
    ∙ ap item_of (stands_drop _ _ _ stands)
    ∙ blob_back content stands.rest short

-- ---- the cells of methods

pub name_cell : (source : Linked) (i : ℕ) (m : MethodPlan) → Sound source → i < length source.plan.methods.items → get_or source.plan.methods.items i m ≡ m
    → cell (md_for source) 6 (i + 1) 3 ≡ slice_index (layout_of source).strings.offsets (method_name_index i)
unfolding columns_of
name_cell source i m s within is =
    let l = layout_of source in
    let end = stands_reach _ _ _ (method_name_stands source i m within is) in
    cell_is l source.plan.methods.items 6 (i + 1) (fields.MethodBody i ∷ fields.Plain (Two 0) ∷ fields.Plain (Two (method_flags m.is_static)) ∷ []) (fields.MethodName i)
    (fields.MethodSignature i ∷ fields.Row tables.Param 1 ∷ []) columns.Strings _ s refl refl refl (method_row_stands source i m s within is)
    (index_says (is_wide_heap l.strings) _ (length l.strings.bytes) refl (omega (arith, end)) (few_strings source s))

pub signature_cell : (source : Linked) (i : ℕ) (m : MethodPlan) → Sound source → i < length source.plan.methods.items → get_or source.plan.methods.items i m ≡ m
    → cell (md_for source) 6 (i + 1) 4 ≡ slice_index (layout_of source).blobs.offsets (signature_index i)
unfolding columns_of
signature_cell source i m s within is =
    let l = layout_of source in
    let end = stands_reach _ _ _ (signature_stands source.plan.methods.items source.externs i m within is) in
    cell_is l source.plan.methods.items 6 (i + 1) (fields.MethodBody i ∷ fields.Plain (Two 0) ∷ fields.Plain (Two (method_flags m.is_static)) ∷ fields.MethodName i ∷ []) (fields.MethodSignature i)
    (fields.Row tables.Param 1 ∷ []) columns.Blob _ s refl refl refl (method_row_stands source i m s within is)
    (index_says (is_wide_heap l.blobs) _ (length l.blobs.bytes) refl (omega (arith, end)) (few_blobs source s))

pub impl_flags_cell : (source : Linked) (i : ℕ) (m : MethodPlan) → Sound source → i < length source.plan.methods.items → get_or source.plan.methods.items i m ≡ m
    → cell (md_for source) 6 (i + 1) 1 ≡ 0
unfolding columns_of
impl_flags_cell source i m s within is =
    cell_is (layout_of source) source.plan.methods.items 6 (i + 1) (fields.MethodBody i ∷ []) (fields.Plain (Two 0))
    (fields.Plain (Two (method_flags m.is_static)) ∷ fields.MethodName i ∷ fields.MethodSignature i ∷ fields.Row tables.Param 1 ∷ []) columns.Two 0 s refl refl refl (method_row_stands source i m s within is)
    (refl, omega arith)

flags_small : (is_static : Bool) → method_flags is_static < 2 ^ 16
flags_small true = omega arith
flags_small false = omega arith

pub flags_cell : (source : Linked) (i : ℕ) (m : MethodPlan) → Sound source → i < length source.plan.methods.items → get_or source.plan.methods.items i m ≡ m
    → cell (md_for source) 6 (i + 1) 2 ≡ method_flags m.is_static
unfolding columns_of
flags_cell source i m s within is =
    cell_is (layout_of source) source.plan.methods.items 6 (i + 1) (fields.MethodBody i ∷ fields.Plain (Two 0) ∷ []) (fields.Plain (Two (method_flags m.is_static)))
    (fields.MethodName i ∷ fields.MethodSignature i ∷ fields.Row tables.Param 1 ∷ []) columns.Two _ s refl refl refl (method_row_stands source i m s within is)
    (refl, flags_small m.is_static)

pub name_read : (source : Linked) (i : ℕ) (m : MethodPlan) → Sound source → i < length source.plan.methods.items → get_or source.plan.methods.items i m ≡ m → HasNoZero m.name.items
    → string_at (md_for source) (cell (md_for source) 6 (i + 1) 3) ≡ Some m.name.items
name_read source i m s within is no_zero =
    ap (string_at (md_for source)) (name_cell source i m s within is) ∙ text_read source m.name.items _ s no_zero (method_name_stands source i m within is)

pub signature_read : (source : Linked) (i : ℕ) (m : MethodPlan) → Sound source → i < length source.plan.methods.items → get_or source.plan.methods.items i m ≡ m → length m.args.items ≤ MAX_VARIABLES
    → blob_at (md_for source) (cell (md_for source) 6 (i + 1) 4) ≡ Some (signatures.signature m)
unfolding signatures.signature_blob
signature_read source i m s within is few =
    ap (blob_at (md_for source)) (signature_cell source i m s within is) ∙ blob_read source (signatures.signature m) _ s (signature_short m few) (signature_stands source.plan.methods.items source.externs i m within is)
