-- The name of the assembly and the methods of others that were written, as they are read.
use Rattle.cil_model.specs.Limits.{MAX_VARIABLES}
use Rattle.std.proofs.Common.{◌≡◌, ℕ, zero, suc, ◌+◌, ◌*◌, ◌/◌, ◌%◌, ◌-◌, ◌^◌, ◌<◌, ◌≤◌, List, [], ◌∷◌, ◌++◌, length, map, take, get_or, Bool, true, false, ◌&&◌, Some, refl, sym, ap, subst, ◌∙◌, arith, slice_index}
use Rattle.std.specs.Prelude.{◌==◌, ◌||◌, nat_le, slice_index_or, IsTrue}
use Rattle.std.specs.List.{AllByRecursion, flat_map, range_with_len, list_all}
use Rattle.std.proofs.lemmas.Bool.{le-leb, leb-true}
use Rattle.std.proofs.lemmas.List.{length-append, get_or-append-add}
use Rattle.cc_base.specs.Tokens.{token_of}
use Rattle.metadata_tables.specs.Heaps.{string_at, blob_at}
use Rattle.metadata_tables.specs.Layout.{row_width as read_width, row_count, base, cell}
use Rattle.metadata_tables.specs.Schema.{columns_of}
use Rattle.metadata_tables.specs.declared.schema.CodedIndex.TheVariants as read
use Rattle.metadata_tables.specs.declared.schema.Column.TheVariants as columns
use Rattle.asm_image.specs.Calls.{tagged_row, class_row}
use Rattle.asm_image.specs.Members.{assembly_name, scope_row, scope_name, member_signature, member_at, member_of}
use Rattle.asm_image.specs.Tokens.{row_in}
use Rattle.asm_writer.specs.declared.blob.Blob.TheVariants as blobs
use Rattle.asm_writer.specs.declared.field.Field.{Field}
use Rattle.asm_writer.specs.declared.field.Field.TheVariants as fields
use Rattle.asm_writer.specs.declared.layout.Layout.{Layout}
use Rattle.asm_writer.specs.declared.name.ExternPart.{ExternPart}
use Rattle.asm_writer.specs.declared.name.ExternPart.TheVariants as parts
use Rattle.asm_writer.specs.declared.name.Name.TheVariants as names
use Rattle.asm_writer.specs.declared.number.Number.TheVariants.{Two, Four}
use Rattle.asm_writer.specs.declared.plan.Extern.{Extern}
use Rattle.asm_writer.specs.declared.table.CodedIndex.TheVariants.{MemberRefParent, ResolutionScope}
use Rattle.asm_writer.specs.declared.table.Table.{Table}
use Rattle.asm_writer.specs.declared.table.Table.TheVariants as tables
use Rattle.asm_writer.specs.Blobs.{extern_signature_index}
use Rattle.asm_writer.specs.Layout.{layout_of, index, is_wide_heap, is_wide_index, fields_bytes}
use Rattle.asm_writer.specs.Limits.{is_short_extern}
use Rattle.asm_writer.specs.Linked.{Linked}
use Rattle.asm_writer.specs.Names.{extern_name_index, own_name_index, strings_heap, zero_ended}
use Rattle.asm_writer.specs.Rows.{fixed_rows, rows_of_extern, extern_rows, extern_row, extern_assembly_row, extern_type_row, extern_member_row, types, assemblies}
use Rattle.asm_writer.specs.Signatures as signatures
use Rattle.asm_writer.specs.Sizes.{linked_fits}
use Rattle.asm_writer.specs.Stream as written
use Rattle.asm_writer.specs.Tables.{coded_tables}
use Rattle.asm_writer.proofs.RowLemmas.{extern_types, extern_members, extern_assemblies}
use Rattle.written_assemblies.specs.Columns.{column_of}
use Rattle.written_assemblies.specs.Counts.{counts_of}
use Rattle.written_assemblies.specs.Externs.{IsExternAt, extern_token, extern_key}
use Rattle.written_assemblies.specs.Parts.{Stands}
use Rattle.written_assemblies.specs.Readable.{IsReadableExtern, IsReadableLinked}
use Rattle.written_assemblies.specs.Texts.{HasNoZero}
use Rattle.written_assemblies.proofs.PartLemmas.{stands_at, stands_reach}
use Rattle.written_assemblies.proofs.MetadataLemmas.{counts_are}
use Rattle.written_assemblies.proofs.CellLemmas.{Says, index_says, cell_is}
use Rattle.written_assemblies.proofs.TableLemmas.{type_refs_stand, members_stand, assembly_stands, assembly_refs_stand}
use Rattle.written_assemblies.proofs.LayoutLemmas.{method_rows, part_of, extern_name_stands, own_name_stands, extern_blob_stands}
use Rattle.written_assemblies.proofs.BlobLemmas.{signature_of_back, signature_of_short}
use Rattle.written_assemblies.proofs.MethodLemmas.{md_for, Sound, few_strings, few_blobs, text_read, blob_read, table_row}
use Rattle.written_assemblies.proofs.ReadLemmas.{at_index}

-- ---- the rows of externs

found_from : (table : Table) (f : ℕ → List Field) (from n i : ℕ) → ((k : ℕ) → rows_of_extern table k ≡ f k ∷ []) → i < n
    → get_or (flat_map (rows_of_extern table) (range_with_len from n)) i [] ≡ f (from + i)
found_from table f from zero i each within = absurd (omega (arith, within))
found_from table f from (suc n) zero each within =
    let same : from ≡ from + 0 = omega arith in
    ap (λ (rows : List (List Field)). get_or (rows ++ flat_map (rows_of_extern table) (range_with_len (from + 1) n)) 0 []) (each from) ∙ ap f same
found_from table f from (suc n) (suc i) each within =
    let same : from + 1 + i ≡ from + suc i = omega arith in
    ap (λ (rows : List (List Field)). get_or (rows ++ flat_map (rows_of_extern table) (range_with_len (from + 1) n)) (suc i) []) (each from)
    ∙ found_from table f (from + 1) n i each (omega (arith, within)) ∙ ap f same

found : (table : Table) (f : ℕ → List Field) (n i : ℕ) → ((k : ℕ) → rows_of_extern table k ≡ f k ∷ []) → i < n → get_or (extern_rows table n) i [] ≡ f i
unfolding extern_rows
found table f n i each within =
    let same : 0 + i ≡ i = omega arith in
    found_from table f 0 n i each within ∙ ap f same

-- Where the row of an extern stands in the metadata.
abbrev IsRowThere : Linked → ℕ → ℕ → List Field → Type 0
IsRowThere source number row fields = Stands (fields_bytes (layout_of source) fields) (md_for source) (base (md_for source) number + (row - 1) * read_width (counts_of (layout_of source).methods (layout_of source).locals (layout_of source).externs) (written.heap_sizes (layout_of source)) number)

member_there : (source : Linked) (i : ℕ) → Sound source → i < length source.externs → IsRowThere source 10 (i + 12) (extern_member_row i)
member_there source i s within =
    let n : ℕ = length source.externs in
    let size = length-append (fixed_rows tables.MemberRef) (extern_rows tables.MemberRef n) in
    let more = extern_members n in
    let row = get_or-append-add (fixed_rows tables.MemberRef) (extern_rows tables.MemberRef n) i [] ∙ found tables.MemberRef extern_member_row n i (λ (k : ℕ). refl) within in
    let at : 11 + i + 1 ≡ i + 12 = omega arith in
    subst (λ (k : ℕ). IsRowThere source 10 k (extern_member_row i)) at
    (table_row source tables.MemberRef (11 + i) (extern_member_row i) s (members_stand (layout_of source) source.plan.methods.items s.counts) (omega (arith, size, more, within)) row)

type_there : (source : Linked) (i : ℕ) → Sound source → i < length source.externs → IsRowThere source 1 (i + 5) (extern_type_row i)
type_there source i s within =
    let n : ℕ = length source.externs in
    let size = length-append (fixed_rows tables.TypeRef) (extern_rows tables.TypeRef n) in
    let more = extern_types n in
    let row = get_or-append-add (fixed_rows tables.TypeRef) (extern_rows tables.TypeRef n) i [] ∙ found tables.TypeRef extern_type_row n i (λ (k : ℕ). refl) within in
    let at : 4 + i + 1 ≡ i + 5 = omega arith in
    subst (λ (k : ℕ). IsRowThere source 1 k (extern_type_row i)) at
    (table_row source tables.TypeRef (4 + i) (extern_type_row i) s (type_refs_stand (layout_of source) source.plan.methods.items s.counts) (omega (arith, size, more, within)) row)

assembly_there : (source : Linked) (i : ℕ) → Sound source → i < length source.externs → IsRowThere source 35 (i + 2) (extern_assembly_row i)
assembly_there source i s within =
    let n : ℕ = length source.externs in
    let size = length-append (fixed_rows tables.AssemblyRef) (extern_rows tables.AssemblyRef n) in
    let more = extern_assemblies n in
    let row = get_or-append-add (fixed_rows tables.AssemblyRef) (extern_rows tables.AssemblyRef n) i [] ∙ found tables.AssemblyRef extern_assembly_row n i (λ (k : ℕ). refl) within in
    let at : 1 + i + 1 ≡ i + 2 = omega arith in
    subst (λ (k : ℕ). IsRowThere source 35 k (extern_assembly_row i)) at
    (table_row source tables.AssemblyRef (1 + i) (extern_assembly_row i) s (assembly_refs_stand (layout_of source) source.plan.methods.items s.counts) (omega (arith, size, more, within)) row)

-- ---- their names

name_there : (source : Linked) (i : ℕ) (e : Extern) (part : ExternPart) → IsExternAt source.externs i e
    → Stands (zero_ended (part_of e part)) (layout_of source).strings.bytes (slice_index (layout_of source).strings.offsets (extern_name_index (layout_of source).methods i part))
name_there source i e part is =
    stands_at _ _ _ _ (ap (λ (n : ℕ). slice_index (strings_heap source).offsets (extern_name_index n i part)) (sym (method_rows source.plan.methods.items (length source.externs))))
    (extern_name_stands source i e part is.0 is.1)

-- The text of a column that has a name of an extern.
text_there : (source : Linked) (number row : ℕ) (before after : List Field) (i : ℕ) (e : Extern) (part : ExternPart) → Sound source → IsExternAt source.externs i e → HasNoZero (part_of e part)
    → map column_of before ≡ map Some (take (length before) (columns_of number)) → slice_index_or (columns_of number) (length before) columns.Two ≡ columns.Strings
    → IsRowThere source number row (before ++ fields.ExternName i part ∷ after)
    → string_at (md_for source) (cell (md_for source) number row (length before)) ≡ Some (part_of e part)
text_there source number row before after i e part s is no_zero prefixes here there =
    let l = layout_of source in
    let name = name_there source i e part is in
    let end = stands_reach _ _ _ name in
    let at = cell_is l source.plan.methods.items number row before (fields.ExternName i part) after columns.Strings _ s prefixes refl here there
    (index_says (is_wide_heap l.strings) _ (length l.strings.bytes) refl (omega (arith, end)) (few_strings source s)) in
    ap (string_at (md_for source)) at ∙ text_read source (part_of e part) _ s no_zero name

namespace_is : (source : Linked) (i : ℕ) (e : Extern) → Sound source → IsExternAt source.externs i e → HasNoZero e.namespace.items
    → string_at (md_for source) (cell (md_for source) 1 (i + 5) 2) ≡ Some e.namespace.items
unfolding columns_of
namespace_is source i e s is no_zero =
    text_there source 1 (i + 5) (fields.Coded ResolutionScope tables.AssemblyRef (extern_row assemblies i) ∷ fields.ExternName i parts.Class ∷ []) [] i e parts.Namespace s is no_zero refl refl (type_there source i s is.0)

class_is : (source : Linked) (i : ℕ) (e : Extern) → Sound source → IsExternAt source.externs i e → HasNoZero e.class.items
    → string_at (md_for source) (cell (md_for source) 1 (i + 5) 1) ≡ Some e.class.items
unfolding columns_of
class_is source i e s is no_zero =
    text_there source 1 (i + 5) (fields.Coded ResolutionScope tables.AssemblyRef (extern_row assemblies i) ∷ []) (fields.ExternName i parts.Namespace ∷ []) i e parts.Class s is no_zero refl refl (type_there source i s is.0)

name_is : (source : Linked) (i : ℕ) (e : Extern) → Sound source → IsExternAt source.externs i e → HasNoZero e.name.items
    → string_at (md_for source) (cell (md_for source) 10 (i + 12) 1) ≡ Some e.name.items
unfolding columns_of
name_is source i e s is no_zero =
    text_there source 10 (i + 12) (fields.Coded MemberRefParent tables.TypeRef (extern_row types i) ∷ []) (fields.ExternSignature i ∷ []) i e parts.Name s is no_zero refl refl (member_there source i s is.0)

abbrev assembly_prefix : List Field
assembly_prefix =
    fields.Plain (Two 0) ∷ fields.Plain (Two 0) ∷ fields.Plain (Two 0) ∷ fields.Plain (Two 0) ∷ fields.Plain (Four 0)
    ∷ fields.Blobs blobs.Empty ∷ []

assembly_is : (source : Linked) (i : ℕ) (e : Extern) → Sound source → IsExternAt source.externs i e → HasNoZero e.assembly.items
    → string_at (md_for source) (cell (md_for source) 35 (i + 2) 6) ≡ Some e.assembly.items
unfolding columns_of
assembly_is source i e s is no_zero =
    text_there source 35 (i + 2) assembly_prefix (fields.Strings names.Empty ∷ fields.Blobs blobs.Empty ∷ []) i e parts.Assembly s is no_zero refl refl (assembly_there source i s is.0)

-- ---- the rows that they cite

says_by : (wide : Bool) (v : ℕ) → v < 2 ^ 32 → (wide ≡ false → v < 2 ^ 16) → Says (index wide v) v
says_by true v few narrow = (refl, few)
says_by false v few narrow = (refl, narrow refl)

first_of_none : (a b : Bool) → (a || b) ≡ false → a ≡ false
first_of_none true b none = absurd cc
first_of_none false b none = refl

-- Where an index is narrow, there are few rows.
few_types : (l : Layout) → is_wide_index l (coded_tables MemberRefParent) 3 ≡ false → 4 + l.externs < 2 ^ 13
few_types l narrow =
    let here : nat_le (2 ^ 13) (4 + l.externs) ≡ false = first_of_none (nat_le (2 ^ 13) (4 + l.externs)) _ narrow in
    grind (arith, here)

few_assemblies : (l : Layout) → is_wide_index l (coded_tables ResolutionScope) 2 ≡ false → 1 + l.externs < 2 ^ 14
few_assemblies l narrow =
    let here : nat_le (2 ^ 14) (1 + l.externs) ≡ false = first_of_none (nat_le (2 ^ 14) (1 + l.externs)) _ narrow in
    grind (arith, here)

parent_cell : (source : Linked) (i : ℕ) → Sound source → i < length source.externs → cell (md_for source) 10 (i + 12) 0 ≡ (i + 5) * 8 + 1
unfolding columns_of
parent_cell source i s within =
    let l = layout_of source in
    let few = s.externs in
    cell_is l source.plan.methods.items 10 (i + 12) [] (fields.Coded MemberRefParent tables.TypeRef (extern_row types i))
    (fields.ExternName i parts.Name ∷ fields.ExternSignature i ∷ []) (columns.Coded read.MemberRefParent) ((i + 5) * 8 + 1) s refl refl refl (member_there source i s within)
    (says_by (is_wide_index l (coded_tables MemberRefParent) 3) ((i + 5) * 8 + 1) (omega (arith, few, within)) (λ narrow. let rows = few_types l narrow in omega (arith, rows, within)))

scope_cell : (source : Linked) (i : ℕ) → Sound source → i < length source.externs → cell (md_for source) 1 (i + 5) 0 ≡ (i + 2) * 4 + 2
unfolding columns_of
scope_cell source i s within =
    let l = layout_of source in
    let few = s.externs in
    cell_is l source.plan.methods.items 1 (i + 5) [] (fields.Coded ResolutionScope tables.AssemblyRef (extern_row assemblies i))
    (fields.ExternName i parts.Class ∷ fields.ExternName i parts.Namespace ∷ []) (columns.Coded read.ResolutionScope) ((i + 2) * 4 + 2) s refl refl refl (type_there source i s within)
    (says_by (is_wide_index l (coded_tables ResolutionScope) 2) ((i + 2) * 4 + 2) (omega (arith, few, within)) (λ narrow. let rows = few_assemblies l narrow in omega (arith, rows, within)))

type_count_is : (source : Linked) → Sound source → row_count (md_for source) 1 ≡ 4 + length source.externs
unfolding counts_of
type_count_is source s = ap (λ (counts : List ℕ). slice_index counts 1) (counts_are (layout_of source) source.plan.methods.items s)

member_count_is : (source : Linked) → Sound source → row_count (md_for source) 10 ≡ 11 + length source.externs
unfolding counts_of
member_count_is source s = ap (λ (counts : List ℕ). slice_index counts 10) (counts_are (layout_of source) source.plan.methods.items s)

assembly_count_is : (source : Linked) → Sound source → row_count (md_for source) 32 ≡ 1
unfolding counts_of
assembly_count_is source s = ap (λ (counts : List ℕ). slice_index counts 32) (counts_are (layout_of source) source.plan.methods.items s)

assembly_refs_are : (source : Linked) → Sound source → row_count (md_for source) 35 ≡ 1 + length source.externs
unfolding counts_of
assembly_refs_are source s = ap (λ (counts : List ℕ). slice_index counts 35) (counts_are (layout_of source) source.plan.methods.items s)

tagged : (md : List ℕ) (table tag values row : ℕ) → tag < values → 1 ≤ row → row ≤ row_count md table → (row * values + tag) % values ≡ tag → (row * values + tag) / values ≡ row
    → tagged_row md table tag values (row * values + tag) ≡ Some row
unfolding tagged_row
tagged md table tag values row less some few rest whole =
    let same : (tag == tag) ≡ true = grind arith in
    rw (rest, whole, same, le-leb 1 row some, le-leb row (row_count md table) few) refl

parent_is : (source : Linked) (i : ℕ) → Sound source → i < length source.externs → class_row (md_for source) (i + 12) ≡ Some (i + 5)
parent_is source i s within =
    let count = type_count_is source s in
    ap (tagged_row (md_for source) 1 1 8) (parent_cell source i s within)
    ∙ tagged (md_for source) 1 1 8 (i + 5) (omega arith) (omega arith) (omega (arith, count, within)) (omega arith) (omega arith)

scope_is : (source : Linked) (i : ℕ) → Sound source → i < length source.externs → scope_row (md_for source) (i + 5) ≡ Some (i + 2)
scope_is source i s within =
    let count = assembly_refs_are source s in
    ap (tagged_row (md_for source) 35 2 4) (scope_cell source i s within)
    ∙ tagged (md_for source) 35 2 4 (i + 2) (omega arith) (omega arith) (omega (arith, count, within)) (omega arith) (omega arith)

-- ---- their signatures

blob_there : (source : Linked) (i : ℕ) (e : Extern) → IsExternAt source.externs i e
    → Stands (signatures.extern_blob e) (layout_of source).blobs.bytes (slice_index (layout_of source).blobs.offsets (extern_signature_index (layout_of source).methods i))
blob_there source i e is =
    stands_at _ _ _ _ (ap (λ (n : ℕ). slice_index (layout_of source).blobs.offsets (extern_signature_index n i)) (sym (method_rows source.plan.methods.items (length source.externs))))
    (extern_blob_stands source.plan.methods.items source.externs i e is.0 is.1)

signature_cell : (source : Linked) (i : ℕ) (e : Extern) → Sound source → IsExternAt source.externs i e
    → cell (md_for source) 10 (i + 12) 2 ≡ slice_index (layout_of source).blobs.offsets (extern_signature_index (layout_of source).methods i)
unfolding columns_of
signature_cell source i e s is =
    let l = layout_of source in
    let end = stands_reach _ _ _ (blob_there source i e is) in
    cell_is l source.plan.methods.items 10 (i + 12) (fields.Coded MemberRefParent tables.TypeRef (extern_row types i) ∷ fields.ExternName i parts.Name ∷ []) (fields.ExternSignature i)
    [] columns.Blob _ s refl refl refl (member_there source i s is.0)
    (index_says (is_wide_heap l.blobs) _ (length l.blobs.bytes) refl (omega (arith, end)) (few_blobs source s))

signature_is : (source : Linked) (i : ℕ) (e : Extern) → Sound source → IsExternAt source.externs i e → length e.args.items ≤ MAX_VARIABLES → IsReadableExtern e
    → member_signature (md_for source) (i + 12) ≡ Some (extern_key e).sig
unfolding member_signature signatures.extern_blob signatures.extern_signature
signature_is source i e s is few readable =
    let bytes = signatures.signature_of true e.result e.args.items in
    let short = signature_of_short true e.result e.args.items few in
    let read = ap (blob_at (md_for source)) (signature_cell source i e s is) ∙ blob_read source bytes _ s short (blob_there source i e is) in
    let back = signature_of_back true e.result e.args.items few readable.args in
    rw read (rw back refl)

-- ---- what a token of an extern names

short_one : (e : Extern) → is_short_extern e ≡ true → length e.args.items ≤ MAX_VARIABLES
unfolding is_short_extern
short_one e short = leb-true _ _ short

and_left : (a b : Bool) → (a && b) ≡ true → a ≡ true
and_left true b both = refl
and_left false b both = both

and_right : (a b : Bool) → (a && b) ≡ true → b ≡ true
and_right true b both = both
and_right false b both = absurd cc

each_short : (externs : List Extern) → list_all is_short_extern externs ≡ true → AllByRecursion (λ e. is_short_extern e ≡ true) externs
each_short [] all = tt
each_short (e ∷ externs) all = (and_left (is_short_extern e) (list_all is_short_extern externs) all, each_short externs (and_right (is_short_extern e) (list_all is_short_extern externs) all))

few_args : (source : Linked) (i : ℕ) (e : Extern) → IsTrue (linked_fits source) → IsExternAt source.externs i e → length e.args.items ≤ MAX_VARIABLES
unfolding linked_fits
few_args source i e fit is =
    let all = and_left _ _ (and_right _ _ fit) in
    short_one e (at_index (λ x. is_short_extern x ≡ true) source.externs i e (each_short source.externs all) is.0 is.1)

member_is : (source : Linked) (i : ℕ) (e : Extern) → Sound source → IsExternAt source.externs i e → length e.args.items ≤ MAX_VARIABLES → IsReadableExtern e
    → member_at (md_for source) (i + 12) ≡ Some (extern_key e)
unfolding member_at scope_name
member_is source i e s is few readable =
    let parent = parent_is source i s is.0 in
    let scope = scope_is source i s is.0 in
    let assembly = assembly_is source i e s is readable.assembly in
    let namespace = namespace_is source i e s is readable.namespace in
    let class = class_is source i e s is readable.class in
    let name = name_is source i e s is readable.name in
    let sig = signature_is source i e s is few readable in
    rw parent (rw scope (rw assembly (rw namespace (rw class (rw name (rw sig refl))))))

row_named_by : (md : List ℕ) (row : ℕ) → 1 ≤ row → row ≤ row_count md 10 → row < 2 ^ 24 → row_in md 10 (token_of 10 row) ≡ Some row
unfolding row_in
row_named_by md row some few small =
    let table : (10 * 2 ^ 24 + row) / 2 ^ 24 ≡ 10 = omega (arith, small) in
    let number : (10 * 2 ^ 24 + row) % 2 ^ 24 ≡ row = omega (arith, small) in
    rw (table, number, le-leb 1 row some, le-leb row (row_count md 10) few) refl

-- Each extern is the method that its token names.
pub externs_are : (source : Linked) (i : ℕ) (e : Extern) → Sound source → IsTrue (linked_fits source) → IsReadableLinked source → IsExternAt source.externs i e
    → member_of (md_for source) (extern_token i) ≡ Some (extern_key e)
unfolding member_of
externs_are source i e s fit readable is =
    let many = s.externs in
    let count = member_count_is source s in
    let within = is.0 in
    let row = row_named_by (md_for source) (i + 12) (omega arith) (omega (arith, count, within)) (omega (arith, many, within)) in
    let one = at_index IsReadableExtern source.externs i e readable.externs is.0 is.1 in
    rw row (member_is source i e s is (few_args source i e fit is) one)

-- ---- the name of the assembly

own_cell : (source : Linked) → Sound source → cell (md_for source) 32 1 7 ≡ slice_index (layout_of source).strings.offsets (own_name_index source)
unfolding columns_of
own_cell source s =
    let l = layout_of source in
    let end = stands_reach _ _ _ (own_name_stands source) in
    let prefix = fields.Plain (Four 0) ∷ fields.Plain (Two 0) ∷ fields.Plain (Two 0) ∷ fields.Plain (Two 0) ∷ fields.Plain (Two 0) ∷ fields.Plain (Four 0) ∷ fields.Blobs blobs.Empty ∷ [] in
    cell_is l source.plan.methods.items 32 1 prefix fields.OwnName (fields.Strings names.Empty ∷ []) columns.Strings _ s refl refl refl
    (table_row source tables.Assembly 0 (prefix ++ fields.OwnName ∷ fields.Strings names.Empty ∷ []) s (assembly_stands l source.plan.methods.items s.counts) (omega arith) refl)
    (index_says (is_wide_heap l.strings) _ (length l.strings.bytes) refl (omega (arith, end)) (few_strings source s))

pub own_name_is : (source : Linked) → Sound source → HasNoZero source.assembly → assembly_name (md_for source) ≡ Some source.assembly
unfolding assembly_name
own_name_is source s no_zero =
    let count = assembly_count_is source s in
    let name = ap (string_at (md_for source)) (own_cell source s) ∙ text_read source source.assembly _ s no_zero (own_name_stands source) in
    rw count name
