-- The columns that were written have the widths that are read.
use Rattle.std.proofs.Common.{◌≡◌, ℕ, ◌+◌, ◌-◌, ◌^◌, List, [], ◌∷◌, map, Bool, true, false, not, Option, Some, None, refl, sym, ap, ap₂, subst, ◌∙◌, arith, slice_index, nat_le}
use Rattle.std.specs.Prelude.{if◌then◌else◌, nat_lt}
use Rattle.std.specs.List.{list_all, list_any}
use Rattle.std.proofs.lemmas.List.Sums.{sum_by-cons}
use Rattle.metadata_tables.specs.Schema.{row_index_width, heap_index_width, width, total_width}
use Rattle.metadata_tables.specs.declared.schema.Column.{Column}
use Rattle.asm_writer.specs.declared.field.Field.{Field}
use Rattle.asm_writer.specs.declared.field.Field.TheVariants as fields
use Rattle.asm_writer.specs.declared.layout.Layout.{Layout}
use Rattle.asm_writer.specs.declared.number.Number.TheVariants.{Zeros, Two, Four, Eight}
use Rattle.asm_writer.specs.declared.table.CodedIndex.TheVariants as kinds
use Rattle.asm_writer.specs.declared.table.Table.{Table}
use Rattle.asm_writer.specs.declared.table.Table.TheVariants as tables
use Rattle.asm_writer.specs.Layout.{row_count, index, is_wide_heap, is_wide_index}
use Rattle.asm_writer.specs.Numbers.{number_width}
use Rattle.asm_writer.specs.Sizes.{field_width, row_width}
use Rattle.asm_writer.specs.Stream as written
use Rattle.asm_writer.specs.Tables.{table_number, coded_tables, coded_value}
use Rattle.written_assemblies.specs.Counts.{counts_of}
use Rattle.written_assemblies.specs.Columns.{column_of}

-- ---- rows of tables

pub count_here : (l : Layout) (t : Table) → slice_index (counts_of l.methods l.locals l.externs) (table_number t) ≡ row_count l t
unfolding counts_of
count_here l tables.Module = refl
count_here l tables.TypeRef = refl
count_here l tables.TypeDef = refl
count_here l tables.Field = refl
count_here l tables.MethodDef = refl
count_here l tables.Param = refl
count_here l tables.MemberRef = refl
count_here l tables.StandAloneSig = refl
count_here l tables.ModuleRef = refl
count_here l tables.TypeSpec = refl
count_here l tables.Assembly = refl
count_here l tables.AssemblyRef = refl
count_here l tables.MethodSpec = refl

below : (n limit : ℕ) → nat_lt n limit ≡ not (nat_le limit n)
below n limit = grind arith

all_below : (l : Layout) (limit : ℕ) (ts : List Table) → list_all (λ number. nat_lt (slice_index (counts_of l.methods l.locals l.externs) number) limit) (map table_number ts) ≡ not (list_any (λ t. nat_le limit (row_count l t)) ts)
all_below l limit [] = refl
all_below l limit (t ∷ ts) = grind (arith, count_here l t, below (row_count l t) limit, all_below l limit ts)

index_width : (wide : Bool) (n : ℕ) → number_width (index wide n) ≡ (if not wide then 2 else 4)
index_width true n = refl
index_width false n = refl

rows_width : (l : Layout) (ts : List Table) (bits rest row : ℕ) → 16 - bits ≡ rest
    → number_width (index (is_wide_index l ts bits) row) ≡ row_index_width (counts_of l.methods l.locals l.externs) (map table_number ts) rest
rows_width l ts bits rest row same =
    index_width (is_wide_index l ts bits) row
    ∙ ap (λ (limit : ℕ). if not (list_any (λ t. nat_le (2 ^ limit) (row_count l t)) ts) then 2 else 4) same
    ∙ ap (λ (narrow : Bool). if narrow then 2 else 4) (sym (all_below l (2 ^ rest) ts))

-- ---- items of heaps

strings_bit : (s b : Bool) → (if not s then 2 else 4) ≡ heap_index_width ((if s then 1 else 0) + (if b then 4 else 0)) 0
strings_bit true true = refl
strings_bit true false = refl
strings_bit false true = refl
strings_bit false false = refl

guids_bit : (s b : Bool) → 2 ≡ heap_index_width ((if s then 1 else 0) + (if b then 4 else 0)) 1
guids_bit true true = refl
guids_bit true false = refl
guids_bit false true = refl
guids_bit false false = refl

blobs_bit : (s b : Bool) → (if not b then 2 else 4) ≡ heap_index_width ((if s then 1 else 0) + (if b then 4 else 0)) 2
blobs_bit true true = refl
blobs_bit true false = refl
blobs_bit false true = refl
blobs_bit false false = refl

-- ---- columns

-- A field of a column has its width.
abbrev pub HasWidth : Layout → Field → Option Column → Type 0
HasWidth l field None = Unit {0}
HasWidth l field (Some column) = field_width l field ≡ width (counts_of l.methods l.locals l.externs) (written.heap_sizes l) column

pub has_width : (l : Layout) (field : Field) → HasWidth l field (column_of field)
unfolding width
has_width l (fields.Plain (Zeros n)) = tt
has_width l (fields.Plain (Two n)) = refl
has_width l (fields.Plain (Four n)) = refl
has_width l (fields.Plain (Eight n)) = tt
has_width l (fields.Strings name) = index_width _ _ ∙ strings_bit (is_wide_heap l.strings) (is_wide_heap l.blobs)
has_width l (fields.MethodName m) = index_width _ _ ∙ strings_bit (is_wide_heap l.strings) (is_wide_heap l.blobs)
has_width l fields.OwnName = index_width _ _ ∙ strings_bit (is_wide_heap l.strings) (is_wide_heap l.blobs)
has_width l (fields.ExternName index part) = index_width _ _ ∙ strings_bit (is_wide_heap l.strings) (is_wide_heap l.blobs)
has_width l (fields.Guid n) = guids_bit (is_wide_heap l.strings) (is_wide_heap l.blobs)
has_width l (fields.Blobs blob) = index_width _ _ ∙ blobs_bit (is_wide_heap l.strings) (is_wide_heap l.blobs)
has_width l (fields.MethodSignature m) = index_width _ _ ∙ blobs_bit (is_wide_heap l.strings) (is_wide_heap l.blobs)
has_width l (fields.MethodLocals m) = index_width _ _ ∙ blobs_bit (is_wide_heap l.strings) (is_wide_heap l.blobs)
has_width l (fields.ExternSignature index) = index_width _ _ ∙ blobs_bit (is_wide_heap l.strings) (is_wide_heap l.blobs)
has_width l (fields.MethodBody m) = refl
has_width l (fields.Row table row) = rows_width l (table ∷ []) 0 16 row refl
has_width l (fields.Coded kinds.TypeDefOrRef table row) = rows_width l (coded_tables kinds.TypeDefOrRef) 2 14 (coded_value kinds.TypeDefOrRef table row) refl
has_width l (fields.Coded kinds.MemberRefParent table row) = rows_width l (coded_tables kinds.MemberRefParent) 3 13 (coded_value kinds.MemberRefParent table row) refl
has_width l (fields.Coded kinds.MethodDefOrRef table row) = rows_width l (coded_tables kinds.MethodDefOrRef) 1 15 (coded_value kinds.MethodDefOrRef table row) refl
has_width l (fields.Coded kinds.ResolutionScope table row) = rows_width l (coded_tables kinds.ResolutionScope) 2 14 (coded_value kinds.ResolutionScope table row) refl

-- A row of these columns has their width.
same_Some : (a b : Column) → Some a ≡ Some b → a ≡ b
same_Some a b same = cc

pub widths_are : (l : Layout) (row : List Field) (cs : List Column) → map column_of row ≡ map Some cs
    → row_width l row ≡ total_width (counts_of l.methods l.locals l.externs) (written.heap_sizes l) cs
unfolding row_width
widths_are l [] [] same = refl
widths_are l [] (c ∷ cs) same = absurd cc
widths_are l (f ∷ fs) [] same = absurd cc
widths_are l (f ∷ fs) (c ∷ cs) same =
    let first : column_of f ≡ Some c = cc in
    let rest : map column_of fs ≡ map Some cs = cc in
    let one = subst (λ (column : Option Column). HasWidth l f column) first (has_width l f) in
    sum_by-cons _ f fs ∙ ap₂ (λ (a b : ℕ). a + b) one (widths_are l fs cs rest) ∙ sym (sum_by-cons _ c cs)
