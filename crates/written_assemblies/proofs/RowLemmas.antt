-- Where the rows that were written stand.
use Rattle.std.proofs.Common.{◌≡◌, ℕ, zero, suc, ◌+◌, ◌*◌, ◌<◌, List, [], ◌∷◌, ◌++◌, length, map, get_or, Bool, true, false, Some, refl, subst, ◌∙◌, arith}
use Rattle.std.specs.Prelude.{if◌then◌else◌}
use Rattle.std.specs.List.{AllByRecursion, flat_map, range_with_len}
use Rattle.std.proofs.lemmas.List.{length-append}
use Rattle.metadata_tables.specs.Schema.{columns_of}
use Rattle.metadata_tables.specs.Layout.{row_width as read_width}
use Rattle.asm_writer.specs.declared.field.Field.{Field}
use Rattle.asm_writer.specs.declared.layout.Layout.{Layout}
use Rattle.asm_writer.specs.declared.name.Name.{Name}
use Rattle.asm_writer.specs.declared.blob.Blob.{Blob}
use Rattle.asm_writer.specs.declared.plan.MethodPlan.{MethodPlan}
use Rattle.asm_writer.specs.declared.table.Table.{Table}
use Rattle.asm_writer.specs.declared.table.Table.TheVariants as tables
use Rattle.asm_writer.specs.declared.name.Name.TheVariants as names
use Rattle.asm_writer.specs.Bodies.{has_locals}
use Rattle.asm_writer.specs.Each.{each_from}
use Rattle.asm_writer.specs.Layout.{fields_bytes, rows_bytes}
use Rattle.asm_writer.specs.Rows.{types, calls, assemblies, instantiations, type_ref_row, member_ref_row, assembly_ref_row, method_spec_row, locals_fields, rows_of_method, rows_of_extern, extern_rows, table_rows}
use Rattle.asm_writer.specs.Sizes.{row_width}
use Rattle.asm_writer.specs.Stream as written
use Rattle.asm_writer.specs.Stream.{table_bytes}
use Rattle.asm_writer.specs.Tables.{table_number}
use Rattle.written_assemblies.specs.Columns.{column_of}
use Rattle.written_assemblies.specs.Counts.{counts_of}
use Rattle.written_assemblies.specs.Parts.{Stands}
use Rattle.written_assemblies.proofs.PartLemmas.{stands_first, stands_second, stands_at, stands_within, stands_whole}
use Rattle.asm_writer.proofs.Lengths.{length_fields}
use Rattle.written_assemblies.proofs.WidthLemmas.{widths_are}

-- ---- rows have the columns of their table

abbrev pub IsRowOf : Table → List Field → Type 0
IsRowOf table row = map column_of row ≡ map Some (columns_of (table_number table))

all_map : {X Y : Type 0} (P : Y → Type 0) (f : X → Y) (xs : List X) → ((x : X) → P (f x)) → AllByRecursion P (map f xs)
all_map P f [] each = tt
all_map P f (x ∷ xs) each = (each x, all_map P f xs each)

all_append : {X : Type 0} (P : X → Type 0) (xs ys : List X) → AllByRecursion P xs → AllByRecursion P ys → AllByRecursion P (xs ++ ys)
all_append P [] ys a b = b
all_append P (x ∷ xs) ys a b = (a.0, all_append P xs ys a.1 b)

all_each : {X : Type 0} (P : X → Type 0) (f : ℕ → MethodPlan → List X) (index : ℕ) (ms : List MethodPlan) → ((i : ℕ) (m : MethodPlan) → AllByRecursion P (f i m)) → AllByRecursion P (each_from index f ms)
unfolding each_from
all_each P f index [] each = tt
all_each P f index (m ∷ ms) each = all_append P (f index m) (each_from (index + 1) f ms) (each index m) (all_each P f (index + 1) ms each)

locals_row_is : (i : ℕ) (has : Bool) → AllByRecursion (IsRowOf tables.StandAloneSig) (if has then locals_fields i ∷ [] else [])
unfolding columns_of
locals_row_is i true = (refl, tt)
locals_row_is i false = tt

all_numbers : {X : Type 0} (P : X → Type 0) (f : ℕ → List X) (from n : ℕ) → ((i : ℕ) → AllByRecursion P (f i)) → AllByRecursion P (flat_map f (range_with_len from n))
all_numbers P f from zero each = tt
all_numbers P f from (suc n) each = all_append P (f from) (flat_map f (range_with_len (from + 1) n)) (each from) (all_numbers P f (from + 1) n each)

extern_rows_are : (table : Table) (externs : ℕ) → ((i : ℕ) → AllByRecursion (IsRowOf table) (rows_of_extern table i)) → AllByRecursion (IsRowOf table) (extern_rows table externs)
unfolding extern_rows
extern_rows_are table externs each = all_numbers (IsRowOf table) (rows_of_extern table) 0 externs each

pub are_rows : (ms : List MethodPlan) (externs : ℕ) (table : Table) → AllByRecursion (IsRowOf table) (table_rows ms externs table)
unfolding columns_of
are_rows ms externs tables.Module = (refl, tt)
are_rows ms externs tables.TypeRef =
    all_append (IsRowOf tables.TypeRef) (map type_ref_row types) (extern_rows tables.TypeRef externs)
    (all_map (IsRowOf tables.TypeRef) type_ref_row types (λ (name : Name). refl))
    (extern_rows_are tables.TypeRef externs (λ (i : ℕ). (refl, tt)))
are_rows ms externs tables.TypeDef = (refl, (refl, tt))
are_rows ms externs tables.Field = tt
are_rows ms externs tables.MethodDef = all_each (IsRowOf tables.MethodDef) (rows_of_method tables.MethodDef) 0 ms (λ (i : ℕ) (m : MethodPlan). (refl, tt))
are_rows ms externs tables.Param = tt
are_rows ms externs tables.MemberRef =
    all_append (IsRowOf tables.MemberRef) (map member_ref_row calls) (extern_rows tables.MemberRef externs)
    (all_map (IsRowOf tables.MemberRef) member_ref_row calls (λ (call : Name × Blob). refl))
    (extern_rows_are tables.MemberRef externs (λ (i : ℕ). (refl, tt)))
are_rows ms externs tables.StandAloneSig = all_each (IsRowOf tables.StandAloneSig) (rows_of_method tables.StandAloneSig) 0 ms (λ (i : ℕ) (m : MethodPlan). locals_row_is i (has_locals m))
are_rows ms externs tables.ModuleRef = tt
are_rows ms externs tables.TypeSpec = tt
are_rows ms externs tables.Assembly = (refl, tt)
are_rows ms externs tables.AssemblyRef =
    all_append (IsRowOf tables.AssemblyRef) (map assembly_ref_row assemblies) (extern_rows tables.AssemblyRef externs)
    (all_map (IsRowOf tables.AssemblyRef) assembly_ref_row assemblies (λ (name : Name). refl))
    (extern_rows_are tables.AssemblyRef externs (λ (i : ℕ). (refl, tt)))
are_rows ms externs tables.MethodSpec =
    all_append (IsRowOf tables.MethodSpec) (map (method_spec_row names.Result) instantiations) (map (method_spec_row names.OldValue) instantiations)
    (all_map (IsRowOf tables.MethodSpec) (method_spec_row names.Result) instantiations (λ (by : Blob). refl))
    (all_map (IsRowOf tables.MethodSpec) (method_spec_row names.OldValue) instantiations (λ (by : Blob). refl))

-- ---- and their width

-- The width of a row of a table, as it is read.
abbrev pub width_of : Layout → Table → ℕ
width_of l table = read_width (counts_of l.methods l.locals l.externs) (written.heap_sizes l) (table_number table)

pub row_has_width : (l : Layout) (table : Table) (row : List Field) → IsRowOf table row → row_width l row ≡ width_of l table
unfolding read_width
row_has_width l table row is = widths_are l row (columns_of (table_number table)) is

suc_times : (n w : ℕ) → w + n * w ≡ suc n * w
suc_times n w = omega arith

zero_times : (w : ℕ) → 0 ≡ zero * w
zero_times w = omega arith

next : (n w i : ℕ) → n ≡ w → 0 + n + i * w ≡ suc i * w
next n w i same = omega (arith, same)

pub rows_have_width : (l : Layout) (table : Table) (rows : List (List Field)) → AllByRecursion (IsRowOf table) rows → length (rows_bytes l rows) ≡ length rows * width_of l table
unfolding rows_bytes
rows_have_width l table [] are = zero_times (width_of l table)
rows_have_width l table (row ∷ rows) are =
    let one : length (fields_bytes l row) ≡ width_of l table = length_fields l row ∙ row_has_width l table row are.0 in
    let rest = rows_have_width l table rows are.1 in
    length-append (fields_bytes l row) (rows_bytes l rows) ∙ rw (one, rest) (suc_times (length rows) (width_of l table))

-- The row of a list index stands after those before it.
pub row_stands : (l : Layout) (table : Table) (rows : List (List Field)) (i : ℕ) (row d : List Field) → AllByRecursion (IsRowOf table) rows → i < length rows → get_or rows i d ≡ row
    → Stands (fields_bytes l row) (rows_bytes l rows) (i * width_of l table)
unfolding rows_bytes
row_stands l table [] i row d are within is = absurd (omega arith)
row_stands l table (first ∷ rows) zero row d are within is =
    stands_at _ _ _ _ (zero_times (width_of l table)) (subst (λ (r : List Field). Stands (fields_bytes l r) (rows_bytes l (first ∷ rows)) 0) is (stands_first _ _ _ _ (stands_whole (rows_bytes l (first ∷ rows)))))
row_stands l table (first ∷ rows) (suc i) row d are within is =
    let rest = row_stands l table rows i row d are.1 (omega arith) is in
    let here = stands_second (fields_bytes l first) (rows_bytes l rows) (rows_bytes l (first ∷ rows)) 0 (stands_whole _) in
    let one : length (fields_bytes l first) ≡ width_of l table = length_fields l first ∙ row_has_width l table first are.0 in
    stands_at _ _ _ _ (next (length (fields_bytes l first)) (width_of l table) i one) (stands_within _ _ _ _ _ rest here)
