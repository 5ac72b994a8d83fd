-- Where the tables that were written stand.
use Rattle.std.proofs.Common.{◌≡◌, ℕ, zero, suc, ◌+◌, ◌*◌, ◌-◌, ◌<◌, ◌≤◌, List, [], ◌∷◌, ◌++◌, length, Bool, true, false, None, refl, sym, ap, ap₂, subst, ◌∙◌, arith, slice_index, add-one, zero-add}
use Rattle.std.specs.Prelude.{◌==◌, if◌then◌else◌}
use Rattle.std.specs.List.{flat_map, sum_by, range_with_len}
use Rattle.std.proofs.lemmas.List.{length-append}
use Rattle.std.proofs.lemmas.List.Concat.{flat_map-append}
use Rattle.std.proofs.lemmas.List.FromFn.{get_or-map-range_with_len}
use Rattle.std.proofs.lemmas.List.Sums.{sum_by-cons}
use Rattle.cc_base.specs.Tests.{first_of}
use Rattle.cc_base.proofs.TestLemmas.{first_of-nil, first_of-append_none}
use Rattle.metadata_tables.proofs.FieldLemmas.{run-fits}
use Rattle.metadata_tables.specs.declared.fault.TableFault.TheVariants.{Short}
use Rattle.metadata_tables.specs.Layout.{bytes_below, row_width as read_width}
use Rattle.metadata_tables.specs.TableTests.{rows_tests, all_rows_tests}
use Rattle.asm_writer.specs.declared.layout.Layout.{Layout}
use Rattle.asm_writer.specs.declared.plan.MethodPlan.{MethodPlan}
use Rattle.asm_writer.specs.declared.table.Table.{Table}
use Rattle.asm_writer.specs.declared.table.Table.TheVariants as tables
use Rattle.asm_writer.specs.Layout.{row_count}
use Rattle.asm_writer.specs.Rows.{fixed_rows, extern_rows, table_rows}
use Rattle.asm_writer.specs.Stream as written
use Rattle.asm_writer.specs.Stream.{table_bytes}
use Rattle.asm_writer.specs.Tables.{all_tables, table_number}
use Rattle.asm_writer.proofs.RowLemmas.{extern_types, extern_members, extern_assemblies}
use Rattle.metadata_tables.proofs.LayoutLemmas.{sum_below-more}
use Rattle.written_assemblies.specs.Counts.{count_among, counts_of}
use Rattle.written_assemblies.specs.Parts.{Stands}
use Rattle.written_assemblies.proofs.PartLemmas.{stands_at}
use Rattle.written_assemblies.proofs.CountLemmas.{count_row}
use Rattle.written_assemblies.proofs.WidthLemmas.{count_here}
use Rattle.written_assemblies.proofs.RowLemmas.{are_rows, width_of, rows_have_width}

-- ---- the sizes of tables, by their numbers

-- The bytes of the table of a number, as they are read.
abbrev pub size_of : Layout → ℕ → ℕ
size_of l number = slice_index (counts_of l.methods l.locals l.externs) number * read_width (counts_of l.methods l.locals l.externs) (written.heap_sizes l) number

-- The layout counts the rows of the methods.
pub record Counts (l : Layout) (ms : List MethodPlan) : Type 0 where
  pub methods : l.methods ≡ length (table_rows ms l.externs tables.MethodDef)
  pub locals : l.locals ≡ length (table_rows ms l.externs tables.StandAloneSig)

count_is : (l : Layout) (ms : List MethodPlan) (table : Table) → Counts l ms → length (table_rows ms l.externs table) ≡ row_count l table
count_is l ms tables.Module c = refl
count_is l ms tables.TypeRef c = length-append (fixed_rows tables.TypeRef) (extern_rows tables.TypeRef l.externs) ∙ ap (λ (n : ℕ). 4 + n) (extern_types l.externs)
count_is l ms tables.TypeDef c = refl
count_is l ms tables.Field c = refl
count_is l ms tables.MethodDef c = sym c.methods
count_is l ms tables.Param c = refl
count_is l ms tables.MemberRef c = length-append (fixed_rows tables.MemberRef) (extern_rows tables.MemberRef l.externs) ∙ ap (λ (n : ℕ). 11 + n) (extern_members l.externs)
count_is l ms tables.StandAloneSig c = sym c.locals
count_is l ms tables.ModuleRef c = refl
count_is l ms tables.TypeSpec c = refl
count_is l ms tables.Assembly c = refl
count_is l ms tables.AssemblyRef c = length-append (fixed_rows tables.AssemblyRef) (extern_rows tables.AssemblyRef l.externs) ∙ ap (λ (n : ℕ). 1 + n) (extern_assemblies l.externs)
count_is l ms tables.MethodSpec c = refl

pub size_is : (l : Layout) (ms : List MethodPlan) (table : Table) → Counts l ms → size_of l (table_number table) ≡ length (table_bytes l ms table)
size_is l ms table c =
    ap (λ (n : ℕ). n * width_of l table) (count_here l table ∙ sym (count_is l ms table c))
    ∙ sym (rows_have_width l table (table_rows ms l.externs table) (are_rows ms l.externs table))

-- ---- the bytes before a table

-- The tables before one in the list of all.
table_in : (f : Table → List ℕ) (before : List Table) (table : Table) (after : List Table) → Stands (f table) (flat_map f (before ++ table ∷ after)) (length (flat_map f before))
table_in f before table after = record {
  prefix = flat_map f before;
  rest = flat_map f after;
  parts = flat_map-append f before (table ∷ after);
  begins = refl;
}

total : (f : Table → List ℕ) (ts : List Table) → length (flat_map f ts) ≡ sum_by (λ t. length (f t)) ts
total f [] = refl
total f (t ∷ ts) = length-append (f t) (flat_map f ts) ∙ ap (λ (n : ℕ). length (f t) + n) (total f ts) ∙ sym (sum_by-cons (λ t. length (f t)) t ts)

-- What a function gives of the table of a number, 0 where none of these has it.
abbrev among : (Table → ℕ) → ℕ → List Table → ℕ
among f number [] = 0
among f number (table ∷ tables) = if table_number table == number then f table else among f number tables

nothing : (w : ℕ) → 0 ≡ 0 * w
nothing w = omega arith

-- The size of a table by its number is that of the table that has it.
either : (same : Bool) (x y a b w : ℕ) → (same ≡ true → x ≡ a * w) → y ≡ b * w → (if same then x else y) ≡ (if same then a else b) * w
either true x y a b w p q = p refl
either false x y a b w p q = q

same_number : (a b : ℕ) → (a == b) ≡ true → a ≡ b
same_number a b so = grind arith

size_among : (l : Layout) (ms : List MethodPlan) (number : ℕ) (ts : List Table) → Counts l ms
    → among (λ t. length (table_bytes l ms t)) number ts ≡ count_among l.methods l.locals l.externs number ts * read_width (counts_of l.methods l.locals l.externs) (written.heap_sizes l) number
size_among l ms number [] c = nothing _
size_among l ms number (t ∷ ts) c =
    either (table_number t == number) _ _ _ _ _
    (λ same. sym (size_is l ms t c)
    ∙ ap₂ (λ (n k : ℕ). n * read_width (counts_of l.methods l.locals l.externs) (written.heap_sizes l) k) (count_here l t ∙ count_row l t) (same_number (table_number t) number same))
    (size_among l ms number ts c)

-- Two sums that agree so far, and at the next number.
stepped : (f g : ℕ → ℕ) (n : ℕ) → sum_by f (range_with_len 0 n) ≡ sum_by g (range_with_len 0 n) → f n ≡ g n → sum_by f (range_with_len 0 (suc n)) ≡ sum_by g (range_with_len 0 (suc n))
stepped f g n before here =
    ap (λ (k : ℕ). sum_by f (range_with_len 0 k)) (sym (add-one n))
    ∙ sum_below-more f n ∙ ap₂ (λ (a b : ℕ). a + b) before here ∙ sym (sum_below-more g n)
    ∙ ap (λ (k : ℕ). sum_by g (range_with_len 0 k)) (add-one n)

-- The bytes of the tables below a number.
below_among : (l : Layout) (ms : List MethodPlan) (n : ℕ) → Counts l ms → n ≤ 45
    → sum_by (size_of l) (range_with_len 0 n) ≡ sum_by (λ number. among (λ t. length (table_bytes l ms t)) number all_tables) (range_with_len 0 n)
unfolding counts_of
below_among l ms zero c few = refl
below_among l ms (suc n) c few =
    let before = below_among l ms n c (omega (arith, few)) in
    let here : slice_index (counts_of l.methods l.locals l.externs) n ≡ count_among l.methods l.locals l.externs n all_tables = get_or-map-range_with_len (λ number. count_among l.methods l.locals l.externs number all_tables) 0 45 n n 0 (omega (arith, few)) (zero-add n) in
    let size = ap (λ (count : ℕ). count * read_width (counts_of l.methods l.locals l.externs) (written.heap_sizes l) n) here ∙ sym (size_among l ms n all_tables c) in
    stepped (size_of l) (λ number. among (λ t. length (table_bytes l ms t)) number all_tables) n before size

pub below_is : (l : Layout) (ms : List MethodPlan) (n : ℕ) → Counts l ms → n ≤ 45
    → bytes_below (counts_of l.methods l.locals l.externs) (written.heap_sizes l) n ≡ sum_by (λ number. among (λ t. length (table_bytes l ms t)) number all_tables) (range_with_len 0 n)
unfolding bytes_below
below_is l ms n c few = below_among l ms n c few

-- Those before TypeDef, before MethodDef and before StandAloneSig, and all.
to_types : (f : Table → ℕ) → sum_by (λ number. among f number all_tables) (range_with_len 0 2) ≡ sum_by f (tables.Module ∷ tables.TypeRef ∷ [])
to_types f = refl

to_methods : (f : Table → ℕ) → sum_by (λ number. among f number all_tables) (range_with_len 0 6) ≡ sum_by f (tables.Module ∷ tables.TypeRef ∷ tables.TypeDef ∷ tables.Field ∷ [])
to_methods f = omega arith

to_locals : (f : Table → ℕ) → sum_by (λ number. among f number all_tables) (range_with_len 0 17) ≡ sum_by f (tables.Module ∷ tables.TypeRef ∷ tables.TypeDef ∷ tables.Field ∷ tables.MethodDef ∷ tables.Param ∷ tables.MemberRef ∷ [])
to_locals f = omega arith

to_type_refs : (f : Table → ℕ) → sum_by (λ number. among f number all_tables) (range_with_len 0 1) ≡ sum_by f (tables.Module ∷ [])
to_type_refs f = refl

to_members : (f : Table → ℕ) → sum_by (λ number. among f number all_tables) (range_with_len 0 10) ≡ sum_by f (tables.Module ∷ tables.TypeRef ∷ tables.TypeDef ∷ tables.Field ∷ tables.MethodDef ∷ tables.Param ∷ [])
to_members f = omega arith

abbrev before_assembly : List Table
before_assembly =
    tables.Module ∷ tables.TypeRef ∷ tables.TypeDef ∷ tables.Field ∷ tables.MethodDef ∷ tables.Param ∷ tables.MemberRef
    ∷ tables.StandAloneSig ∷ tables.ModuleRef ∷ tables.TypeSpec ∷ []

to_assembly : (f : Table → ℕ) → sum_by (λ number. among f number all_tables) (range_with_len 0 32) ≡ sum_by f before_assembly
to_assembly f = omega arith

to_assembly_refs : (f : Table → ℕ) → sum_by (λ number. among f number all_tables) (range_with_len 0 35) ≡ sum_by f (before_assembly ++ tables.Assembly ∷ [])
to_assembly_refs f = omega arith

to_end : (f : Table → ℕ) → sum_by (λ number. among f number all_tables) (range_with_len 0 45) ≡ sum_by f all_tables
to_end f = omega arith

pub types_stand : (l : Layout) (ms : List MethodPlan) → Counts l ms
    → Stands (table_bytes l ms tables.TypeDef) (flat_map (table_bytes l ms) all_tables) (bytes_below (counts_of l.methods l.locals l.externs) (written.heap_sizes l) 2)
types_stand l ms c =
    stands_at _ _ _ _ (total (table_bytes l ms) (tables.Module ∷ tables.TypeRef ∷ []) ∙ sym (below_is l ms 2 c (omega arith) ∙ to_types (λ t. length (table_bytes l ms t))))
    (table_in (table_bytes l ms) (tables.Module ∷ tables.TypeRef ∷ []) tables.TypeDef (tables.Field ∷ tables.MethodDef ∷ tables.Param ∷ tables.MemberRef ∷ tables.StandAloneSig ∷ tables.ModuleRef ∷ tables.TypeSpec ∷ tables.Assembly ∷ tables.AssemblyRef ∷ tables.MethodSpec ∷ []))

pub methods_stand : (l : Layout) (ms : List MethodPlan) → Counts l ms
    → Stands (table_bytes l ms tables.MethodDef) (flat_map (table_bytes l ms) all_tables) (bytes_below (counts_of l.methods l.locals l.externs) (written.heap_sizes l) 6)
methods_stand l ms c =
    stands_at _ _ _ _ (total (table_bytes l ms) (tables.Module ∷ tables.TypeRef ∷ tables.TypeDef ∷ tables.Field ∷ []) ∙ sym (below_is l ms 6 c (omega arith) ∙ to_methods (λ t. length (table_bytes l ms t))))
    (table_in (table_bytes l ms) (tables.Module ∷ tables.TypeRef ∷ tables.TypeDef ∷ tables.Field ∷ []) tables.MethodDef (tables.Param ∷ tables.MemberRef ∷ tables.StandAloneSig ∷ tables.ModuleRef ∷ tables.TypeSpec ∷ tables.Assembly ∷ tables.AssemblyRef ∷ tables.MethodSpec ∷ []))

pub locals_stand : (l : Layout) (ms : List MethodPlan) → Counts l ms
    → Stands (table_bytes l ms tables.StandAloneSig) (flat_map (table_bytes l ms) all_tables) (bytes_below (counts_of l.methods l.locals l.externs) (written.heap_sizes l) 17)
locals_stand l ms c =
    stands_at _ _ _ _ (total (table_bytes l ms) (tables.Module ∷ tables.TypeRef ∷ tables.TypeDef ∷ tables.Field ∷ tables.MethodDef ∷ tables.Param ∷ tables.MemberRef ∷ []) ∙ sym (below_is l ms 17 c (omega arith) ∙ to_locals (λ t. length (table_bytes l ms t))))
    (table_in (table_bytes l ms) (tables.Module ∷ tables.TypeRef ∷ tables.TypeDef ∷ tables.Field ∷ tables.MethodDef ∷ tables.Param ∷ tables.MemberRef ∷ []) tables.StandAloneSig (tables.ModuleRef ∷ tables.TypeSpec ∷ tables.Assembly ∷ tables.AssemblyRef ∷ tables.MethodSpec ∷ []))

pub type_refs_stand : (l : Layout) (ms : List MethodPlan) → Counts l ms
    → Stands (table_bytes l ms tables.TypeRef) (flat_map (table_bytes l ms) all_tables) (bytes_below (counts_of l.methods l.locals l.externs) (written.heap_sizes l) 1)
type_refs_stand l ms c =
    stands_at _ _ _ _ (total (table_bytes l ms) (tables.Module ∷ []) ∙ sym (below_is l ms 1 c (omega arith) ∙ to_type_refs (λ t. length (table_bytes l ms t))))
    (table_in (table_bytes l ms) (tables.Module ∷ []) tables.TypeRef (tables.TypeDef ∷ tables.Field ∷ tables.MethodDef ∷ tables.Param ∷ tables.MemberRef ∷ tables.StandAloneSig ∷ tables.ModuleRef ∷ tables.TypeSpec ∷ tables.Assembly ∷ tables.AssemblyRef ∷ tables.MethodSpec ∷ []))

pub members_stand : (l : Layout) (ms : List MethodPlan) → Counts l ms
    → Stands (table_bytes l ms tables.MemberRef) (flat_map (table_bytes l ms) all_tables) (bytes_below (counts_of l.methods l.locals l.externs) (written.heap_sizes l) 10)
members_stand l ms c =
    stands_at _ _ _ _ (total (table_bytes l ms) (tables.Module ∷ tables.TypeRef ∷ tables.TypeDef ∷ tables.Field ∷ tables.MethodDef ∷ tables.Param ∷ []) ∙ sym (below_is l ms 10 c (omega arith) ∙ to_members (λ t. length (table_bytes l ms t))))
    (table_in (table_bytes l ms) (tables.Module ∷ tables.TypeRef ∷ tables.TypeDef ∷ tables.Field ∷ tables.MethodDef ∷ tables.Param ∷ []) tables.MemberRef (tables.StandAloneSig ∷ tables.ModuleRef ∷ tables.TypeSpec ∷ tables.Assembly ∷ tables.AssemblyRef ∷ tables.MethodSpec ∷ []))

pub assembly_stands : (l : Layout) (ms : List MethodPlan) → Counts l ms
    → Stands (table_bytes l ms tables.Assembly) (flat_map (table_bytes l ms) all_tables) (bytes_below (counts_of l.methods l.locals l.externs) (written.heap_sizes l) 32)
assembly_stands l ms c =
    stands_at _ _ _ _ (total (table_bytes l ms) before_assembly ∙ sym (below_is l ms 32 c (omega arith) ∙ to_assembly (λ t. length (table_bytes l ms t))))
    (table_in (table_bytes l ms) before_assembly tables.Assembly (tables.AssemblyRef ∷ tables.MethodSpec ∷ []))

pub assembly_refs_stand : (l : Layout) (ms : List MethodPlan) → Counts l ms
    → Stands (table_bytes l ms tables.AssemblyRef) (flat_map (table_bytes l ms) all_tables) (bytes_below (counts_of l.methods l.locals l.externs) (written.heap_sizes l) 35)
assembly_refs_stand l ms c =
    stands_at _ _ _ _ (total (table_bytes l ms) (before_assembly ++ tables.Assembly ∷ []) ∙ sym (below_is l ms 35 c (omega arith) ∙ to_assembly_refs (λ t. length (table_bytes l ms t))))
    (table_in (table_bytes l ms) (before_assembly ++ tables.Assembly ∷ []) tables.AssemblyRef (tables.MethodSpec ∷ []))

all_below : (l : Layout) (ms : List MethodPlan) → Counts l ms → bytes_below (counts_of l.methods l.locals l.externs) (written.heap_sizes l) 45 ≡ length (flat_map (table_bytes l ms) all_tables)
all_below l ms c = below_is l ms 45 c (omega arith) ∙ to_end (λ t. length (table_bytes l ms t)) ∙ sym (total (table_bytes l ms) all_tables)

-- ---- the tests of the rows

grows : (f : ℕ → ℕ) (n more : ℕ) → sum_by f (range_with_len 0 n) ≤ sum_by f (range_with_len 0 (n + more))
grows f n zero = let same : n + 0 ≡ n = omega arith in rw same (omega arith)
grows f n (suc more) =
    let rest = grows f n more in
    let next : n + suc more ≡ n + more + 1 = omega arith in
    let step = sum_below-more f (n + more) in
    rw (next, step) (omega (arith, rest))

-- The rows of each table end before the end, where those of all tables do.
row_run : (end : ℕ) (counts : List ℕ) (sizes at n : ℕ) → n < 45 → at + bytes_below counts sizes 45 ≤ end → first_of (rows_tests end counts sizes at n) ≡ None
unfolding rows_tests bytes_below
row_run end counts sizes at n few whole =
    let size : ℕ → ℕ = λ number. slice_index counts number * read_width counts sizes number in
    let more = sum_below-more size n in
    let below = grows size (n + 1) (44 - n) in
    let last : n + 1 + (44 - n) ≡ 45 = omega (arith, few) in
    let all : sum_by size (range_with_len 0 (n + 1)) ≤ sum_by size (range_with_len 0 45) = subst (λ (k : ℕ). sum_by size (range_with_len 0 (n + 1)) ≤ sum_by size (range_with_len 0 k)) last below in
    run-fits (slice_index counts n) end (λ at. Short at) (at + sum_by size (range_with_len 0 n)) (read_width counts sizes n) (omega (arith, more, all, whole))

runs_pass : (end : ℕ) (counts : List ℕ) (sizes at from count : ℕ) → from + count ≤ 45 → at + bytes_below counts sizes 45 ≤ end → first_of (flat_map (rows_tests end counts sizes at) (range_with_len from count)) ≡ None
runs_pass end counts sizes at from zero few whole = first_of-nil
runs_pass end counts sizes at from (suc count) few whole =
    first_of-append_none _ _ (row_run end counts sizes at from (omega (arith, few)) whole) ∙ runs_pass end counts sizes at (from + 1) count (omega (arith, few)) whole

pub all_rows_pass : (l : Layout) (ms : List MethodPlan) (end at : ℕ) → Counts l ms → at + length (flat_map (table_bytes l ms) all_tables) ≤ end
    → first_of (all_rows_tests end (counts_of l.methods l.locals l.externs) (written.heap_sizes l) at) ≡ None
unfolding all_rows_tests
all_rows_pass l ms end at c whole =
    let all = all_below l ms c in
    runs_pass end (counts_of l.methods l.locals l.externs) (written.heap_sizes l) at 0 45 (omega arith) (omega (arith, all, whole))
