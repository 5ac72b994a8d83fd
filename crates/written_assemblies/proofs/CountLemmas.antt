-- The row counts that were written, as they are read.
use Rattle.std.proofs.Common.{◌≡◌, ℕ, zero, suc, ◌+◌, ◌*◌, ◌^◌, ◌%◌, ◌<◌, ◌≤◌, List, [], ◌∷◌, ◌++◌, length, map, Bool, true, false, None, refl, sym, ap, ap₂, subst, ◌∙◌, arith, slice_index, get_or-drop}
use Rattle.std.specs.Prelude.{◌==◌, if◌then◌else◌}
use Rattle.std.specs.List.{flat_map, sum_by, range_with_len, AllByRecursion}
use Rattle.std.specs.Int.{bit_at}
use Rattle.std.proofs.lemmas.List.Concat.{flat_map-append}
use Rattle.std.proofs.lemmas.List.Sums.{sum_by-cons}
use Rattle.cc_base.specs.LittleEndian.{little_bytes, u32_at}
use Rattle.cc_base.specs.Tests.{first_of}
use Rattle.metadata_tables.specs.Layout.{tables_at, heap_sizes, valid, counts_at, present_below, stored_count, row_counts}
use Rattle.metadata_tables.specs.Schema.{columns_of}
use Rattle.metadata_tables.specs.TableTests.{bit_test, bits_tests}
use Rattle.asm_writer.specs.declared.layout.Layout.{Layout}
use Rattle.asm_writer.specs.declared.number.Number.{Number}
use Rattle.asm_writer.specs.declared.number.Number.TheVariants.{Zeros, Two, Four, Eight}
use Rattle.asm_writer.specs.declared.table.Table.{Table}
use Rattle.asm_writer.specs.declared.table.Table.TheVariants as tables
use Rattle.asm_writer.specs.Layout.{is_wide_heap, row_count}
use Rattle.asm_writer.specs.Numbers.{numbers_bytes, numbers_width}
use Rattle.asm_writer.specs.Rows.{fixed_rows}
use Rattle.asm_writer.specs.Stream as written
use Rattle.asm_writer.specs.Stream.{stream_numbers, count_numbers, count_bytes}
use Rattle.asm_writer.specs.Tables.{all_tables, table_number}
use Rattle.written_assemblies.specs.Counts.{count_of, counts_of}
use Rattle.written_assemblies.specs.Parts.{Stands}
use Rattle.written_assemblies.proofs.PartLemmas.{stands_first, stands_second, stands_drop, stands_u32}
use Rattle.written_assemblies.proofs.NumberLemmas.{number_stands, eight_is}

-- ---- HeapSizes

sizes_by : (s b : Bool) → ((if s then 1 else 0) + (if b then 4 else 0)) % 256 ≡ (if s then 1 else 0) + (if b then 4 else 0)
sizes_by true true = refl
sizes_by true false = refl
sizes_by false true = refl
sizes_by false false = refl

pub heap_sizes_is : (l : Layout) (md : List ℕ) → tables_at md ≡ 108 → Stands (numbers_bytes (stream_numbers l)) md 108 → heap_sizes md ≡ written.heap_sizes l
unfolding heap_sizes numbers_width
heap_sizes_is l md begins stands =
    let s = number_stands (Zeros 6 ∷ []) (Two (written.heap_sizes l)) (Eight (written.valid l) ∷ Zeros 8 ∷ []) md 108 stands in
    let here = stands_drop _ md 114 s in
    rw begins (sym (get_or-drop 114 md 0 0) ∙ ap (λ (bytes : List ℕ). slice_index bytes 0) here ∙ sizes_by (is_wide_heap l.strings) (is_wide_heap l.blobs))

-- ---- Valid

-- Whether a table has no rows, where MethodDef has none and StandAloneSig has none.
abbrev is_empty : Bool → Bool → Table → Bool
is_empty no_methods no_locals tables.MethodDef = no_methods
is_empty no_methods no_locals tables.StandAloneSig = no_locals
is_empty no_methods no_locals table = length (fixed_rows table) == 0

abbrev pub valid_by : Bool → Bool → ℕ
valid_by no_methods no_locals = sum_by (λ table. if is_empty no_methods no_locals table then 0 else 2 ^ table_number table) all_tables

-- A table of fixed rows and of rows of externs is not empty.
not_empty : (fixed externs : ℕ) → 1 ≤ fixed → (fixed + externs == 0) ≡ false
not_empty fixed externs some = grind arith

empty_is : (l : Layout) (table : Table) → (row_count l table == 0) ≡ is_empty (l.methods == 0) (l.locals == 0) table
empty_is l tables.Module = refl
empty_is l tables.TypeRef = not_empty 4 l.externs (omega arith)
empty_is l tables.TypeDef = refl
empty_is l tables.Field = refl
empty_is l tables.MethodDef = refl
empty_is l tables.Param = refl
empty_is l tables.MemberRef = not_empty 11 l.externs (omega arith)
empty_is l tables.StandAloneSig = refl
empty_is l tables.ModuleRef = refl
empty_is l tables.TypeSpec = refl
empty_is l tables.Assembly = refl
empty_is l tables.AssemblyRef = not_empty 1 l.externs (omega arith)
empty_is l tables.MethodSpec = refl

pub count_row : (l : Layout) (table : Table) → row_count l table ≡ count_of l.methods l.locals l.externs table
count_row l tables.Module = refl
count_row l tables.TypeRef = refl
count_row l tables.TypeDef = refl
count_row l tables.Field = refl
count_row l tables.MethodDef = refl
count_row l tables.Param = refl
count_row l tables.MemberRef = refl
count_row l tables.StandAloneSig = refl
count_row l tables.ModuleRef = refl
count_row l tables.TypeSpec = refl
count_row l tables.Assembly = refl
count_row l tables.AssemblyRef = refl
count_row l tables.MethodSpec = refl

bits_same : (l : Layout) (ts : List Table) → sum_by (written.valid_bit l) ts ≡ sum_by (λ table. if is_empty (l.methods == 0) (l.locals == 0) table then 0 else 2 ^ table_number table) ts
bits_same l [] = refl
bits_same l (table ∷ ts) =
    sum_by-cons _ table ts
    ∙ ap₂ (λ (a b : ℕ). a + b) (ap (λ (none : Bool). if none then 0 else 2 ^ table_number table) (empty_is l table)) (bits_same l ts)
    ∙ sym (sum_by-cons _ table ts)

valid_written : (l : Layout) → written.valid l ≡ valid_by (l.methods == 0) (l.locals == 0)
valid_written l = bits_same l all_tables

valid_small : (m k : Bool) → valid_by m k < 2 ^ 64
valid_small true true = omega arith
valid_small true false = omega arith
valid_small false true = omega arith
valid_small false false = omega arith

pub valid_is : (l : Layout) (md : List ℕ) → tables_at md ≡ 108 → Stands (numbers_bytes (stream_numbers l)) md 108 → valid md ≡ valid_by (l.methods == 0) (l.locals == 0)
unfolding valid numbers_width
valid_is l md begins stands =
    let small = subst (λ (bits : ℕ). bits < 2 ^ 64) (sym (valid_written l)) (valid_small (l.methods == 0) (l.locals == 0)) in
    rw begins (eight_is (Zeros 6 ∷ Two (written.heap_sizes l) ∷ []) (written.valid l) (Zeros 8 ∷ []) md 108 small stands ∙ valid_written l)

-- Each bit of it is that of a table that there is.
pub bits_pass : (m k : Bool) (at : ℕ) → first_of (bits_tests (valid_by m k) at) ≡ None
unfolding bits_tests bit_test columns_of first_of
bits_pass true true at = refl
bits_pass true false at = refl
bits_pass false true at = refl
bits_pass false false at = refl

-- ---- the row counts

-- The counts that are written.
abbrev pub counts_by : Bool → Bool → ℕ → ℕ → ℕ → List ℕ
counts_by no_methods no_locals methods locals externs = flat_map (λ table. if is_empty no_methods no_locals table then [] else count_of methods locals externs table ∷ []) all_tables

flat_numbers : (f : Table → List Number) (ts : List Table) → flat_map (λ t. numbers_bytes (f t)) ts ≡ numbers_bytes (flat_map f ts)
unfolding numbers_bytes
flat_numbers f [] = refl
flat_numbers f (t ∷ ts) = ap (λ (rest : List ℕ). numbers_bytes (f t) ++ rest) (flat_numbers f ts) ∙ sym (flat_map-append _ (f t) (flat_map f ts))

-- What is written of the count of a table.
abbrev counted : Bool → Bool → ℕ → ℕ → ℕ → Table → List Number
counted m k methods locals externs table = if is_empty m k table then [] else Four (count_of methods locals externs table) ∷ []

fours : (m k : Bool) (methods locals externs : ℕ) → flat_map (counted m k methods locals externs) all_tables ≡ map Four (counts_by m k methods locals externs)
fours true true methods locals externs = refl
fours true false methods locals externs = refl
fours false true methods locals externs = refl
fours false false methods locals externs = refl

count_numbers_are : (l : Layout) (ts : List Table) → flat_map (count_numbers l) ts ≡ flat_map (counted (l.methods == 0) (l.locals == 0) l.methods l.locals l.externs) ts
count_numbers_are l [] = refl
count_numbers_are l (table ∷ ts) =
    ap₂ (λ (a b : List Number). a ++ b)
    (ap₂ (λ (none : Bool) (n : ℕ). if none then [] else Four n ∷ []) (empty_is l table) (count_row l table))
    (count_numbers_are l ts)

pub count_bytes_are : (l : Layout) → flat_map (count_bytes l) all_tables ≡ numbers_bytes (map Four (counts_by (l.methods == 0) (l.locals == 0) l.methods l.locals l.externs))
count_bytes_are l = flat_numbers (count_numbers l) all_tables ∙ ap numbers_bytes (count_numbers_are l all_tables ∙ fours (l.methods == 0) (l.locals == 0) l.methods l.locals l.externs)

-- Words one after another.
abbrev words : List ℕ → ℕ → ℕ → List ℕ
words md at zero = []
words md at (suc count) = u32_at md at ∷ words md (at + 4) count

words_read : (ns : List ℕ) (md : List ℕ) (at : ℕ) → AllByRecursion (λ n. n < 2 ^ 32) ns → Stands (numbers_bytes (map Four ns)) md at → words md at (length ns) ≡ ns
unfolding numbers_bytes
words_read [] md at small stands = refl
words_read (n ∷ ns) md at small stands =
    let one = stands_u32 n md at small.0 (stands_first (little_bytes 4 n) (numbers_bytes (map Four ns)) md at stands) in
    let rest = words_read ns md (at + 4) small.1 (stands_second (little_bytes 4 n) (numbers_bytes (map Four ns)) md at stands) in
    ap₂ (λ (x : ℕ) (xs : List ℕ). x ∷ xs) one rest

counts_small : (m k : Bool) (methods locals externs : ℕ) → methods < 2 ^ 32 → locals < 2 ^ 32 → externs < 2 ^ 24 → AllByRecursion (λ n. n < 2 ^ 32) (counts_by m k methods locals externs)
counts_small true true methods locals externs p q r = (omega arith, (omega (arith, r), (omega arith, (omega (arith, r), (omega arith, (omega (arith, r), (omega arith, tt)))))))
counts_small true false methods locals externs p q r = (omega arith, (omega (arith, r), (omega arith, (omega (arith, r), (q, (omega arith, (omega (arith, r), (omega arith, tt))))))))
counts_small false true methods locals externs p q r = (omega arith, (omega (arith, r), (omega arith, (p, (omega (arith, r), (omega arith, (omega (arith, r), (omega arith, tt))))))))
counts_small false false methods locals externs p q r = (omega arith, (omega (arith, r), (omega arith, (p, (omega (arith, r), (q, (omega arith, (omega (arith, r), (omega arith, tt)))))))))

-- The count of a table, where these are the bits of Valid and a function gives the counts by their list index.
abbrev stored_by : ℕ → (ℕ → ℕ) → ℕ → ℕ
stored_by bits word table = if bit_at bits table == 1 then word (present_below bits table) else 0

stored_counts : (md : List ℕ) (bits at : ℕ) → valid md ≡ bits → counts_at md ≡ at → row_counts md ≡ map (stored_by bits (λ i. u32_at md (at + 4 * i))) (range_with_len 0 45)
unfolding row_counts stored_count
stored_counts md bits at v c = rw (v, c) refl

as_words : (m k : Bool) (md : List ℕ) (methods locals externs : ℕ) → map (stored_by (valid_by m k) (λ i. u32_at md (132 + 4 * i))) (range_with_len 0 45) ≡ map (stored_by (valid_by m k) (λ i. slice_index (words md 132 (length (counts_by m k methods locals externs))) i)) (range_with_len 0 45)
unfolding present_below
as_words true true md methods locals externs = refl
as_words true false md methods locals externs = refl
as_words false true md methods locals externs = refl
as_words false false md methods locals externs = refl

-- Where there are none, the count is 0.
as_counts : (m k : Bool) (methods locals externs : ℕ) → (m ≡ true → methods ≡ 0) → (k ≡ true → locals ≡ 0)
    → map (stored_by (valid_by m k) (λ i. slice_index (counts_by m k methods locals externs) i)) (range_with_len 0 45) ≡ counts_of methods locals externs
unfolding present_below counts_of
as_counts true true methods locals externs p q = sym (ap₂ (λ (n k : ℕ). counts_of n k externs) (p refl) (q refl))
as_counts true false methods locals externs p q = sym (ap (λ (n : ℕ). counts_of n locals externs) (p refl))
as_counts false true methods locals externs p q = sym (ap (λ (n : ℕ). counts_of methods n externs) (q refl))
as_counts false false methods locals externs p q = refl

is_zero : (n : ℕ) → (n == 0) ≡ true → n ≡ 0
is_zero zero so = refl
is_zero (suc n) so = grind arith

pub row_counts_are : (l : Layout) (md : List ℕ) → valid md ≡ valid_by (l.methods == 0) (l.locals == 0) → counts_at md ≡ 132 → l.methods < 2 ^ 32 → l.locals < 2 ^ 32 → l.externs < 2 ^ 24
    → Stands (numbers_bytes (map Four (counts_by (l.methods == 0) (l.locals == 0) l.methods l.locals l.externs))) md 132 → row_counts md ≡ counts_of l.methods l.locals l.externs
row_counts_are l md v c p q r stands =
    let m = l.methods == 0 in
    let k = l.locals == 0 in
    stored_counts md (valid_by m k) 132 v c
    ∙ as_words m k md l.methods l.locals l.externs
    ∙ ap (λ (ns : List ℕ). map (stored_by (valid_by m k) (λ i. slice_index ns i)) (range_with_len 0 45)) (words_read (counts_by m k l.methods l.locals l.externs) md 132 (counts_small m k l.methods l.locals l.externs p q r) stands)
    ∙ as_counts m k l.methods l.locals l.externs (is_zero l.methods) (is_zero l.locals)
