-- The written metadata has no fault, and its tables are found where they were written.
use Rattle.std.proofs.Common.{◌≡◌, ℕ, zero, suc, ◌+◌, ◌*◌, ◌^◌, ◌<◌, ◌≤◌, List, [], ◌∷◌, ◌++◌, length, map, Bool, true, false, None, refl, sym, ap, ap₂, subst, ◌∙◌, arith}
use Rattle.std.specs.Prelude.{◌==◌}
use Rattle.std.specs.List.{flat_map}
use Rattle.std.proofs.lemmas.List.{length-append}
use Rattle.std.proofs.lemmas.List.Sums.{sum_by-cons}
use Rattle.cc_base.specs.Tests.{first_of}
use Rattle.cc_base.proofs.TestLemmas.{first_of-append_none}
use Rattle.metadata_tables.proofs.CellLemmas.{width-least}
use Rattle.metadata_tables.proofs.FieldLemmas.{fields-fits, fields-none, run-fits}
use Rattle.metadata_tables.specs.declared.fault.TableFault.TheVariants.{Short}
use Rattle.metadata_tables.specs.declared.schema.Column.{Column}
use Rattle.metadata_tables.specs.Layout.{tables_at, tables_end, heap_sizes, valid, counts_at, present_below, row_counts, rows_at, row_width as read_width, bytes_below, base}
use Rattle.metadata_tables.specs.Schema.{columns_of, width, total_width}
use Rattle.metadata_tables.specs.TableTests.{tables_tests, table_tests, first_table_fault}
use Rattle.metadata_tables.specs.Tests.{fields}
use Rattle.asm_writer.specs.declared.layout.Layout.{Layout}
use Rattle.asm_writer.specs.declared.number.Number.TheVariants.{Four}
use Rattle.asm_writer.specs.declared.plan.MethodPlan.{MethodPlan}
use Rattle.asm_writer.specs.declared.table.Table.TheVariants as tables
use Rattle.asm_writer.specs.Numbers.{numbers_bytes, numbers_width}
use Rattle.asm_writer.specs.Padding.{fill, padded}
use Rattle.asm_writer.specs.Rows.{table_rows}
use Rattle.asm_writer.specs.Stream as written
use Rattle.asm_writer.specs.Stream.{stream_numbers, count_bytes, table_bytes, tables_stream}
use Rattle.asm_writer.specs.Tables.{all_tables}
use Rattle.written_assemblies.specs.Counts.{counts_of}
use Rattle.written_assemblies.specs.Parts.{Stands}
use Rattle.written_assemblies.proofs.PartLemmas.{stands_first, stands_second, stands_at, stands_reach}
use Rattle.asm_writer.proofs.Lengths.{length_numbers}
use Rattle.written_assemblies.proofs.RootLemmas.{laid, stands_tables, tables_at_is, tables_end_is, streams_pass}
use Rattle.written_assemblies.proofs.CountLemmas.{valid_by, counts_by, count_bytes_are, heap_sizes_is, valid_is, bits_pass, row_counts_are}
use Rattle.written_assemblies.proofs.RowLemmas.{are_rows, width_of, rows_have_width}
use Rattle.written_assemblies.proofs.TableLemmas.{Counts, methods_stand, locals_stand, all_rows_pass}

-- The metadata of these methods.
abbrev pub md_of : Layout → List MethodPlan → List ℕ
md_of l ms = laid (tables_stream l ms) l

-- ---- where the parts of `#~` stand

stands_filled : (l : Layout) (ms : List MethodPlan) → Stands (numbers_bytes (stream_numbers l) ++ flat_map (count_bytes l) all_tables ++ flat_map (table_bytes l ms) all_tables) (md_of l ms) 108
unfolding tables_stream padded
stands_filled l ms = stands_first _ _ _ _ (stands_tables (tables_stream l ms) l)

stands_numbers : (l : Layout) (ms : List MethodPlan) → Stands (numbers_bytes (stream_numbers l)) (md_of l ms) 108
stands_numbers l ms = stands_first _ _ _ _ (stands_first _ _ _ _ (stands_filled l ms))

length_stream_numbers : (l : Layout) → length (numbers_bytes (stream_numbers l)) ≡ 24
unfolding numbers_width
length_stream_numbers l = length_numbers (stream_numbers l)

stands_counts : (l : Layout) (ms : List MethodPlan) → Stands (flat_map (count_bytes l) all_tables) (md_of l ms) 132
stands_counts l ms = stands_at _ _ _ _ (ap (λ (n : ℕ). 108 + n) (length_stream_numbers l)) (stands_second _ _ _ _ (stands_first _ _ _ _ (stands_filled l ms)))

pub stands_rows : (l : Layout) (ms : List MethodPlan) → Stands (flat_map (table_bytes l ms) all_tables) (md_of l ms) (132 + length (flat_map (count_bytes l) all_tables))
stands_rows l ms =
    let prefix = length-append (numbers_bytes (stream_numbers l)) (flat_map (count_bytes l) all_tables) in
    let numbers = length_stream_numbers l in
    let same : 108 + length (numbers_bytes (stream_numbers l) ++ flat_map (count_bytes l) all_tables) ≡ 132 + length (flat_map (count_bytes l) all_tables) = omega (arith, prefix, numbers) in
    stands_at _ _ _ _ same (stands_second _ _ _ _ (stands_filled l ms))

-- ---- what its numbers say

counts_width : (m k : Bool) (methods locals externs : ℕ) → numbers_width (map Four (counts_by m k methods locals externs)) ≡ 4 * present_below (valid_by m k) 64
unfolding numbers_width present_below
counts_width true true methods locals externs = refl
counts_width true false methods locals externs = refl
counts_width false true methods locals externs = refl
counts_width false false methods locals externs = refl

length_counts : (l : Layout) → length (flat_map (count_bytes l) all_tables) ≡ 4 * present_below (valid_by (l.methods == 0) (l.locals == 0)) 64
length_counts l = ap length (count_bytes_are l) ∙ length_numbers _ ∙ counts_width (l.methods == 0) (l.locals == 0) l.methods l.locals l.externs

pub record IsSound (l : Layout) (ms : List MethodPlan) : Type 0 where
  pub counts : Counts l ms
  pub externs : l.externs + 12 < 2 ^ 24
  pub few : length (md_of l ms) < 2 ^ 31

at_is : (l : Layout) (ms : List MethodPlan) → IsSound l ms → tables_at (md_of l ms) ≡ 108
at_is l ms s = let few = s.few in tables_at_is (tables_stream l ms) l (omega (arith, few))

end_is : (l : Layout) (ms : List MethodPlan) → IsSound l ms → tables_end (md_of l ms) ≡ 108 + length (tables_stream l ms)
end_is l ms s = let few = s.few in tables_end_is (tables_stream l ms) l (omega (arith, few))

pub sizes_are : (l : Layout) (ms : List MethodPlan) → IsSound l ms → heap_sizes (md_of l ms) ≡ written.heap_sizes l
sizes_are l ms s = heap_sizes_is l (md_of l ms) (at_is l ms s) (stands_numbers l ms)

bits_are : (l : Layout) (ms : List MethodPlan) → IsSound l ms → valid (md_of l ms) ≡ valid_by (l.methods == 0) (l.locals == 0)
bits_are l ms s = valid_is l (md_of l ms) (at_is l ms s) (stands_numbers l ms)

counts_at_is : (l : Layout) (ms : List MethodPlan) → IsSound l ms → counts_at (md_of l ms) ≡ 132
unfolding counts_at
counts_at_is l ms s = ap (λ (at : ℕ). at + 24) (at_is l ms s)

-- Each row has two bytes at least.
twice : (n w : ℕ) → 2 ≤ w → 2 * n ≤ n * w
twice zero w least = omega arith
twice (suc n) w least = let rest = twice n w least in omega (arith, rest, least)

wide_row : (counts : List ℕ) (sizes : ℕ) (columns : List Column) → 1 ≤ length columns → 2 ≤ total_width counts sizes columns
wide_row counts sizes [] some = absurd (omega (arith, some))
wide_row counts sizes (column ∷ columns) some =
    let cons = sum_by-cons (width counts sizes) column columns in
    let least = width-least counts sizes column in
    omega (arith, cons, least)

methods_few : (l : Layout) (ms : List MethodPlan) → IsSound l ms → l.methods < 2 ^ 32
unfolding read_width columns_of
methods_few l ms s =
    let end = stands_reach _ _ _ (methods_stand l ms s.counts) in
    let all = stands_reach _ _ _ (stands_rows l ms) in
    let size = rows_have_width l tables.MethodDef (table_rows ms l.externs tables.MethodDef) (are_rows ms l.externs tables.MethodDef) in
    let least : 2 ≤ width_of l tables.MethodDef = wide_row (counts_of l.methods l.locals l.externs) (written.heap_sizes l) (columns_of 6) (omega arith) in
    let rows = twice (length (table_rows ms l.externs tables.MethodDef)) (width_of l tables.MethodDef) least in
    let few = s.few in
    let counted = s.counts.methods in
    omega (arith, end, all, size, rows, few, counted)

locals_few : (l : Layout) (ms : List MethodPlan) → IsSound l ms → l.locals < 2 ^ 32
unfolding read_width columns_of
locals_few l ms s =
    let end = stands_reach _ _ _ (locals_stand l ms s.counts) in
    let all = stands_reach _ _ _ (stands_rows l ms) in
    let size = rows_have_width l tables.StandAloneSig (table_rows ms l.externs tables.StandAloneSig) (are_rows ms l.externs tables.StandAloneSig) in
    let least : 2 ≤ width_of l tables.StandAloneSig = wide_row (counts_of l.methods l.locals l.externs) (written.heap_sizes l) (columns_of 17) (omega arith) in
    let rows = twice (length (table_rows ms l.externs tables.StandAloneSig)) (width_of l tables.StandAloneSig) least in
    let few = s.few in
    let counted = s.counts.locals in
    omega (arith, end, all, size, rows, few, counted)

pub counts_are : (l : Layout) (ms : List MethodPlan) → IsSound l ms → row_counts (md_of l ms) ≡ counts_of l.methods l.locals l.externs
counts_are l ms s =
    let externs = s.externs in
    row_counts_are l (md_of l ms) (bits_are l ms s) (counts_at_is l ms s) (methods_few l ms s) (locals_few l ms s) (omega (arith, externs))
    (subst (λ (bytes : List ℕ). Stands bytes (md_of l ms) 132) (count_bytes_are l) (stands_counts l ms))

pub rows_at_is : (l : Layout) (ms : List MethodPlan) → IsSound l ms → rows_at (md_of l ms) ≡ 132 + length (flat_map (count_bytes l) all_tables)
unfolding rows_at
rows_at_is l ms s =
    ap₂ (λ (at bits : ℕ). at + 4 * present_below bits 64) (counts_at_is l ms s) (bits_are l ms s)
    ∙ ap (λ (n : ℕ). 132 + n) (sym (length_counts l))

-- Where the first row of a table stands.
pub base_is : (l : Layout) (ms : List MethodPlan) (number : ℕ) → IsSound l ms
    → base (md_of l ms) number ≡ 132 + length (flat_map (count_bytes l) all_tables) + bytes_below (counts_of l.methods l.locals l.externs) (written.heap_sizes l) number
unfolding base
base_is l ms number s = rw (rows_at_is l ms s, counts_are l ms s, sizes_are l ms s) refl

-- ---- its tests

prefix_fields : (end at : ℕ) → at + 16 ≤ end → first_of (fields end (λ at. Short at) at (4 ∷ 1 ∷ 1 ∷ 1 ∷ 1 ∷ 8 ∷ [])) ≡ None
prefix_fields end at room =
    fields-fits end _ at 4 _ (omega (arith, room))
    ∙ fields-fits end _ (at + 4) 1 _ (omega (arith, room))
    ∙ fields-fits end _ (at + 4 + 1) 1 _ (omega (arith, room))
    ∙ fields-fits end _ (at + 4 + 1 + 1) 1 _ (omega (arith, room))
    ∙ fields-fits end _ (at + 4 + 1 + 1 + 1) 1 _ (omega (arith, room))
    ∙ fields-fits end _ (at + 4 + 1 + 1 + 1 + 1) 8 _ (omega (arith, room))
    ∙ fields-none end _ _

one_field : (end at width : ℕ) → at + width ≤ end → first_of (fields end (λ at. Short at) at (width ∷ [])) ≡ None
one_field end at width room = fields-fits end _ at width [] room ∙ fields-none end _ _

-- What `#~` has room for.
room : (l : Layout) (ms : List MethodPlan) → 24 + length (flat_map (count_bytes l) all_tables) + length (flat_map (table_bytes l ms) all_tables) ≤ length (tables_stream l ms)
unfolding tables_stream padded
room l ms =
    let numbers = length_stream_numbers l in
    let prefix = length-append (numbers_bytes (stream_numbers l)) (flat_map (count_bytes l) all_tables) in
    let all = length-append (numbers_bytes (stream_numbers l) ++ flat_map (count_bytes l) all_tables) (flat_map (table_bytes l ms) all_tables) in
    let whole = length-append (numbers_bytes (stream_numbers l) ++ flat_map (count_bytes l) all_tables ++ flat_map (table_bytes l ms) all_tables) (fill 4 (length (numbers_bytes (stream_numbers l) ++ flat_map (count_bytes l) all_tables ++ flat_map (table_bytes l ms) all_tables))) in
    omega (arith, numbers, prefix, all, whole)

tables_pass : (l : Layout) (ms : List MethodPlan) → IsSound l ms → first_of (tables_tests (md_of l ms)) ≡ None
unfolding tables_tests
tables_pass l ms s =
    let has = room l ms in
    let counts = length_counts l in
    let end : ℕ = 108 + length (tables_stream l ms) in
    let bits : ℕ = valid_by (l.methods == 0) (l.locals == 0) in
    rw (end_is l ms s, at_is l ms s, bits_are l ms s, counts_at_is l ms s, counts_are l ms s, sizes_are l ms s, rows_at_is l ms s)
    (first_of-append_none _ _ (
    first_of-append_none _ _ (
    first_of-append_none _ _ (
    first_of-append_none _ _ (prefix_fields end 108 (omega (arith, has)))
    ∙ bits_pass (l.methods == 0) (l.locals == 0) 116)
    ∙ one_field end 124 8 (omega (arith, has)))
    ∙ run-fits (present_below bits 64) end (λ at. Short at) 132 4 (omega (arith, has, counts)))
    ∙ all_rows_pass l ms end (132 + length (flat_map (count_bytes l) all_tables)) s.counts (omega (arith, has)))

pub metadata_passes : (l : Layout) (ms : List MethodPlan) → IsSound l ms → first_table_fault (md_of l ms) ≡ None
unfolding first_table_fault table_tests
metadata_passes l ms s =
    let few = s.few in
    first_of-append_none _ _ (streams_pass (tables_stream l ms) l (omega (arith, few))) ∙ tables_pass l ms s
