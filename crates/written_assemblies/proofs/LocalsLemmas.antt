-- The locals of methods, as they are read.
use Rattle.cil_model.specs.Limits.{MAX_VARIABLES}
use Rattle.std.proofs.Common.{◌≡◌, ℕ, zero, suc, ◌+◌, ◌*◌, ◌/◌, ◌%◌, ◌^◌, ◌<◌, ◌≤◌, List, [], ◌∷◌, ◌++◌, length, take, get_or, Bool, true, false, Some, refl, sym, ap, subst, ◌∙◌, arith, slice_index}
use Rattle.std.specs.Prelude.{◌==◌, if◌then◌else◌}
use Rattle.std.specs.List.{sum_by}
use Rattle.std.specs.Option.{option_and_then}
use Rattle.std.proofs.lemmas.Bool.{le-leb}
use Rattle.std.proofs.lemmas.List.{length-append, get_or-append-add, length-take-le}
use Rattle.std.proofs.lemmas.List.Sums.{sum_by-cons}
use Rattle.cc_base.specs.Tokens.{token_of}
use Rattle.cil_model.specs.declared.place.Place.{Place}
use Rattle.metadata_tables.specs.Heaps.{blob_at}
use Rattle.metadata_tables.specs.Layout.{row_count, cell}
use Rattle.metadata_tables.specs.Schema.{columns_of}
use Rattle.metadata_tables.specs.declared.schema.Column.TheVariants as columns
use Rattle.signature_blobs.specs.Signatures.{local_signature}
use Rattle.signature_blobs.specs.declared.local.LocalSig.TheVariants.{Known}
use Rattle.asm_image.specs.Tokens.{row_in, faultless, locals_at, locals_of}
use Rattle.asm_writer.specs.declared.field.Field.{Field}
use Rattle.asm_writer.specs.declared.field.Field.TheVariants as fields
use Rattle.asm_writer.specs.Linked.{Linked}
use Rattle.asm_writer.specs.declared.plan.MethodPlan.{MethodPlan}
use Rattle.asm_writer.specs.declared.table.Table.TheVariants as tables
use Rattle.asm_writer.specs.Blobs.{locals_index}
use Rattle.asm_writer.specs.Bodies.{has_items, has_locals, locals_rows, locals_row, locals_token}
use Rattle.asm_writer.specs.Each.{each_from}
use Rattle.asm_writer.specs.Layout.{layout_of, is_wide_heap}
use Rattle.asm_writer.specs.Rows.{locals_fields, rows_of_method, table_rows}
use Rattle.asm_writer.specs.Signatures as signatures
use Rattle.written_assemblies.specs.Counts.{counts_of}
use Rattle.written_assemblies.specs.Parts.{Stands}
use Rattle.written_assemblies.proofs.PartLemmas.{stands_reach}
use Rattle.written_assemblies.proofs.TableLemmas as tables_stand
use Rattle.written_assemblies.proofs.MetadataLemmas.{counts_are}
use Rattle.written_assemblies.proofs.CellLemmas.{index_says, cell_is}
use Rattle.written_assemblies.proofs.LayoutLemmas.{locals_stand}
use Rattle.written_assemblies.proofs.BlobLemmas.{locals_back, locals_short}
use Rattle.written_assemblies.proofs.MethodLemmas.{md_for, Sound, few_blobs, blob_read, table_row}
use Rattle.written_assemblies.proofs.ReadLemmas.{IsTaken, few_variables_at, readable_at}

-- ---- the row of StandAloneSig that a method has

abbrev rows_by : ℕ → Bool → List (List Field)
rows_by index has = if has then locals_fields index ∷ [] else []

abbrev count_by : Bool → ℕ
count_by has = if has then 1 else 0

-- One more row before, or none.
after : (first : List (List Field)) (n k : ℕ) (rest : List (List Field)) → length first ≡ n → get_or (first ++ rest) (n + k) [] ≡ get_or rest k []
after first n k rest size = ap (λ (j : ℕ). get_or (first ++ rest) (j + k) []) (sym size) ∙ get_or-append-add first rest k []

length_by : (index : ℕ) (has : Bool) → length (rows_by index has) ≡ count_by has
length_by index true = refl
length_by index false = refl

row_found : (index : ℕ) (ms : List MethodPlan) (i : ℕ) (m : MethodPlan) → i < length ms → get_or ms i m ≡ m → has_locals m ≡ true
    → get_or (each_from index (rows_of_method tables.StandAloneSig) ms) (sum_by locals_rows (take i ms)) [] ≡ locals_fields (index + i)
unfolding each_from locals_rows
row_found index [] i m within is has = absurd (omega (arith, within))
row_found index (first ∷ ms) zero m within is has =
    let here : has_locals first ≡ true = ap has_locals is ∙ has in
    let same : index ≡ index + 0 = omega arith in
    ap (λ (h : Bool). get_or (rows_by index h ++ each_from (index + 1) (rows_of_method tables.StandAloneSig) ms) 0 []) here
    ∙ ap locals_fields same
row_found index (first ∷ ms) (suc i) m within is has =
    let rest = row_found (index + 1) ms i m (omega (arith, within)) is has in
    let same : index + 1 + i ≡ index + suc i = omega arith in
    ap (λ (k : ℕ). get_or (rows_by index (has_locals first) ++ each_from (index + 1) (rows_of_method tables.StandAloneSig) ms) k []) (sum_by-cons locals_rows first (take i ms))
    ∙ after (rows_by index (has_locals first)) (count_by (has_locals first)) (sum_by locals_rows (take i ms)) (each_from (index + 1) (rows_of_method tables.StandAloneSig) ms) (length_by index (has_locals first))
    ∙ rest ∙ ap locals_fields same

row_there : (index : ℕ) (ms : List MethodPlan) (i : ℕ) (m : MethodPlan) → i < length ms → get_or ms i m ≡ m → has_locals m ≡ true
    → sum_by locals_rows (take i ms) < length (each_from index (rows_of_method tables.StandAloneSig) ms)
unfolding each_from locals_rows
row_there index [] i m within is has = absurd (omega (arith, within))
row_there index (first ∷ ms) zero m within is has =
    let here : has_locals first ≡ true = ap has_locals is ∙ has in
    let size = length-append (rows_by index (has_locals first)) (each_from (index + 1) (rows_of_method tables.StandAloneSig) ms) in
    let one : length (rows_by index (has_locals first)) ≡ 1 = length_by index (has_locals first) ∙ ap count_by here in
    omega (arith, size, one)
row_there index (first ∷ ms) (suc i) m within is has =
    let rest = row_there (index + 1) ms i m (omega (arith, within)) is has in
    let size = length-append (rows_by index (has_locals first)) (each_from (index + 1) (rows_of_method tables.StandAloneSig) ms) in
    let one = length_by index (has_locals first) in
    let sum = sum_by-cons locals_rows first (take i ms) in
    omega (arith, rest, size, one, sum)

-- The cell of its row.
locals_cell : (source : Linked) (i : ℕ) (m : MethodPlan) → Sound source → i < length source.plan.methods.items → get_or source.plan.methods.items i m ≡ m → has_locals m ≡ true
    → cell (md_for source) 17 (locals_row source.plan.methods.items i) 0 ≡ slice_index (layout_of source).blobs.offsets (locals_index i)
unfolding columns_of
locals_cell source i m s within is has =
    let l = layout_of source in
    let ms = source.plan.methods.items in
    let same : 0 + i ≡ i = omega arith in
    let row : get_or (table_rows ms (length source.externs) tables.StandAloneSig) (sum_by locals_rows (take i ms)) [] ≡ locals_fields i = row_found 0 ms i m within is has ∙ ap locals_fields same in
    let here = table_row source tables.StandAloneSig (sum_by locals_rows (take i ms)) (locals_fields i) s (tables_stand.locals_stand l ms s.counts) (row_there 0 ms i m within is has) row in
    let end = stands_reach _ _ _ (locals_stand ms source.externs i m within is) in
    cell_is l ms 17 (sum_by locals_rows (take i ms) + 1) [] (fields.MethodLocals i) [] columns.Blob _ s refl refl refl here
    (index_says (is_wide_heap l.blobs) _ (length l.blobs.bytes) refl (omega (arith, end)) (few_blobs source s))

-- ---- the token of its locals

no_items : (ps : List Place) → has_items ps ≡ false → ps ≡ []
no_items [] none = refl
no_items (p ∷ ps) none = absurd cc

some_blob : (ps : List Place) → has_items ps ≡ true → signatures.local_blob ps ≡ signatures.blob (signatures.local_signature ps)
unfolding signatures.local_blob
some_blob [] some = absurd cc
some_blob (p ∷ ps) some = refl

sig_count_is : (source : Linked) → Sound source → row_count (md_for source) 17 ≡ length (table_rows source.plan.methods.items (length source.externs) tables.StandAloneSig)
unfolding counts_of
sig_count_is source s = ap (λ (counts : List ℕ). slice_index counts 17) (counts_are (layout_of source) source.plan.methods.items s)

row_named_by : (md : List ℕ) (row : ℕ) → 1 ≤ row → row ≤ row_count md 17 → row < 2 ^ 24 → row_in md 17 (token_of 17 row) ≡ Some row
unfolding row_in
row_named_by md row some few small =
    let table : (17 * 2 ^ 24 + row) / 2 ^ 24 ≡ 17 = omega (arith, small) in
    let number : (17 * 2 ^ 24 + row) % 2 ^ 24 ≡ row = omega (arith, small) in
    rw (table, number, le-leb 1 row some, le-leb row (row_count md 17) few) refl

few_locals : (m : MethodPlan) → length m.args.items + length m.locals.items + m.max_stack ≤ MAX_VARIABLES → length m.locals.items ≤ MAX_VARIABLES
few_locals m few = omega (arith, few)

one_at_most : (has : Bool) → count_by has ≤ 1
one_at_most true = omega arith
one_at_most false = omega arith

sum_few : (ms : List MethodPlan) → sum_by locals_rows ms ≤ length ms
unfolding locals_rows
sum_few [] = omega arith
sum_few (m ∷ ms) =
    let one = one_at_most (has_locals m) in
    let rest = sum_few ms in
    let cons = sum_by-cons locals_rows m ms in
    omega (arith, one, rest, cons)

pub few_rows : (ms : List MethodPlan) (i : ℕ) → i < length ms → locals_row ms i ≤ i + 1
few_rows ms i within =
    let size = length-take-le i ms (omega (arith, within)) in
    let sum = sum_few (take i ms) in
    omega (arith, size, sum)

blob_locals : (source : Linked) (i : ℕ) (m : MethodPlan) → IsTaken source → i < length source.plan.methods.items → get_or source.plan.methods.items i m ≡ m → has_locals m ≡ true
    → locals_at (md_for source) (locals_row source.plan.methods.items i) ≡ Some (Known m.locals.items)
unfolding locals_at
blob_locals source i m t within is has =
    let few = few_variables_at source i m t within is in
    let some = few_locals m few in
    let stands = subst (λ (b : List ℕ). Stands b (layout_of source).blobs.bytes (slice_index (layout_of source).blobs.offsets (locals_index i))) (some_blob m.locals.items has) (locals_stand source.plan.methods.items source.externs i m within is) in
    let read = ap (blob_at (md_for source)) (locals_cell source i m t.sound within is has) ∙ blob_read source (signatures.local_signature m.locals.items) _ t.sound (locals_short m.locals.items some) stands in
    ap (option_and_then (λ blob. faultless (local_signature blob))) read
    ∙ ap faultless (locals_back m.locals.items some (readable_at source i m t within is).locals)

token_some : (row : ℕ) (m : MethodPlan) → has_locals m ≡ true → locals_token row m ≡ token_of 17 row
token_some row m has = rw has refl

token_none : (row : ℕ) (m : MethodPlan) → has_locals m ≡ false → locals_token row m ≡ 0
token_none row m none = rw none refl

not_zero : (md : List ℕ) (row : ℕ) → locals_of md (token_of 17 row) ≡ option_and_then (locals_at md) (row_in md 17 (token_of 17 row))
unfolding locals_of
not_zero md row =
    let some : (17 * 2 ^ 24 + row == 0) ≡ false = grind arith in
    rw some refl

locals_by : (source : Linked) (i : ℕ) (m : MethodPlan) (has : Bool) → has_locals m ≡ has → IsTaken source → i < length source.plan.methods.items → get_or source.plan.methods.items i m ≡ m → length source.plan.methods.items < 2 ^ 24
    → locals_of (md_for source) (locals_token (locals_row source.plan.methods.items i) m) ≡ Some (Known m.locals.items)
unfolding locals_of
locals_by source i m true has t within is few =
    let row : ℕ = locals_row source.plan.methods.items i in
    let there = row_there 0 source.plan.methods.items i m within is has in
    let count = sig_count_is source t.sound in
    let small = few_rows source.plan.methods.items i within in
    ap (locals_of (md_for source)) (token_some row m has)
    ∙ not_zero (md_for source) row
    ∙ ap (option_and_then (locals_at (md_for source))) (row_named_by (md_for source) row (omega arith) (omega (arith, there, count)) (omega (arith, small, few, within)))
    ∙ blob_locals source i m t within is has
locals_by source i m false none t within is few =
    ap (locals_of (md_for source)) (token_none (locals_row source.plan.methods.items i) m none) ∙ ap (λ (ps : List Place). Some (Known ps)) (sym (no_items m.locals.items none))

-- The token of a method's body names its locals.
pub locals_are : (source : Linked) (i : ℕ) (m : MethodPlan) → IsTaken source → i < length source.plan.methods.items → get_or source.plan.methods.items i m ≡ m → length source.plan.methods.items < 2 ^ 24
    → locals_of (md_for source) (locals_token (locals_row source.plan.methods.items i) m) ≡ Some (Known m.locals.items)
locals_are source i m t within is few = locals_by source i m (has_locals m) refl t within is few
