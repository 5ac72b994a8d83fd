-- Rows that are written method by method, and how many they are.
use Rattle.std.proofs.Common.{◌≡◌, ℕ, zero, suc, ◌+◌, ◌∙◌, zero-add, List, [], ◌∷◌, ◌++◌, ◌<◌, length, get_or, take, append_assoc, Bool, true, false, refl, sym, ap, if◌then◌else◌, arith}
use Rattle.std.specs.List.{flat_map, range_with_len, sum_by}
use Rattle.std.proofs.lemmas.List.{append-nil, length-append}
use Rattle.std.proofs.lemmas.List.Sums.{sum_by-cons}
use Rattle.std.proofs.lemmas.Grind.{flat_map-append}
use Rattle.asm_writer.specs.declared.field.Field.{Field}
use Rattle.asm_writer.specs.declared.layout.Layout.{Layout}
use Rattle.asm_writer.specs.declared.plan.MethodPlan.{MethodPlan}
use Rattle.asm_writer.specs.declared.table.Table.{Table}
use Rattle.asm_writer.specs.declared.table.Table.TheVariants as tables
use Rattle.asm_writer.specs.Bodies.{locals_rows, has_locals}
use Rattle.asm_writer.specs.Each.{each_from}
use Rattle.asm_writer.specs.Layout.{rows_bytes}
use Rattle.asm_writer.specs.Rows.{rows_of_method, locals_fields, rows_of_extern, extern_rows}
use Rattle.asm_writer.proofs.EachLemmas.{each_more}

count_methods_from : (index : ℕ) (ms : List MethodPlan) → length (each_from index (rows_of_method tables.MethodDef) ms) ≡ length ms
unfolding each_from
count_methods_from index [] = refl
count_methods_from index (m ∷ ms) = ap suc (count_methods_from (index + 1) ms)

pub count_methods : (ms : List MethodPlan) → length ms ≡ length (each_from 0 (rows_of_method tables.MethodDef) ms)
count_methods ms = sym (count_methods_from 0 ms)

count_one : (index : ℕ) (m : MethodPlan) (has : Bool) → length {A = List Field} (if has then locals_fields index ∷ [] else []) ≡ (if has then 1 else 0)
count_one index m true = refl
count_one index m false = refl

count_locals_from : (index : ℕ) (ms : List MethodPlan) → length (each_from index (rows_of_method tables.StandAloneSig) ms) ≡ sum_by locals_rows ms
unfolding each_from locals_rows
count_locals_from index [] = refl
count_locals_from index (m ∷ ms) =
    let first = count_one index m (has_locals m) in
    let rest = count_locals_from (index + 1) ms in
    rw (length-append, first, rest, sum_by-cons) refl

pub count_locals : (ms : List MethodPlan) → sum_by locals_rows ms ≡ length (each_from 0 (rows_of_method tables.StandAloneSig) ms)
count_locals ms = sym (count_locals_from 0 ms)

pub rows_none : (l : Layout) (f : ℕ → MethodPlan → List (List Field)) (out : List ℕ) → out ≡ out ++ rows_bytes l (each_from 0 f [])
unfolding rows_bytes each_from
rows_none l f out = sym (append-nil out)

pub rows_more : (l : Layout) (f : ℕ → MethodPlan → List (List Field)) (out start : List ℕ) (ms : List MethodPlan) (i : ℕ) (m : MethodPlan) → i < length ms → m ≡ get_or ms i m
    → out ≡ start ++ rows_bytes l (each_from 0 f (take i ms))
    → out ++ rows_bytes l (f i m) ≡ start ++ rows_bytes l (each_from 0 f (take (i + 1) ms))
unfolding rows_bytes
rows_more l f out start ms i m lt is so_far =
    rw (so_far, each_more f ms i m lt is, flat_map-append, append_assoc) refl

-- ---- rows that are written extern by extern

pub externs_none : (l : Layout) (table : Table) (out : List ℕ) → out ≡ out ++ rows_bytes l (extern_rows table 0)
unfolding rows_bytes extern_rows
externs_none l table out = sym (append-nil out)

range_more : (from n : ℕ) → range_with_len from (suc n) ≡ range_with_len from n ++ (from + n) ∷ []
range_more from zero = let at : from ≡ from + 0 = omega arith in ap (λ (k : ℕ). k ∷ []) at
range_more from (suc n) =
    let at : from + 1 + n ≡ from + suc n = omega arith in
    ap (λ (ks : List ℕ). from ∷ ks) (range_more (from + 1) n) ∙ ap (λ (k : ℕ). from ∷ (range_with_len (from + 1) n ++ k ∷ [])) at

extern_more : (table : Table) (i : ℕ) → extern_rows table (i + 1) ≡ extern_rows table i ++ rows_of_extern table i
unfolding extern_rows
extern_more table i =
    let one : i + 1 ≡ suc i = omega arith in
    let more = ap (range_with_len 0) one ∙ range_more 0 i ∙ ap (λ (k : ℕ). range_with_len 0 i ++ k ∷ []) (zero-add i) in
    ap (flat_map (rows_of_extern table)) more
    ∙ flat_map-append (rows_of_extern table) (range_with_len 0 i) (i ∷ [])
    ∙ ap (λ (rows : List (List Field)). flat_map (rows_of_extern table) (range_with_len 0 i) ++ rows) (append-nil (rows_of_extern table i))

pub externs_more : (l : Layout) (table : Table) (out start : List ℕ) (i : ℕ) → out ≡ start ++ rows_bytes l (extern_rows table i)
    → out ++ rows_bytes l (rows_of_extern table i) ≡ start ++ rows_bytes l (extern_rows table (i + 1))
unfolding rows_bytes
externs_more l table out start i so_far = rw (so_far, extern_more table i, flat_map-append, append_assoc) refl

-- Rows, and those of externs after them.
pub rows_both : (l : Layout) (out : List ℕ) (rows more : List (List Field)) → out ++ rows_bytes l rows ++ rows_bytes l more ≡ out ++ rows_bytes l (rows ++ more)
unfolding rows_bytes
rows_both l out rows more = rw (flat_map-append, append_assoc) refl

count_extern_rows : (table : Table) (from n : ℕ) → ((i : ℕ) → length (rows_of_extern table i) ≡ 1) → length (flat_map (rows_of_extern table) (range_with_len from n)) ≡ n
count_extern_rows table from zero one = refl
count_extern_rows table from (suc n) one =
    let here = one from in
    let rest = count_extern_rows table (from + 1) n one in
    length-append (rows_of_extern table from) _ ∙ rw (here, rest) (omega arith)

-- Each of these tables has one row for each extern.
pub extern_types : (n : ℕ) → length (extern_rows tables.TypeRef n) ≡ n
unfolding extern_rows
extern_types n = count_extern_rows tables.TypeRef 0 n (λ (i : ℕ). refl)

pub extern_members : (n : ℕ) → length (extern_rows tables.MemberRef n) ≡ n
unfolding extern_rows
extern_members n = count_extern_rows tables.MemberRef 0 n (λ (i : ℕ). refl)

pub extern_assemblies : (n : ℕ) → length (extern_rows tables.AssemblyRef n) ≡ n
unfolding extern_rows
extern_assemblies n = count_extern_rows tables.AssemblyRef 0 n (λ (i : ℕ). refl)
