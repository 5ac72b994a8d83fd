-- The assembly that was written has no fault, and its methods are those of the plan.
use Rattle.std.proofs.Common.{◌≡◌, ℕ, zero, suc, ◌+◌, ◌^◌, ◌<◌, ◌≤◌, List, [], ◌∷◌, ◌++◌, length, map, get_or, Bool, true, false, not, ◌&&◌, Option, Some, None, Ok, refl, ap, ap₂, subst, ◌∙◌, arith, slice_index}
use Rattle.std.specs.Prelude.{codes, unwrap_or}
use Rattle.std.specs.List.{flat_map, range_with_len, AllByRecursion, list_all}
use Rattle.std.proofs.lemmas.Bool.{le-leb, leb-true}
use Rattle.cc_base.specs.Tests.{first_of}
use Rattle.cc_base.proofs.TestLemmas.{none_failed, first_of-nil, first_of-append_none}
use Rattle.metadata_tables.specs.Heaps.{string_at}
use Rattle.metadata_tables.specs.Layout.{cell}
use Rattle.metadata_tables.specs.Schema.{columns_of}
use Rattle.metadata_tables.specs.declared.schema.Column.TheVariants as columns
use Rattle.asm_image.specs.Cells.{type_count, method_count, method_list, signature_blob, signature_at, signature, owner_among, owner}
use Rattle.asm_image.specs.Faults.{list_test, least_list, type_tests, types_tests, signature_fault, signature_tests, method_tests, methods_tests}
use Rattle.asm_image.specs.Names.{short_name, printed_name}
use Rattle.asm_image.specs.Rows.{method_row as read_row, rows_of}
use Rattle.cil_model.specs.Limits.{MAX_CODE_BYTES, MAX_VARIABLES}
use Rattle.signature_blobs.specs.Signatures.{method_signature}
use Rattle.signature_blobs.specs.declared.method.SigTypes.TheVariants.{Known}
use Rattle.asm_writer.specs.declared.field.Field.{Field}
use Rattle.asm_writer.specs.declared.field.Field.TheVariants as fields
use Rattle.asm_writer.specs.declared.name.Name.{Name}
use Rattle.asm_writer.specs.declared.name.Name.TheVariants as names
use Rattle.asm_writer.specs.declared.number.Number.TheVariants.{Two, Four}
use Rattle.asm_writer.specs.Linked.{Linked}
use Rattle.asm_writer.specs.declared.plan.MethodPlan.{MethodPlan}
use Rattle.asm_writer.specs.declared.table.CodedIndex.TheVariants.{TypeDefOrRef}
use Rattle.asm_writer.specs.declared.table.Table.TheVariants as tables
use Rattle.asm_writer.specs.Bodies.{bodies}
use Rattle.asm_writer.specs.Each.{each_from}
use Rattle.asm_writer.specs.Layout.{layout_of, index, is_wide_heap, is_wide_index}
use Rattle.asm_writer.specs.Limits.{is_within}
use Rattle.asm_writer.specs.Names.{name_text}
use Rattle.asm_writer.specs.Numbers.{numbers_width}
use Rattle.asm_writer.specs.Rows.{method_flags, row_named, types}
use Rattle.written_assemblies.specs.Counts.{counts_of}
use Rattle.written_assemblies.specs.Methods.{written_name, body_rva, written_method, written_methods}
use Rattle.written_assemblies.specs.Readable.{IsReadable, IsReadableMethod}
use Rattle.written_assemblies.specs.Texts.{HasNoZero}
use Rattle.written_assemblies.proofs.PartLemmas.{stands_reach}
use Rattle.written_assemblies.proofs.MetadataLemmas.{counts_are}
use Rattle.written_assemblies.proofs.CellLemmas.{Says, index_says, cell_is}
use Rattle.written_assemblies.proofs.LayoutLemmas.{method_rows, name_stands, body_stands}
use Rattle.written_assemblies.proofs.BlobLemmas.{signature_back}
use Rattle.written_assemblies.proofs.MethodLemmas.{md_for, Sound, few_strings, type_row_stands, method_row_stands, text_read, name_read, signature_read, flags_cell, impl_flags_cell}

-- ---- the types

one_says : (wide : Bool) → Says (index wide 1) 1
one_says true = (refl, omega arith)
one_says false = (refl, omega arith)

-- The row of the class, and of what belongs to no class.
abbrev type_row : Name → Name → Field → List Field
type_row name space extends = fields.Plain (Four 0) ∷ fields.Strings name ∷ fields.Strings space ∷ extends ∷ fields.Row tables.Field 1 ∷ fields.Row tables.MethodDef 1 ∷ []

global_name : (source : Linked) → Sound source → string_at (md_for source) (cell (md_for source) 2 1 1) ≡ Some (codes "<Module>")
unfolding columns_of name_text
global_name source s =
    let l = layout_of source in
    let here = name_stands source names.Global 7 (omega arith) refl in
    let end = stands_reach _ _ _ here in
    let is = cell_is l source.plan.methods.items 2 1 (fields.Plain (Four 0) ∷ []) (fields.Strings names.Global)
    (fields.Strings names.Empty ∷ fields.Coded TypeDefOrRef tables.TypeDef 0 ∷ fields.Row tables.Field 1 ∷ fields.Row tables.MethodDef 1 ∷ []) columns.Strings _ s refl refl refl
    (type_row_stands source 0 (type_row names.Global names.Empty (fields.Coded TypeDefOrRef tables.TypeDef 0)) s (omega arith) refl)
    (index_says (is_wide_heap l.strings) _ (length l.strings.bytes) refl (omega (arith, end)) (few_strings source s)) in
    ap (string_at (md_for source)) is ∙ text_read source (codes "<Module>") _ s (refl, (refl, (refl, (refl, (refl, (refl, (refl, (refl, tt)))))))) here

no_namespace : (source : Linked) → Sound source → string_at (md_for source) (cell (md_for source) 2 1 2) ≡ Some []
unfolding columns_of name_text
no_namespace source s =
    let l = layout_of source in
    let here = name_stands source names.Empty 0 (omega arith) refl in
    let end = stands_reach _ _ _ here in
    let is = cell_is l source.plan.methods.items 2 1 (fields.Plain (Four 0) ∷ fields.Strings names.Global ∷ []) (fields.Strings names.Empty)
    (fields.Coded TypeDefOrRef tables.TypeDef 0 ∷ fields.Row tables.Field 1 ∷ fields.Row tables.MethodDef 1 ∷ []) columns.Strings _ s refl refl refl
    (type_row_stands source 0 (type_row names.Global names.Empty (fields.Coded TypeDefOrRef tables.TypeDef 0)) s (omega arith) refl)
    (index_says (is_wide_heap l.strings) _ (length l.strings.bytes) refl (omega (arith, end)) (few_strings source s)) in
    ap (string_at (md_for source)) is ∙ text_read source [] _ s tt here

class_name : (source : Linked) → Sound source → HasNoZero source.plan.class.items → string_at (md_for source) (cell (md_for source) 2 2 1) ≡ Some source.plan.class.items
unfolding columns_of name_text
class_name source s no_zero =
    let l = layout_of source in
    let here = name_stands source names.Class 16 (omega arith) refl in
    let end = stands_reach _ _ _ here in
    let is = cell_is l source.plan.methods.items 2 2 (fields.Plain (Four 0) ∷ []) (fields.Strings names.Class)
    (fields.Strings names.Namespace ∷ fields.Coded TypeDefOrRef tables.TypeRef (row_named names.Object types) ∷ fields.Row tables.Field 1 ∷ fields.Row tables.MethodDef 1 ∷ []) columns.Strings _ s refl refl refl
    (type_row_stands source 1 (type_row names.Class names.Namespace (fields.Coded TypeDefOrRef tables.TypeRef (row_named names.Object types))) s (omega arith) refl)
    (index_says (is_wide_heap l.strings) _ (length l.strings.bytes) refl (omega (arith, end)) (few_strings source s)) in
    ap (string_at (md_for source)) is ∙ text_read source source.plan.class.items _ s no_zero here

namespace_name : (source : Linked) → Sound source → HasNoZero source.plan.namespace.items → string_at (md_for source) (cell (md_for source) 2 2 2) ≡ Some source.plan.namespace.items
unfolding columns_of name_text
namespace_name source s no_zero =
    let l = layout_of source in
    let here = name_stands source names.Namespace 17 (omega arith) refl in
    let end = stands_reach _ _ _ here in
    let is = cell_is l source.plan.methods.items 2 2 (fields.Plain (Four 0) ∷ fields.Strings names.Class ∷ []) (fields.Strings names.Namespace)
    (fields.Coded TypeDefOrRef tables.TypeRef (row_named names.Object types) ∷ fields.Row tables.Field 1 ∷ fields.Row tables.MethodDef 1 ∷ []) columns.Strings _ s refl refl refl
    (type_row_stands source 1 (type_row names.Class names.Namespace (fields.Coded TypeDefOrRef tables.TypeRef (row_named names.Object types))) s (omega arith) refl)
    (index_says (is_wide_heap l.strings) _ (length l.strings.bytes) refl (omega (arith, end)) (few_strings source s)) in
    ap (string_at (md_for source)) is ∙ text_read source source.plan.namespace.items _ s no_zero here

first_list : (source : Linked) → Sound source → cell (md_for source) 2 1 5 ≡ 1
unfolding columns_of
first_list source s =
    let l = layout_of source in
    cell_is l source.plan.methods.items 2 1 (fields.Plain (Four 0) ∷ fields.Strings names.Global ∷ fields.Strings names.Empty ∷ fields.Coded TypeDefOrRef tables.TypeDef 0 ∷ fields.Row tables.Field 1 ∷ []) (fields.Row tables.MethodDef 1)
    [] (columns.Row 6) 1 s refl refl refl
    (type_row_stands source 0 (type_row names.Global names.Empty (fields.Coded TypeDefOrRef tables.TypeDef 0)) s (omega arith) refl)
    (one_says (is_wide_index l (tables.MethodDef ∷ []) 0))

second_list : (source : Linked) → Sound source → cell (md_for source) 2 2 5 ≡ 1
unfolding columns_of
second_list source s =
    let l = layout_of source in
    cell_is l source.plan.methods.items 2 2 (fields.Plain (Four 0) ∷ fields.Strings names.Class ∷ fields.Strings names.Namespace ∷ fields.Coded TypeDefOrRef tables.TypeRef (row_named names.Object types) ∷ fields.Row tables.Field 1 ∷ []) (fields.Row tables.MethodDef 1)
    [] (columns.Row 6) 1 s refl refl refl
    (type_row_stands source 1 (type_row names.Class names.Namespace (fields.Coded TypeDefOrRef tables.TypeRef (row_named names.Object types))) s (omega arith) refl)
    (one_says (is_wide_index l (tables.MethodDef ∷ []) 0))

type_count_is : (source : Linked) → Sound source → type_count (md_for source) ≡ 2
unfolding counts_of
type_count_is source s = ap (λ (counts : List ℕ). slice_index counts 2) (counts_are (layout_of source) source.plan.methods.items s)

method_count_is : (source : Linked) → Sound source → method_count (md_for source) ≡ length source.plan.methods.items
unfolding counts_of
method_count_is source s = ap (λ (counts : List ℕ). slice_index counts 6) (counts_are (layout_of source) source.plan.methods.items s) ∙ method_rows source.plan.methods.items (length source.externs)

-- The tests of both types.
list_passes : (md : List ℕ) (base row least : ℕ) → least_list md row ≡ 1 → method_list md row ≡ 1 → list_test md base row ≡ None
list_passes md base row least p q = rw (p, q, le-leb 1 (method_count md + 1) (omega arith)) refl

types_pass : (source : Linked) (base : ℕ) → Sound source → IsReadable source.plan → first_of (types_tests (md_for source) base) ≡ None
unfolding types_tests type_tests
types_pass source base s readable =
    let md = md_for source in
    rw (type_count_is source s)
    ((none_failed (flat_map (type_tests md base) (range_with_len 1 2))).1 (
      rw (global_name source s) refl,
      (
        rw (no_namespace source s) refl,
        (
          list_passes md base 1 1 refl (first_list source s),
          (rw (class_name source s readable.class) refl, (rw (namespace_name source s readable.namespace) refl, (list_passes md base 2 1 (first_list source s) (second_list source s), tt))),
        ),
      ),
    ))

-- ---- the methods

-- What holds of each of a list, and one of them.
pub at_index : {X : Type 0} (P : X → Type 0) (xs : List X) (i : ℕ) (x : X) → AllByRecursion P xs → i < length xs → get_or xs i x ≡ x → P x
at_index P [] i x all within is = absurd (omega (arith, within))
at_index P (y ∷ ys) zero x all within is = subst P is all.0
at_index P (y ∷ ys) (suc i) x all within is = at_index P ys i x all.1 (omega (arith, within)) is

pub record IsAt {X : Type 0} (xs : List X) (i : ℕ) : Type 0 where
  pub item : X
  pub is : get_or xs i item ≡ item

found : {X : Type 0} (xs : List X) (i : ℕ) → i < length xs → IsAt xs i
found [] i within = absurd (omega (arith, within))
found (x ∷ xs) zero within = record { item = x; is = refl }
found (x ∷ xs) (suc i) within = let rest = found xs i (omega (arith, within)) in record { item = rest.item; is = rest.is }

and_left : (a b : Bool) → (a && b) ≡ true → a ≡ true
and_left true b both = refl
and_left false b both = both

and_right : (a b : Bool) → (a && b) ≡ true → b ≡ true
and_right true b both = both
and_right false b both = absurd cc

each_within : (ms : List MethodPlan) → list_all is_within ms ≡ true → AllByRecursion (λ m. is_within m ≡ true) ms
each_within [] all = tt
each_within (m ∷ ms) all =
    (and_left (is_within m) (list_all is_within ms) all, each_within ms (and_right (is_within m) (list_all is_within ms) all))

few_variables : (m : MethodPlan) → is_within m ≡ true → length m.args.items + length m.locals.items + m.max_stack ≤ MAX_VARIABLES
unfolding is_within
few_variables m within = leb-true _ _ (and_right _ _ within)

-- What is known of a plan that was taken.
pub record IsTaken (source : Linked) : Type 0 where
  pub sound : Sound source
  pub readable : IsReadable source.plan
  pub within : list_all is_within source.plan.methods.items ≡ true
  pub few : length (bodies source.plan.methods.items).bytes < 2 ^ 31

pub few_variables_at : (source : Linked) (i : ℕ) (m : MethodPlan) → IsTaken source → i < length source.plan.methods.items → get_or source.plan.methods.items i m ≡ m → length m.args.items + length m.locals.items + m.max_stack ≤ MAX_VARIABLES
few_variables_at source i m t within is = few_variables m (at_index (λ n. is_within n ≡ true) source.plan.methods.items i m (each_within source.plan.methods.items t.within) within is)

few_code : (m : MethodPlan) → is_within m ≡ true → length m.code.items ≤ MAX_CODE_BYTES
unfolding is_within
few_code m within = leb-true _ _ (and_left _ _ within)

pub few_code_at : (source : Linked) (i : ℕ) (m : MethodPlan) → IsTaken source → i < length source.plan.methods.items → get_or source.plan.methods.items i m ≡ m → length m.code.items ≤ MAX_CODE_BYTES
few_code_at source i m t within is = few_code m (at_index (λ n. is_within n ≡ true) source.plan.methods.items i m (each_within source.plan.methods.items t.within) within is)

few_args : (source : Linked) (i : ℕ) (m : MethodPlan) → IsTaken source → i < length source.plan.methods.items → get_or source.plan.methods.items i m ≡ m → length m.args.items ≤ MAX_VARIABLES
few_args source i m t within is = let few = few_variables_at source i m t within is in omega (arith, few)

pub readable_at : (source : Linked) (i : ℕ) (m : MethodPlan) → IsTaken source → i < length source.plan.methods.items → get_or source.plan.methods.items i m ≡ m → IsReadableMethod m
readable_at source i m t within is = at_index IsReadableMethod source.plan.methods.items i m t.readable.methods within is

-- The signature of the method of a list index.
blob_is : (source : Linked) (i : ℕ) (m : MethodPlan) → IsTaken source → i < length source.plan.methods.items → get_or source.plan.methods.items i m ≡ m
    → method_signature (signature_blob (md_for source) (i + 1)) ≡ Ok (record { has_this = not m.is_static; generic = false; types = Known (record { result = m.result; args = m.args.items }) })
blob_is source i m t within is =
    ap (λ (found : Option (List ℕ)). method_signature (unwrap_or found [])) (signature_read source i m t.sound within is (few_args source i m t within is))
    ∙ signature_back m (few_args source i m t within is) (readable_at source i m t within is).args

method_passes : (source : Linked) (base i : ℕ) (m : MethodPlan) → IsTaken source → i < length source.plan.methods.items → get_or source.plan.methods.items i m ≡ m → first_of (method_tests (md_for source) base (i + 1)) ≡ None
unfolding method_tests signature_tests
method_passes source base i m t within is =
    (none_failed (method_tests (md_for source) base (i + 1))).1 (
      rw (name_read source i m t.sound within is (readable_at source i m t within is).name) refl,
      (
        rw (signature_read source i m t.sound within is (few_args source i m t within is)) refl,
        (ap (signature_fault (base + signature_at (md_for source) (i + 1))) (blob_is source i m t within is), tt),
      ),
    )

each_passes : {F : Type 0} (tests : ℕ → List (Option F)) (from count : ℕ) → ((i : ℕ) → i < count → first_of (tests (from + i)) ≡ None) → first_of (flat_map tests (range_with_len from count)) ≡ None
each_passes tests from zero each = first_of-nil
each_passes tests from (suc count) each =
    let same : from + 0 ≡ from = omega arith in
    let first = subst (λ (k : ℕ). first_of (tests k) ≡ None) same (each 0 (omega arith)) in
    first_of-append_none _ _ first
    ∙ each_passes tests (from + 1) count (λ i within. let next : from + suc i ≡ from + 1 + i = omega arith in subst (λ (k : ℕ). first_of (tests k) ≡ None) next (each (suc i) (omega (arith, within))))

methods_pass : (source : Linked) (base : ℕ) → IsTaken source → first_of (methods_tests (md_for source) base) ≡ None
unfolding methods_tests
methods_pass source base t =
    rw (method_count_is source t.sound)
    (each_passes (method_tests (md_for source) base) 1 (length source.plan.methods.items) (λ i within.
    let here = found source.plan.methods.items i within in
    let same : 1 + i ≡ i + 1 = omega arith in
    rw same (method_passes source base i here.item t within here.is)))

pub rows_pass : (source : Linked) (base : ℕ) → IsTaken source → first_of (types_tests (md_for source) base ++ methods_tests (md_for source) base) ≡ None
rows_pass source base t = first_of-append_none _ _ (types_pass source base t.sound t.readable) ∙ methods_pass source base t

-- ---- what is read of them

owner_is : (source : Linked) (i : ℕ) → Sound source → owner (md_for source) (i + 1) ≡ 2
unfolding owner owner_among
owner_is source i s = rw (type_count_is source s) (rw (second_list source s, le-leb 1 (i + 1) (omega arith)) refl)

rva_cell : (source : Linked) (i : ℕ) (m : MethodPlan) → IsTaken source → i < length source.plan.methods.items → get_or source.plan.methods.items i m ≡ m
    → cell (md_for source) 6 (i + 1) 0 ≡ body_rva source.plan i
unfolding columns_of body_rva numbers_width
rva_cell source i m t within is =
    let end = stands_reach _ _ _ (body_stands source.plan.methods.items i m within is) in
    let few = t.few in
    cell_is (layout_of source) source.plan.methods.items 6 (i + 1) [] (fields.MethodBody i)
    (fields.Plain (Two 0) ∷ fields.Plain (Two (method_flags m.is_static)) ∷ fields.MethodName i ∷ fields.MethodSignature i ∷ fields.Row tables.Param 1 ∷ []) columns.Four _ t.sound refl refl refl (method_row_stands source i m t.sound within is)
    (refl, omega (arith, end, few))

printed_is : (source : Linked) (i : ℕ) (m : MethodPlan) → IsTaken source → i < length source.plan.methods.items → get_or source.plan.methods.items i m ≡ m
    → printed_name (md_for source) (i + 1) ≡ written_name source.plan m
unfolding printed_name short_name signature written_name
printed_is source i m t within is =
    let name = name_read source i m t.sound within is (readable_at source i m t within is).name in
    let class = class_name source t.sound t.readable.class in
    let space = namespace_name source t.sound t.readable.namespace in
    let sig = blob_is source i m t within is in
    rw (owner_is source i t.sound, sig) (rw (name, class, space) refl)

row_is : (source : Linked) (i : ℕ) (m : MethodPlan) → IsTaken source → i < length source.plan.methods.items → get_or source.plan.methods.items i m ≡ m
    → read_row (md_for source) (i + 1) ≡ written_method source.plan i m
unfolding read_row written_method signature
row_is source i m t within is =
    let name = printed_is source i m t within is in
    let flags = flags_cell source i m t.sound within is in
    let impl = impl_flags_cell source i m t.sound within is in
    let rva = rva_cell source i m t within is in
    let sig = blob_is source i m t within is in
    rw (name, flags, impl, rva, sig) refl

rows_same : {X : Type 0} (g : ℕ → X) (f : ℕ → MethodPlan → X) (index : ℕ) (ms : List MethodPlan)
    → ((i : ℕ) (m : MethodPlan) → i < length ms → get_or ms i m ≡ m → g (index + i + 1) ≡ f (index + i) m)
    → map g (range_with_len (index + 1) (length ms)) ≡ each_from index (λ k m. f k m ∷ []) ms
unfolding each_from
rows_same g f index [] each = refl
rows_same g f index (m ∷ ms) each =
    let same : index + 0 ≡ index = omega arith in
    let first : g (index + 1) ≡ f index m = subst (λ (k : ℕ). g (k + 1) ≡ f k m) same (each 0 m (omega arith) refl) in
    let rest = rows_same g f (index + 1) ms (λ i n within is. let next : index + suc i ≡ index + 1 + i = omega arith in subst (λ (k : ℕ). g (k + 1) ≡ f k n) next (each (suc i) n (omega (arith, within)) is)) in
    ap₂ (λ x xs. x ∷ xs) first rest

pub methods_are : (source : Linked) → IsTaken source → rows_of (md_for source) ≡ written_methods source.plan
unfolding rows_of written_methods
methods_are source t =
    ap (λ (n : ℕ). map (read_row (md_for source)) (range_with_len 1 n)) (method_count_is source t.sound)
    ∙ rows_same (read_row (md_for source)) (written_method source.plan) 0 source.plan.methods.items (λ i m within is.
    let same : 0 + i ≡ i = omega arith in
    rw same (row_is source i m t within is))
