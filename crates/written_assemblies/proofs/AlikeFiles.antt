-- Plans that have one value have one file.
use Rattle.std.proofs.Common.{◌≡◌, ℕ, zero, suc, ◌+◌, List, [], ◌∷◌, ◌++◌, map, length, take, Bool, refl, sym, ap, ◌∙◌, if◌then◌else◌}
use mathlib.Core.Path.{fun_ext}
use Rattle.std.specs.Prelude.{codes}
use Rattle.std.specs.List.{flat_map, sum_by}
use Rattle.std.specs.Str.{bytes_eq}
use Rattle.std.proofs.lemmas.List.{length-map}
use Rattle.cc_base.specs.Tokens.{token_of}
use Rattle.std.proofs.lemmas.List.Sums.{sum_by-cons}
use Rattle.asm_writer.specs.declared.layout.Layout.{Layout}
use Rattle.asm_writer.specs.declared.plan.AsmPlan.{AsmPlan}
use Rattle.asm_writer.specs.declared.plan.MethodPlan.{MethodPlan}
use Rattle.asm_writer.specs.declared.table.Table.{Table}
use Rattle.asm_writer.specs.declared.table.Table.TheVariants as tables
use Rattle.asm_writer.specs.declared.field.Field.TheVariants as fields
use Rattle.asm_writer.specs.declared.name.ExternPart.TheVariants as parts
use Rattle.asm_writer.specs.declared.name.Name.{Name}
use Rattle.asm_writer.specs.declared.name.Name.TheVariants as names
use Rattle.asm_writer.specs.declared.number.Number.TheVariants.{Two, Four}
use Rattle.asm_writer.specs.Assembly.{section, section_of, linked_bytes, assembly_bytes}
use Rattle.asm_writer.specs.Blobs.{blob_heap, blob_item, cited_blobs, method_blob_items}
use Rattle.asm_writer.specs.Bodies.{bodies, body, body_item, has_items, locals_row, locals_rows}
use Rattle.asm_writer.specs.Each.{each_from}
use Rattle.asm_writer.specs.Headers.{headers}
use Rattle.asm_writer.specs.Layout.{layout_of, rows_bytes}
use Rattle.asm_writer.specs.Linked.{alone}
use Rattle.asm_writer.specs.Metadata.{joined, metadata, root, root_size, streams}
use Rattle.asm_writer.specs.Names.{cited_names, extern_name_index, method_name_item, name_index, name_item, name_text, own_name_index, own_name_items, strings_heap, zero_ended}
use Rattle.asm_writer.specs.Numbers.{numbers_bytes, numbers_width}
use Rattle.asm_writer.specs.Packing.{packed, filled}
use Rattle.asm_writer.specs.Padding.{fill, padded}
use Rattle.asm_writer.specs.Plans.{Method, Plan, method_value, value}
use Rattle.asm_writer.specs.Rows.{locals_fields, method_flags, rows_of_method, table_rows}
use Rattle.asm_writer.specs.Signatures.{blob, compressed, convention, local_blob, signature, signature_blob, type_bytes}
use Rattle.asm_writer.specs.Stream.{count_bytes, stream_numbers, tables_stream}
use Rattle.asm_writer.specs.Tables.{all_tables, table_number}

-- ---- lists of methods of one value

abbrev Alike : List MethodPlan → List MethodPlan → Type 0
Alike ms ns = map method_value ms ≡ map method_value ns

-- What is made of a method by its value alone.
abbrev ByValue : {X : Type 0} → (MethodPlan → X) → Type 0
ByValue {X} f = (m n : MethodPlan) → method_value m ≡ method_value n → f m ≡ f n

first_alike : (m n : MethodPlan) (ms ns : List MethodPlan) → Alike (m ∷ ms) (n ∷ ns) → method_value m ≡ method_value n
first_alike m n ms ns e = cc

rest_alike : (m n : MethodPlan) (ms ns : List MethodPlan) → Alike (m ∷ ms) (n ∷ ns) → Alike ms ns
rest_alike m n ms ns e = cc

map_alike : {X : Type 0} (f : MethodPlan → X) → ByValue f → (ms ns : List MethodPlan) → Alike ms ns
    → map f ms ≡ map f ns
map_alike f by [] [] e = refl
map_alike f by (m ∷ ms) (n ∷ ns) e = rw (by m n (first_alike m n ms ns e), map_alike f by ms ns (rest_alike m n ms ns e)) refl
map_alike f by [] (n ∷ ns) e = absurd cc
map_alike f by (m ∷ ms) [] e = absurd cc

flat_map_alike : {X : Type 0} (f : MethodPlan → List X) → ByValue f → (ms ns : List MethodPlan) → Alike ms ns
    → flat_map f ms ≡ flat_map f ns
flat_map_alike f by [] [] e = refl
flat_map_alike f by (m ∷ ms) (n ∷ ns) e = rw (by m n (first_alike m n ms ns e), flat_map_alike f by ms ns (rest_alike m n ms ns e)) refl
flat_map_alike f by [] (n ∷ ns) e = absurd cc
flat_map_alike f by (m ∷ ms) [] e = absurd cc

sum_alike : (f : MethodPlan → ℕ) → ByValue f → (ms ns : List MethodPlan) → Alike ms ns → sum_by f ms ≡ sum_by f ns
sum_alike f by [] [] e = refl
sum_alike f by (m ∷ ms) (n ∷ ns) e = rw (sum_by-cons, sum_by-cons, by m n (first_alike m n ms ns e), sum_alike f by ms ns (rest_alike m n ms ns e)) refl
sum_alike f by [] (n ∷ ns) e = absurd cc
sum_alike f by (m ∷ ms) [] e = absurd cc

take_alike : (k : ℕ) (ms ns : List MethodPlan) → Alike ms ns → Alike (take k ms) (take k ns)
take_alike zero ms ns e = refl
take_alike (suc k) [] [] e = refl
take_alike (suc k) (m ∷ ms) (n ∷ ns) e = rw (first_alike m n ms ns e, take_alike k ms ns (rest_alike m n ms ns e)) refl
take_alike (suc k) [] (n ∷ ns) e = absurd cc
take_alike (suc k) (m ∷ ms) [] e = absurd cc

-- Two ways of making something of a method and its index agree on methods of one value.
abbrev Agree : {X : Type 0} → (f g : ℕ → MethodPlan → List X) → Type 0
Agree f g = (index : ℕ) (m n : MethodPlan) → method_value m ≡ method_value n → f index m ≡ g index n

each_alike : {X : Type 0} (f g : ℕ → MethodPlan → List X) → Agree f g → (index : ℕ) (ms ns : List MethodPlan)
    → Alike ms ns → each_from index f ms ≡ each_from index g ns
unfolding each_from
each_alike f g by index [] [] e = refl
each_alike f g by index (m ∷ ms) (n ∷ ns) e = rw (by index m n (first_alike m n ms ns e), each_alike f g by (index + 1) ms ns (rest_alike m n ms ns e)) refl
each_alike f g by index [] (n ∷ ns) e = absurd cc
each_alike f g by index (m ∷ ms) [] e = absurd cc

-- ---- parts of the file

name_alike : ByValue method_name_item
name_alike m n e = ap (λ (v : Method). zero_ended v.name) e

abbrev blobs_of : Method → List (List ℕ)
blobs_of v =
    blob (convention v.is_static ∷ compressed (length v.args) ++ type_bytes v.result ++ flat_map type_bytes v.args)
    ∷ local_blob v.locals ∷ []

blobs_alike : ByValue method_blob_items
unfolding signature_blob signature
blobs_alike m n e = ap blobs_of e

rows_alike : ByValue locals_rows
unfolding locals_rows
rows_alike m n e = ap (λ (v : Method). if has_items v.locals then 1 else 0) e

locals_row_alike : (ms ns : List MethodPlan) (index : ℕ) → Alike ms ns → locals_row ms index ≡ locals_row ns index
locals_row_alike ms ns index e = ap (λ (n : ℕ). n + 1) (sum_alike locals_rows rows_alike (take index ms) (take index ns) (take_alike index ms ns e))

abbrev body_of : ℕ → Method → List ℕ
body_of row v =
    let header = Two 0x3013 ∷ Two v.max_stack ∷ Four (length v.code) ∷ Four (if has_items v.locals then token_of (table_number tables.StandAloneSig) row else 0) ∷ [] in
    numbers_bytes header ++ v.code ++ fill 4 (numbers_width header + length v.code)

body_alike : (row : ℕ) (m n : MethodPlan) → method_value m ≡ method_value n → body row m ≡ body row n
unfolding body
body_alike row m n e = ap (body_of row) e

bodies_alike : (ms ns : List MethodPlan) → Alike ms ns → bodies ms ≡ bodies ns
unfolding bodies
bodies_alike ms ns e =
    ap packed
    (each_alike (body_item ms) (body_item ns)
    (λ (index : ℕ) (m n : MethodPlan) (same : method_value m ≡ method_value n). ap (λ (row : ℕ). body row m ∷ []) (locals_row_alike ms ns index e) ∙ ap (λ (b : List ℕ). b ∷ []) (body_alike (locals_row ns index) m n same))
    0 ms ns e)

method_rows_alike : Agree (rows_of_method tables.MethodDef) (rows_of_method tables.MethodDef)
method_rows_alike index m n e =
    ap (λ (v : Method). (fields.MethodBody index ∷ fields.Plain (Two 0) ∷ fields.Plain (Two (method_flags v.is_static)) ∷ fields.MethodName index ∷ fields.MethodSignature index ∷ fields.Row tables.Param 1 ∷ []) ∷ []) e

locals_rows_alike : Agree (rows_of_method tables.StandAloneSig) (rows_of_method tables.StandAloneSig)
locals_rows_alike index m n e = ap (λ (v : Method). if has_items v.locals then locals_fields index ∷ [] else []) e

table_rows_alike : (ms ns : List MethodPlan) (externs : ℕ) → Alike ms ns → (table : Table) → table_rows ms externs table ≡ table_rows ns externs table
table_rows_alike ms ns externs e tables.MethodDef = each_alike _ _ method_rows_alike 0 ms ns e
table_rows_alike ms ns externs e tables.StandAloneSig = each_alike _ _ locals_rows_alike 0 ms ns e
table_rows_alike ms ns externs e tables.Module = refl
table_rows_alike ms ns externs e tables.TypeRef = refl
table_rows_alike ms ns externs e tables.TypeDef = refl
table_rows_alike ms ns externs e tables.Field = refl
table_rows_alike ms ns externs e tables.Param = refl
table_rows_alike ms ns externs e tables.MemberRef = refl
table_rows_alike ms ns externs e tables.ModuleRef = refl
table_rows_alike ms ns externs e tables.TypeSpec = refl
table_rows_alike ms ns externs e tables.Assembly = refl
table_rows_alike ms ns externs e tables.AssemblyRef = refl
table_rows_alike ms ns externs e tables.MethodSpec = refl

stream_alike : (l : Layout) (ms ns : List MethodPlan) → Alike ms ns → tables_stream l ms ≡ tables_stream l ns
unfolding tables_stream
stream_alike l ms ns e =
    ap (λ (rows : List ℕ). padded 4 (numbers_bytes (stream_numbers l) ++ flat_map (count_bytes l) all_tables ++ rows))
    (ap (λ (f : Table → List ℕ). flat_map f all_tables) (fun_ext (λ (table : Table). ap (rows_bytes l) (table_rows_alike ms ns l.externs e table))))

metadata_alike : (l : Layout) (ms ns : List MethodPlan) → Alike ms ns → metadata l ms ≡ metadata l ns
unfolding metadata
metadata_alike l ms ns e =
    ap (λ (stream : List ℕ). let all = streams stream l in root (root_size all) all ++ (joined (root_size all) all).bytes) (stream_alike l ms ns e)

names_of : (p q : AsmPlan) → value p ≡ value q → (name : Name) → name_text p name ≡ name_text q name
unfolding name_text
names_of p q e names.Empty = refl
names_of p q e names.Object = refl
names_of p q e names.System = refl
names_of p q e names.Int32 = refl
names_of p q e names.Boolean = refl
names_of p q e names.Contract = refl
names_of p q e names.Contracts = refl
names_of p q e names.Global = refl
names_of p q e names.Requires = refl
names_of p q e names.Ensures = refl
names_of p q e names.Assert = refl
names_of p q e names.Assume = refl
names_of p q e names.EndContractBlock = refl
names_of p q e names.Result = refl
names_of p q e names.OldValue = refl
names_of p q e names.Mscorlib = refl
names_of p q e names.Class = ap (λ (v : Plan). v.class) e
names_of p q e names.Namespace = ap (λ (v : Plan). v.namespace) e
names_of p q e names.File = ap (λ (v : Plan). v.class ++ codes ".dll") e

own_name_alike : (p q : AsmPlan) → value p ≡ value q → own_name_items p p.class.items ≡ own_name_items q q.class.items
unfolding own_name_items
own_name_alike p q e = ap (λ (v : Plan). if bytes_eq v.class v.class then [] else zero_ended v.class ∷ []) e

methods_long : (ms : List MethodPlan) → length ms ≡ length (map method_value ms)
methods_long ms = sym (length-map ms method_value)

own_index_alike : (p q : AsmPlan) → value p ≡ value q → own_name_index (alone p) ≡ own_name_index (alone q)
unfolding own_name_index
own_index_alike p q e =
    let long : length p.methods.items ≡ length q.methods.items = methods_long p.methods.items ∙ ap (λ (v : Plan). length v.methods) e ∙ sym (methods_long q.methods.items) in
    ap (λ (v : Plan). if bytes_eq v.class v.class then name_index names.Class else extern_name_index (length p.methods.items) 0 parts.Assembly) e
    ∙ ap (λ (n : ℕ). if bytes_eq q.class.items q.class.items then name_index names.Class else extern_name_index n 0 parts.Assembly) long

strings_alike : (p q : AsmPlan) → value p ≡ value q → strings_heap (alone p) ≡ strings_heap (alone q)
unfolding strings_heap
strings_alike p q e =
    let cited = ap (λ (f : Name → List ℕ). map f cited_names) (fun_ext (λ (name : Name). ap zero_ended (names_of p q e name))) in
    let own = map_alike method_name_item name_alike p.methods.items q.methods.items (ap (λ (v : Plan). v.methods) e) in
    ap (λ (items : List (List ℕ)). filled (packed items))
    (ap (λ (prefix : List (List ℕ)). prefix ++ map method_name_item p.methods.items ++ [] ++ own_name_items p p.class.items) cited
    ∙ ap (λ (rest : List (List ℕ)). map (name_item q) cited_names ++ rest ++ [] ++ own_name_items p p.class.items) own
    ∙ ap (λ (last : List (List ℕ)). map (name_item q) cited_names ++ map method_name_item q.methods.items ++ [] ++ last) (own_name_alike p q e))

blob_heap_alike : (ms ns : List MethodPlan) → Alike ms ns → blob_heap ms [] ≡ blob_heap ns []
unfolding blob_heap
blob_heap_alike ms ns e =
    ap (λ (own : List (List ℕ)). filled (packed (map blob_item cited_blobs ++ own ++ []))) (flat_map_alike method_blob_items blobs_alike ms ns e)

layout_alike : (p q : AsmPlan) → value p ≡ value q → layout_of (alone p) ≡ layout_of (alone q)
layout_alike p q e =
    let own = ap (λ (v : Plan). v.methods) e in
    let ms = p.methods.items in
    let ns = q.methods.items in
    rw (strings_alike p q e, blob_heap_alike ms ns own, bodies_alike ms ns own, table_rows_alike ms ns 0 own tables.MethodDef, table_rows_alike ms ns 0 own tables.StandAloneSig, own_index_alike p q e) refl

section_alike : (p q : AsmPlan) → value p ≡ value q → section_of (alone p) ≡ section_of (alone q)
section_alike p q e =
    ap (λ (l : Layout). section l.bodies.bytes (metadata l p.methods.items)) (layout_alike p q e)
    ∙ ap (section (layout_of (alone q)).bodies.bytes) (metadata_alike (layout_of (alone q)) p.methods.items q.methods.items (ap (λ (v : Plan). v.methods) e))

-- Plans of one value have one file.
pub file_alike : (p q : AsmPlan) → value p ≡ value q → assembly_bytes p ≡ assembly_bytes q
unfolding assembly_bytes linked_bytes
file_alike p q e =
    ap (λ (wide : Bool). headers wide (length (section_of (alone p))) ++ section_of (alone p)) (ap (λ (v : Plan). v.wide) e)
    ∙ ap (λ (part : List ℕ). headers q.wide (length part) ++ part) (section_alike p q e)
