-- What is generated is small enough to be written and read.
use Rattle.std.proofs.Common.{◌≡◌, ℕ, zero, suc, ◌+◌, ◌*◌, ◌≤◌, ◌<◌, List, [], ◌∷◌, ◌++◌, map, length, Bool, true, false, refl, sym, ap, subst, ◌∙◌, arith, if◌then◌else◌, ◌&&◌}
use Rattle.std.specs.Prelude.{codes, nat_lt, ◌/◌, ◌%◌}
use Rattle.std.specs.Bool.{IsTrue}
use Rattle.std.specs.Fmt.{decimal}
use Rattle.std.specs.Str.{bytes_eq}
use Rattle.std.specs.List.{AllByRecursion, flat_map, list_all, range_with_len, sum_by}
use Rattle.std.proofs.lemmas.Bool.{le-leb}
use Rattle.std.proofs.lemmas.Fmt.{length-decimal-le}
use Rattle.std.proofs.lemmas.List.{length-append, length-map}
use Rattle.std.proofs.lemmas.List.Sums.{sum_by-cons, sum_by-append}
use Rattle.cil_model.specs.Limits.{MAX_CODE_BYTES, MAX_FILE_BYTES, MAX_VARIABLES}
use Rattle.cil_model.specs.declared.place.Place.{Place}
use Rattle.cil_model.specs.declared.place.Place.TheVariants as places
use Rattle.asm_writer.specs.declared.field.Field.{Field}
use Rattle.asm_writer.specs.declared.field.Field.TheVariants as fields
use Rattle.asm_writer.specs.declared.layout.Layout.{Layout}
use Rattle.asm_writer.specs.declared.name.Name.{Name}
use Rattle.asm_writer.specs.declared.name.Name.TheVariants as names
use Rattle.asm_writer.specs.declared.number.Number.TheVariants.{Four}
use Rattle.asm_writer.specs.declared.plan.AsmPlan.{AsmPlan}
use Rattle.asm_writer.specs.declared.plan.MethodPlan.{MethodPlan}
use Rattle.asm_writer.specs.declared.table.Table.{Table}
use Rattle.asm_writer.specs.declared.table.Table.TheVariants as tables
use Rattle.asm_writer.specs.declared.template.Template.{Template}
use Rattle.asm_writer.specs.declared.template.Template.TheVariants as templates
use Rattle.asm_writer.specs.Blobs.{blob_item, blob_items, cited_blobs, method_blob_items}
use Rattle.asm_writer.specs.Bodies.{has_locals}
use Rattle.asm_writer.specs.Each.{each_from}
use Rattle.asm_writer.specs.Generator.{constant_of, generated, method_at, methods_from, next, token_at}
use Rattle.asm_writer.specs.Headers.{cli_header_size, file_alignment, section_header}
use Rattle.asm_writer.specs.Layout.{index, layout_of}
use Rattle.asm_writer.specs.Limits.{is_within}
use Rattle.asm_writer.specs.Linked.{alone}
use Rattle.asm_writer.specs.Metadata.{root_size}
use Rattle.asm_writer.specs.Names.{cited_names, method_name_item, name_item, name_text, own_name_items, string_items, zero_ended}
use Rattle.asm_writer.specs.Numbers.{number_width, numbers_bytes, numbers_width}
use Rattle.asm_writer.specs.Padding.{round_up}
use Rattle.asm_writer.specs.Plans.{Method, Plan, method_value, value}
use Rattle.asm_writer.specs.Rows.{fixed_rows, extern_rows, rows_of_extern, rows_of_method}
use Rattle.asm_writer.specs.Signatures.{blob, compressed, local_blob, local_signature, signature, signature_blob, type_bytes}
use Rattle.asm_writer.specs.Sizes.{bodies_size, body_size, count_size, field_width, file_size, fits, linked_fits, linked_size, headers_size, items_size, metadata_size, row_width, rows_width, section_size, table_size, tables_size}
use Rattle.asm_writer.specs.Stream.{stream_numbers, tables_stream}
use Rattle.asm_writer.specs.Tables.{all_tables}
use Rattle.asm_writer.specs.Templates.{args_of, array_sum_code, bad_code, code_of, constant_code, div_code, fill_code, locals_of, sum_code, template_of}
use Rattle.asm_writer.proofs.MetadataLemmas.{length_root}
use Rattle.asm_writer.proofs.Rounding.{rounded_below}

-- ---- sums

sums_below : {X : Type 0} (f g : X → ℕ) → ((x : X) → f x ≤ g x) → (xs : List X) → sum_by f xs ≤ sum_by g xs
sums_below f g each [] = omega arith
sums_below f g each (x ∷ xs) =
    let one = each x in
    let rest = sums_below f g each xs in
    let left = sum_by-cons f x xs in
    let right = sum_by-cons g x xs in
    omega arith

-- Of items that have at most 400 each.
few_each : {X : Type 0} (f : X → ℕ) → ((x : X) → f x ≤ 400) → (xs : List X) → sum_by f xs ≤ 400 * length xs
few_each f each [] = omega arith
few_each f each (x ∷ xs) =
    let one = each x in
    let rest = few_each f each xs in
    let left = sum_by-cons f x xs in
    omega arith

round_up_below : (unit n : ℕ) → 1 ≤ unit → round_up unit n + 1 ≤ n + unit
unfolding round_up
round_up_below unit n some = let below = rounded_below n unit in omega arith

-- ---- methods

-- The method has little of everything.
pub record IsSmall (m : Method) : Type 0 where
  pub name : length m.name ≤ 5
  pub args : length m.args ≤ 2
  pub locals : length m.locals ≤ 2
  pub stack : m.max_stack ≡ 8
  pub code : length m.code ≤ 62

abbrev AreSmall : List MethodPlan → Type 0
AreSmall ms = AllByRecursion (λ m. IsSmall (method_value m)) ms

-- What small methods have at most 100 of each.
few_of : (f : MethodPlan → ℕ) → ((m : MethodPlan) → IsSmall (method_value m) → f m ≤ 100) → (ms : List MethodPlan)
    → AreSmall ms → sum_by f ms ≤ 100 * length ms
few_of f each [] all = omega arith
few_of f each (m ∷ ms) all =
    let one = each m all.0 in
    let rest = few_of f each ms all.1 in
    let left = sum_by-cons f m ms in
    omega arith

few_items : (f : MethodPlan → List (List ℕ)) → ((m : MethodPlan) → IsSmall (method_value m) → items_size (f m) ≤ 100)
    → (ms : List MethodPlan) → AreSmall ms
    → items_size (flat_map f ms) ≤ 100 * length ms
few_items f each [] all = omega arith
few_items f each (m ∷ ms) all =
    let one = each m all.0 in
    let rest = few_items f each ms all.1 in
    let left = sum_by-append length (f m) (flat_map f ms) in
    omega arith

few_texts : (f : MethodPlan → List ℕ) → ((m : MethodPlan) → IsSmall (method_value m) → length (f m) ≤ 100)
    → (ms : List MethodPlan) → AreSmall ms
    → items_size (map f ms) ≤ 100 * length ms
few_texts f each [] all = omega arith
few_texts f each (m ∷ ms) all =
    let one = each m all.0 in
    let rest = few_texts f each ms all.1 in
    let left = sum_by-cons length (f m) (map f ms) in
    omega arith

-- ---- bodies, names and blobs

body_few : (m : MethodPlan) → IsSmall (method_value m) → body_size m ≤ 100
unfolding body_size numbers_width
body_few m small =
    let below = round_up_below 4 (12 + length m.code.items) (omega arith) in
    let code = small.code in
    omega arith

name_few : (m : MethodPlan) → IsSmall (method_value m) → length (method_name_item m) ≤ 100
unfolding zero_ended
name_few m small =
    let name = small.name in
    let all = length-append m.name.items (0 ∷ []) in
    omega arith

compressed_by : (short : Bool) (n : ℕ) → length (if short then n ∷ [] else (0x80 + n / 256) ∷ n % 256 ∷ []) ≤ 2
compressed_by true n = omega arith
compressed_by false n = omega arith

compressed_few : (n : ℕ) → length (compressed n) ≤ 2
unfolding compressed
compressed_few n = compressed_by (nat_lt n 0x80) n

type_few : (place : Place) → length (type_bytes place) ≤ 2
type_few places.Void = omega arith
type_few places.Bool = omega arith
type_few places.Int = omega arith
type_few places.Bools = omega arith
type_few places.Ints = omega arith

types_few : (all : List Place) → length (flat_map type_bytes all) ≤ 2 * length all
types_few [] = omega arith
types_few (place ∷ all) =
    let one = type_few place in
    let rest = types_few all in
    let both = length-append (type_bytes place) (flat_map type_bytes all) in
    omega arith

blob_few : (bytes : List ℕ) → length (blob bytes) ≤ 2 + length bytes
unfolding blob
blob_few bytes =
    let prefix = compressed_few (length bytes) in
    let both = length-append (compressed (length bytes)) bytes in
    omega arith

signature_few : (m : MethodPlan) → length (signature m) ≤ 5 + 2 * length m.args.items
unfolding signature
signature_few m =
    let prefix = compressed_few (length m.args.items) in
    let result = type_few m.result in
    let args = types_few m.args.items in
    let first = length-append (compressed (length m.args.items)) (type_bytes m.result) in
    let all = length-append (compressed (length m.args.items) ++ type_bytes m.result) (flat_map type_bytes m.args.items) in
    omega arith

local_signature_few : (locals : List Place) → length (local_signature locals) ≤ 3 + 2 * length locals
unfolding local_signature
local_signature_few locals =
    let prefix = compressed_few (length locals) in
    let behind = types_few locals in
    let all = length-append (compressed (length locals)) (flat_map type_bytes locals) in
    omega arith

local_blob_few : (locals : List Place) → length (local_blob locals) ≤ 5 + 2 * length locals
unfolding local_blob
local_blob_few [] = omega arith
local_blob_few (place ∷ locals) =
    let whole = blob_few (local_signature (place ∷ locals)) in
    let inner = local_signature_few (place ∷ locals) in
    omega arith

signature_blob_few : (m : MethodPlan) → length (signature_blob m) ≤ 7 + 2 * length m.args.items
unfolding signature_blob
signature_blob_few m =
    let whole = blob_few (signature m) in
    let inner = signature_few m in
    omega arith

two_items : (a b : List ℕ) → items_size (a ∷ b ∷ []) ≡ length a + length b
two_items a b = sum_by-cons length a (b ∷ []) ∙ ap (λ (n : ℕ). length a + n) (sum_by-cons length b [] ∙ (omega arith))

blobs_few : (m : MethodPlan) → IsSmall (method_value m) → items_size (method_blob_items m) ≤ 100
blobs_few m small =
    let one = signature_blob_few m in
    let other = local_blob_few m.locals.items in
    let both = two_items (signature_blob m) (local_blob m.locals.items) in
    let args = small.args in
    let locals = small.locals in
    omega arith

cited_few : items_size (map blob_item cited_blobs) ≡ 48
unfolding blob compressed
cited_few = refl

abbrev HasShortNames : AsmPlan → Type 0
HasShortNames plan = (length plan.namespace.items ≤ 5) × (length plan.class.items ≤ 5)

zero_few : (text : List ℕ) → length text ≤ 50 → length (zero_ended text) ≤ 400
unfolding zero_ended
zero_few text few = let all = length-append text (0 ∷ []) in omega arith

text_few : (plan : AsmPlan) → HasShortNames plan → (name : Name) → length (name_text plan name) ≤ 50
unfolding name_text
text_few plan short names.Empty = omega arith
text_few plan short names.Object = omega arith
text_few plan short names.System = omega arith
text_few plan short names.Int32 = omega arith
text_few plan short names.Boolean = omega arith
text_few plan short names.Contract = omega arith
text_few plan short names.Contracts = omega arith
text_few plan short names.Global = omega arith
text_few plan short names.Requires = omega arith
text_few plan short names.Ensures = omega arith
text_few plan short names.Assert = omega arith
text_few plan short names.Assume = omega arith
text_few plan short names.EndContractBlock = omega arith
text_few plan short names.Result = omega arith
text_few plan short names.OldValue = omega arith
text_few plan short names.Mscorlib = omega arith
text_few plan short names.Class = let is = short.1 in omega arith
text_few plan short names.Namespace = let is = short.0 in omega arith
text_few plan short names.File =
    let is = short.1 in
    let all = length-append plan.class.items (codes ".dll") in
    omega arith

names_few : (plan : AsmPlan) → HasShortNames plan → (cited : List Name)
    → items_size (map (name_item plan) cited) ≤ 400 * length cited
names_few plan short [] = omega arith
names_few plan short (name ∷ cited) =
    let one = zero_few (name_text plan name) (text_few plan short name) in
    let rest = names_few plan short cited in
    let both = sum_by-cons length (name_item plan name) (map (name_item plan) cited) in
    omega arith

-- ---- rows

-- The greatest width of a column.
abbrev widest : Field → ℕ
widest (fields.Plain number) = number_width number
widest _ = 4

index_few : (wide : Bool) (n : ℕ) → number_width (index wide n) ≤ 4
index_few true n = omega arith
index_few false n = omega arith

field_few : (l : Layout) (field : Field) → field_width l field ≤ widest field
field_few l (fields.Plain number) = omega arith
field_few l (fields.Strings name) = index_few _ _
field_few l (fields.MethodName method) = index_few _ _
field_few l fields.OwnName = index_few _ _
field_few l (fields.ExternName index part) = index_few _ _
field_few l (fields.Guid n) = omega arith
field_few l (fields.Blobs cited) = index_few _ _
field_few l (fields.MethodSignature method) = index_few _ _
field_few l (fields.MethodLocals method) = index_few _ _
field_few l (fields.ExternSignature index) = index_few _ _
field_few l (fields.MethodBody method) = omega arith
field_few l (fields.Row table row) = index_few _ _
field_few l (fields.Coded kind table row) = index_few _ _

abbrev widest_rows : List (List Field) → ℕ
widest_rows rows = sum_by (sum_by widest) rows

rows_few : (l : Layout) (rows : List (List Field)) → rows_width l rows ≤ widest_rows rows
unfolding rows_width row_width
rows_few l rows = sums_below _ _ (λ (row : List Field). sums_below _ _ (field_few l) row) rows

rows_append : (l : Layout) (a b : List (List Field)) → rows_width l (a ++ b) ≡ rows_width l a + rows_width l b
unfolding rows_width
rows_append l a b = sum_by-append (row_width l) a b

no_rows : (l : Layout) → rows_width l [] ≡ 0
unfolding rows_width
no_rows l = refl

each_rows_few : (l : Layout) (f : ℕ → MethodPlan → List (List Field))
    → ((at : ℕ) (m : MethodPlan) → widest_rows (f at m) ≤ 100) → (at : ℕ) (ms : List MethodPlan)
    → rows_width l (each_from at f ms) ≤ 100 * length ms
unfolding each_from
each_rows_few l f each at [] = let none = no_rows l in omega arith
each_rows_few l f each at (m ∷ ms) =
    let one = each at m in
    let below = rows_few l (f at m) in
    let rest = each_rows_few l f each (at + 1) ms in
    let both = rows_append l (f at m) (each_from (at + 1) f ms) in
    omega arith

locals_widest : (has : Bool) (at : ℕ) → widest_rows (if has then (fields.MethodLocals at ∷ []) ∷ [] else []) ≤ 100
locals_widest true at = omega arith
locals_widest false at = omega arith

fixed_few : (l : Layout) (rows : List (List Field)) (n most : ℕ) → widest_rows rows ≤ 400
    → rows_width l rows ≤ 400 + 100 * n
fixed_few l rows n most few = let below = rows_few l rows in omega arith

no_externs : (table : Table) (n : ℕ) → n ≡ 0 → extern_rows table n ≡ []
unfolding extern_rows
no_externs table n none = ap (λ (k : ℕ). flat_map (rows_of_extern table) (range_with_len 0 k)) none

-- The same of rows that those of externs follow, where there is none.
alone_few : (l : Layout) (rows : List (List Field)) (table : Table) (n : ℕ) → l.externs ≡ 0 → widest_rows rows ≤ 400
    → rows_width l (rows ++ extern_rows table l.externs) ≤ 400 + 100 * n
alone_few l rows table n none few =
    let both = rows_append l rows (extern_rows table l.externs) in
    let more : rows_width l (extern_rows table l.externs) ≡ 0 = ap (rows_width l) (no_externs table l.externs none) ∙ no_rows l in
    let below = rows_few l rows in
    omega arith

table_few : (l : Layout) (ms : List MethodPlan) (table : Table) → l.externs ≡ 0 → table_size l ms table ≤ 400 + 100 * length ms
table_few l ms tables.MethodDef none = let rows = each_rows_few l (rows_of_method tables.MethodDef) (λ (at : ℕ) (m : MethodPlan). omega arith) 0 ms in omega arith
table_few l ms tables.StandAloneSig none = let rows = each_rows_few l (rows_of_method tables.StandAloneSig) (λ (at : ℕ) (m : MethodPlan). locals_widest (has_locals m) at) 0 ms in omega arith
table_few l ms tables.Module none = fixed_few l (fixed_rows tables.Module) (length ms) 0 (omega arith)
table_few l ms tables.TypeRef none = alone_few l (fixed_rows tables.TypeRef) tables.TypeRef (length ms) none (omega arith)
table_few l ms tables.TypeDef none = fixed_few l (fixed_rows tables.TypeDef) (length ms) 0 (omega arith)
table_few l ms tables.Field none = fixed_few l (fixed_rows tables.Field) (length ms) 0 (omega arith)
table_few l ms tables.Param none = fixed_few l (fixed_rows tables.Param) (length ms) 0 (omega arith)
table_few l ms tables.MemberRef none = alone_few l (fixed_rows tables.MemberRef) tables.MemberRef (length ms) none (omega arith)
table_few l ms tables.ModuleRef none = fixed_few l (fixed_rows tables.ModuleRef) (length ms) 0 (omega arith)
table_few l ms tables.TypeSpec none = fixed_few l (fixed_rows tables.TypeSpec) (length ms) 0 (omega arith)
table_few l ms tables.Assembly none = fixed_few l (fixed_rows tables.Assembly) (length ms) 0 (omega arith)
table_few l ms tables.AssemblyRef none = alone_few l (fixed_rows tables.AssemblyRef) tables.AssemblyRef (length ms) none (omega arith)
table_few l ms tables.MethodSpec none = fixed_few l (fixed_rows tables.MethodSpec) (length ms) 0 (omega arith)

-- Of the tables, of which each has at most so many bytes.
all_few : (f : Table → ℕ) (most : ℕ) → ((table : Table) → f table ≤ most) → (among : List Table) (count : ℕ)
    → length among ≡ count → sum_by f among ≤ count * most
all_few f most each [] zero is = omega arith
all_few f most each [] (suc count) is = absurd cc
all_few f most each (table ∷ among) zero is = absurd cc
all_few f most each (table ∷ among) (suc count) is =
    let one = each table in
    let rest = all_few f most each among count (omega (arith, is)) in
    let both = sum_by-cons f table among in
    omega arith

count_by : (none : Bool) (n : ℕ) → numbers_width (if none then [] else Four n ∷ []) ≤ 4
unfolding numbers_width
count_by true n = omega arith
count_by false n = omega arith

count_few : (l : Layout) (table : Table) → count_size l table ≤ 4
count_few l table = count_by _ _

prefix_few : (l : Layout) → numbers_width (stream_numbers l) ≡ 24
unfolding numbers_width
prefix_few l = refl

tables_few : (l : Layout) (ms : List MethodPlan) → l.externs ≡ 0 → tables_size l ms ≤ 6000 + 1300 * length ms
unfolding tables_size
tables_few l ms none =
    let counts = all_few (count_size l) 4 (count_few l) all_tables 13 refl in
    let rows = all_few (table_size l ms) (400 + 100 * length ms) (λ (table : Table). table_few l ms table none) all_tables 13 refl in
    let prefix = prefix_few l in
    let below = round_up_below 4 (numbers_width (stream_numbers l) + sum_by (count_size l) all_tables + sum_by (table_size l ms) all_tables) (omega arith) in
    omega arith

-- ---- the whole

own_name_by : (same : Bool) (name : List ℕ) → length name ≤ 5 → items_size (if same then [] else zero_ended name ∷ []) ≤ 400
own_name_by true name short = omega arith
own_name_by false name short =
    let one = zero_few name (omega arith) in
    let all = sum_by-cons length (zero_ended name) [] in
    let none : items_size [] ≡ 0 = refl in
    omega arith

own_name_few : (plan : AsmPlan) → HasShortNames plan → items_size (own_name_items plan plan.class.items) ≤ 400
unfolding own_name_items
own_name_few plan short = own_name_by (bytes_eq plan.class.items plan.class.items) plan.class.items short.1

metadata_few : (plan : AsmPlan) → HasShortNames plan → AreSmall plan.methods.items
    → metadata_size (alone plan) ≤ 16500 + 1500 * length plan.methods.items
unfolding metadata_size root_size
metadata_few plan short small =
    let l = layout_of (alone plan) in
    let ms = plan.methods.items in
    let root = length_root 0 (tables_stream l ms) l in
    let tables = tables_few l ms refl in
    let cited = names_few plan short cited_names in
    let own_names = few_texts method_name_item name_few ms small in
    let names = sum_by-append length (map (name_item plan) cited_names) (map method_name_item ms) in
    let none : items_size [] ≡ 0 = refl in
    let externs = sum_by-append length (map (name_item plan) cited_names ++ map method_name_item ms) [] in
    let own_name = own_name_few plan short in
    let all_names = sum_by-append length (map (name_item plan) cited_names ++ map method_name_item ms ++ []) (own_name_items plan plan.class.items) in
    let strings = round_up_below 4 (items_size (string_items (alone plan))) (omega arith) in
    let own_blobs = few_items method_blob_items blobs_few ms small in
    let cited_blob = cited_few in
    let blobs = sum_by-append length (map blob_item cited_blobs) (flat_map method_blob_items ms) in
    let all_blobs = sum_by-append length (map blob_item cited_blobs ++ flat_map method_blob_items ms) [] in
    let heap = round_up_below 4 (items_size (blob_items ms [])) (omega arith) in
    omega arith

headers_few : headers_size false ≡ 512
unfolding headers_size numbers_width round_up section_header numbers_bytes
headers_few = refl

file_few : (plan : AsmPlan) → HasShortNames plan → AreSmall plan.methods.items → plan.wide ≡ false
    → file_size plan ≤ 20000 + 1600 * length plan.methods.items
unfolding file_size linked_size section_size numbers_width
file_few plan short small narrow =
    let metadata = metadata_few plan short small in
    let bodies = few_of body_size body_few plan.methods.items small in
    let prefix : cli_header_size ≡ 72 = refl in
    let is : section_size (alone plan) ≡ round_up file_alignment (cli_header_size + bodies_size plan.methods.items + metadata_size (alone plan)) = refl in
    let whole = round_up_below file_alignment (cli_header_size + bodies_size plan.methods.items + metadata_size (alone plan)) (omega arith) in
    let before : headers_size plan.wide ≡ 512 = ap headers_size narrow ∙ headers_few in
    omega arith

within_few : (ms : List MethodPlan) → AreSmall ms → list_all is_within ms ≡ true
unfolding is_within
within_few [] all = refl
within_few (m ∷ ms) all =
    let small = all.0 in
    let code = small.code in
    let args = small.args in
    let locals = small.locals in
    let stack = small.stack in
    let first = le-leb (length m.code.items) MAX_CODE_BYTES (omega arith) in
    let second = le-leb (length m.args.items + length m.locals.items + m.max_stack) MAX_VARIABLES (omega arith) in
    rw (first, second, within_few ms all.1) refl

-- ---- what is generated

code_few : (template : Template) (constant token : ℕ) → length (code_of template constant token) ≤ 62
unfolding constant_code div_code array_sum_code fill_code sum_code bad_code
code_few templates.Constant constant token = omega arith
code_few templates.Div constant token = omega arith
code_few templates.ArraySum constant token = omega arith
code_few templates.Fill constant token = omega arith
code_few templates.Sum constant token = omega arith
code_few templates.Bad constant token = omega arith

args_few : (template : Template) → length (args_of template) ≤ 2
args_few templates.Constant = omega arith
args_few templates.Div = omega arith
args_few templates.ArraySum = omega arith
args_few templates.Fill = omega arith
args_few templates.Sum = omega arith
args_few templates.Bad = omega arith

locals_few : (template : Template) → length (locals_of template) ≤ 2
locals_few templates.Constant = omega arith
locals_few templates.Div = omega arith
locals_few templates.ArraySum = omega arith
locals_few templates.Fill = omega arith
locals_few templates.Sum = omega arith
locals_few templates.Bad = omega arith

number_few : (at : ℕ) → at < 10000 → length (codes "m" ++ decimal at) ≤ 5
number_few at few = let digits = length-decimal-le 4 at (omega arith) (omega (arith, few)) (omega (arith, few)) in omega (arith, digits)

one_small : (at x : ℕ) → at < 10000 → IsSmall (method_at at x)
unfolding method_at
one_small at x few = record {
  name = number_few at few;
  args = args_few (template_of at);
  locals = locals_few (template_of at);
  stack = refl;
  code = code_few (template_of at) (constant_of x) (token_at at);
}

each_small : (at x count : ℕ) → at + count ≤ 10000 → AllByRecursion IsSmall (methods_from at x count)
unfolding methods_from
each_small at x zero few = tt
each_small at x (suc count) few = (one_small at (next x) (omega (arith, few)), each_small (at + 1) (next x) count (omega (arith, few)))

pub generated_small : (seed count : ℕ) → count ≤ 10000 → AllByRecursion IsSmall (methods_from 0 seed count)
generated_small seed count few = each_small 0 seed count (omega (arith, few))

pub so_many : (at x count : ℕ) → length (methods_from at x count) ≡ count
unfolding methods_from
so_many at x zero = refl
so_many at x (suc count) = ap suc (so_many (at + 1) (next x) count)

small_methods : (ms : List MethodPlan) → AllByRecursion IsSmall (map method_value ms) → AreSmall ms
small_methods [] all = tt
small_methods (m ∷ ms) all = (all.0, small_methods ms all.1)

both_true : (a b : Bool) → a ≡ true → b ≡ true → (a && b) ≡ true
both_true a b p q = rw (p, q) refl

-- Of at most 10,000 methods it keeps the limits.
pub generated_fits : (plan : AsmPlan) (seed count : ℕ) → count ≤ 10000 → value plan ≡ generated seed count
    → IsTrue (fits plan)
unfolding fits linked_fits file_size
generated_fits plan seed count few is =
    let methods = ap (λ (p : Plan). p.methods) is in
    let small = small_methods plan.methods.items (subst (AllByRecursion IsSmall) (sym methods) (each_small 0 seed count (omega (arith, few)))) in
    let many : length plan.methods.items ≡ count = sym (length-map plan.methods.items method_value) ∙ ap length methods ∙ so_many 0 seed count in
    let namespace : length plan.namespace.items ≡ 3 = ap (λ (p : Plan). length p.namespace) is in
    let class : length plan.class.items ≡ 1 = ap (λ (p : Plan). length p.class) is in
    let size = file_few plan (omega arith, omega arith) small (ap (λ (p : Plan). p.wide) is) in
    both_true _ _ (le-leb (file_size plan) MAX_FILE_BYTES (omega arith)) (within_few plan.methods.items small)
