-- The names, signatures and rows of a plan, each at its place.
use Rattle.std.proofs.Common.{◌≡◌, ℕ, zero, suc, ◌+◌, ◌*◌, ◌<◌, List, [], ◌∷◌, ◌++◌, length, map, get_or, Bool, true, false, refl, sym, ap, ap₂, subst, ◌∙◌, arith, slice_index}
use Rattle.std.specs.List.{flat_map}
use Rattle.std.specs.Str.{bytes_eq}
use Rattle.std.proofs.lemmas.List.{length-append, length-map, get_or_append_left, get_or-append-add, get_or-map}
use Rattle.std.proofs.lemmas.Slice.Eq.{bytes_eq-Decides}
use Rattle.asm_writer.specs.declared.field.Field.{Field}
use Rattle.asm_writer.specs.Linked.{Linked}
use Rattle.asm_writer.specs.declared.plan.MethodPlan.{MethodPlan}
use Rattle.asm_writer.specs.declared.plan.Extern.{Extern}
use Rattle.asm_writer.specs.declared.name.ExternPart.{ExternPart}
use Rattle.asm_writer.specs.declared.name.ExternPart.TheVariants as parts
use Rattle.asm_writer.specs.declared.name.Name.{Name}
use Rattle.asm_writer.specs.declared.name.Name.TheVariants as names
use Rattle.asm_writer.specs.declared.table.Table.TheVariants as tables
use Rattle.asm_writer.specs.Blobs.{cited_blobs, blob_item, blob_items, blob_heap, method_blob_items, signature_index, locals_index, extern_signature_index}
use Rattle.asm_writer.specs.Bodies.{body, body_item, bodies, locals_row}
use Rattle.asm_writer.specs.Each.{each_from}
use Rattle.asm_writer.specs.Names.{cited_names, name_text, name_item, method_name_index, method_name_item, part_index, extern_name_items, extern_name_index, own_name_items, own_name_index, zero_ended, string_items, strings_heap}
use Rattle.asm_writer.specs.Rows.{method_row, table_rows}
use Rattle.asm_writer.specs.Signatures.{signature_blob, local_blob, extern_blob}
use Rattle.written_assemblies.specs.Parts.{Stands}
use Rattle.written_assemblies.proofs.HeapLemmas.{item_stands, item_in_filled}

-- ---- lists that are made method by method

one_each : {X : Type 0} (f : ℕ → MethodPlan → X) (index : ℕ) (ms : List MethodPlan) (i : ℕ) (m : MethodPlan) (d : X) → i < length ms → get_or ms i m ≡ m
    → get_or (each_from index (λ k n. f k n ∷ []) ms) i d ≡ f (index + i) m
unfolding each_from
one_each f index [] i m d within is = absurd (omega (arith, within))
one_each f index (first ∷ ms) zero m d within is =
    let same : index ≡ index + zero = omega arith in
    ap₂ f same is
one_each f index (first ∷ ms) (suc i) m d within is =
    let same : index + 1 + i ≡ index + suc i = omega arith in
    one_each f (index + 1) ms i m d (omega (arith, within)) is ∙ ap (λ (k : ℕ). f k m) same

one_length : {X : Type 0} (f : ℕ → MethodPlan → X) (index : ℕ) (ms : List MethodPlan) → length (each_from index (λ k n. f k n ∷ []) ms) ≡ length ms
unfolding each_from
one_length f index [] = refl
one_length f index (m ∷ ms) = ap suc (one_length f (index + 1) ms)

pub method_row_is : (ms : List MethodPlan) (externs i : ℕ) (m : MethodPlan) (d : List Field) → i < length ms → get_or ms i m ≡ m → get_or (table_rows ms externs tables.MethodDef) i d ≡ method_row i m
method_row_is ms externs i m d within is =
    let same : 0 + i ≡ i = omega arith in
    one_each method_row 0 ms i m d within is ∙ ap (λ (k : ℕ). method_row k m) same

pub method_rows : (ms : List MethodPlan) (externs : ℕ) → length (table_rows ms externs tables.MethodDef) ≡ length ms
method_rows ms externs = one_length method_row 0 ms

pub body_stands : (ms : List MethodPlan) (i : ℕ) (m : MethodPlan) → i < length ms → get_or ms i m ≡ m
    → Stands (body (locals_row ms i) m) (bodies ms).bytes (slice_index (bodies ms).offsets i)
unfolding bodies
body_stands ms i m within is =
    let same : 0 + i ≡ i = omega arith in
    let size = one_length (λ k n. body (locals_row ms k) n) 0 ms in
    let here = one_each (λ k n. body (locals_row ms k) n) 0 ms i m [] within is in
    item_stands (each_from 0 (body_item ms) ms) i (body (locals_row ms i) m) [] (omega (arith, size, within)) (here ∙ ap (λ (k : ℕ). body (locals_row ms k) m) same)

-- ---- the names

-- The four parts of a list, where an item of one of them stands.
in_first : {X : Type 0} (a b c e : List X) (i : ℕ) (d : X) → i < length a → get_or (a ++ b ++ c ++ e) i d ≡ get_or a i d
in_first a b c e i d within =
    let two = length-append a b in
    let three = length-append (a ++ b) c in
    get_or_append_left (a ++ b ++ c) e d i (omega (arith, two, three, within))
    ∙ get_or_append_left (a ++ b) c d i (omega (arith, two, within))
    ∙ get_or_append_left a b d i within

in_second : {X : Type 0} (a b c e : List X) (i : ℕ) (d : X) → i < length b → get_or (a ++ b ++ c ++ e) (length a + i) d ≡ get_or b i d
in_second a b c e i d within =
    let two = length-append a b in
    let three = length-append (a ++ b) c in
    get_or_append_left (a ++ b ++ c) e d (length a + i) (omega (arith, two, three, within))
    ∙ get_or_append_left (a ++ b) c d (length a + i) (omega (arith, two, within))
    ∙ get_or-append-add a b i d

in_third : {X : Type 0} (a b c e : List X) (i : ℕ) (d : X) → i < length c → get_or (a ++ b ++ c ++ e) (length a + length b + i) d ≡ get_or c i d
in_third a b c e i d within =
    let two = length-append a b in
    let three = length-append (a ++ b) c in
    let at : length a + length b + i ≡ length (a ++ b) + i = omega (arith, two) in
    get_or_append_left (a ++ b ++ c) e d (length a + length b + i) (omega (arith, two, three, within))
    ∙ ap (λ (k : ℕ). get_or (a ++ b ++ c) k d) at
    ∙ get_or-append-add (a ++ b) c i d

in_fourth : {X : Type 0} (a b c e : List X) (i : ℕ) (d : X) → get_or (a ++ b ++ c ++ e) (length a + length b + length c + i) d ≡ get_or e i d
in_fourth a b c e i d =
    let two = length-append a b in
    let three = length-append (a ++ b) c in
    let at : length a + length b + length c + i ≡ length (a ++ b ++ c) + i = omega (arith, two, three) in
    ap (λ (k : ℕ). get_or (a ++ b ++ c ++ e) k d) at ∙ get_or-append-add (a ++ b ++ c) e i d

four_long : {X : Type 0} (a b c e : List X) → length (a ++ b ++ c ++ e) ≡ length a + length b + length c + length e
four_long a b c e =
    let two = length-append a b in
    let three = length-append (a ++ b) c in
    let four = length-append (a ++ b ++ c) e in
    omega (arith, two, three, four)

-- The four parts of the names.
abbrev cited_items : Linked → List (List ℕ)
cited_items source = map (name_item source.plan) cited_names

abbrev own_items : Linked → List (List ℕ)
own_items source = map method_name_item source.plan.methods.items

abbrev extern_items : Linked → List (List ℕ)
extern_items source = flat_map extern_name_items source.externs

abbrev last_items : Linked → List (List ℕ)
last_items source = own_name_items source.plan source.assembly

names_long : (source : Linked) → length (string_items source) ≡ 19 + length source.plan.methods.items + length (extern_items source) + length (last_items source)
names_long source =
    let all = four_long (cited_items source) (own_items source) (extern_items source) (last_items source) in
    let own = length-map source.plan.methods.items method_name_item in
    omega (arith, all, own)

pub name_stands : (source : Linked) (name : Name) (i : ℕ) → i < 19 → get_or cited_names i name ≡ name
    → Stands (name_item source.plan name) (strings_heap source).bytes (slice_index (strings_heap source).offsets i)
unfolding strings_heap
name_stands source name i within is =
    let size = names_long source in
    let here : get_or (string_items source) i [] ≡ name_item source.plan name =
    in_first (cited_items source) (own_items source) (extern_items source) (last_items source) i [] within
    ∙ get_or-map (name_item source.plan) cited_names i name [] within ∙ ap (name_item source.plan) is in
    item_in_filled (string_items source) i (name_item source.plan name) [] (omega (arith, size, within)) here

pub method_name_stands : (source : Linked) (i : ℕ) (m : MethodPlan) → i < length source.plan.methods.items → get_or source.plan.methods.items i m ≡ m
    → Stands (method_name_item m) (strings_heap source).bytes (slice_index (strings_heap source).offsets (method_name_index i))
unfolding strings_heap
method_name_stands source i m within is =
    let size = names_long source in
    let names = length-map source.plan.methods.items method_name_item in
    let here : get_or (string_items source) (19 + i) [] ≡ method_name_item m =
    in_second (cited_items source) (own_items source) (extern_items source) (last_items source) i [] (omega (arith, names, within))
    ∙ get_or-map method_name_item source.plan.methods.items i m [] within ∙ ap method_name_item is in
    item_in_filled (string_items source) (19 + i) (method_name_item m) [] (omega (arith, size, within)) here

-- ---- the names of externs, and that of the assembly

four_each : (externs : List Extern) → length (flat_map extern_name_items externs) ≡ 4 * length externs
four_each [] = refl
four_each (e ∷ externs) = let rest = four_each externs in omega (arith, rest)

-- A name of an extern, by its part.
abbrev pub part_of : Extern → ExternPart → List ℕ
part_of e parts.Assembly = e.assembly.items
part_of e parts.Namespace = e.namespace.items
part_of e parts.Class = e.class.items
part_of e parts.Name = e.name.items

first_part : (e : Extern) (externs : List Extern) (part : ExternPart) → get_or (flat_map extern_name_items (e ∷ externs)) (4 * 0 + part_index part) [] ≡ zero_ended (part_of e part)
first_part e externs parts.Assembly = refl
first_part e externs parts.Namespace = refl
first_part e externs parts.Class = refl
first_part e externs parts.Name = refl

part_in : (externs : List Extern) (i : ℕ) (e : Extern) (part : ExternPart) → i < length externs → get_or externs i e ≡ e
    → get_or (flat_map extern_name_items externs) (4 * i + part_index part) [] ≡ zero_ended (part_of e part)
part_in [] i e part within is = absurd (omega (arith, within))
part_in (first ∷ externs) zero e part within is = first_part first externs part ∙ ap (λ (x : Extern). zero_ended (part_of x part)) is
part_in (first ∷ externs) (suc i) e part within is =
    let same : 4 * suc i + part_index part ≡ suc (suc (suc (suc (4 * i + part_index part)))) = omega arith in
    ap (λ (k : ℕ). get_or (flat_map extern_name_items (first ∷ externs)) k []) same ∙ part_in externs i e part (omega (arith, within)) is

part_small : (part : ExternPart) → part_index part < 4
part_small parts.Assembly = omega arith
part_small parts.Namespace = omega arith
part_small parts.Class = omega arith
part_small parts.Name = omega arith

pub extern_name_stands : (source : Linked) (i : ℕ) (e : Extern) (part : ExternPart) → i < length source.externs → get_or source.externs i e ≡ e
    → Stands (zero_ended (part_of e part)) (strings_heap source).bytes (slice_index (strings_heap source).offsets (extern_name_index (length source.plan.methods.items) i part))
unfolding strings_heap
extern_name_stands source i e part within is =
    let size = names_long source in
    let own = length-map source.plan.methods.items method_name_item in
    let each = four_each source.externs in
    let small = part_small part in
    let at : length (cited_items source) + length (own_items source) + (4 * i + part_index part) ≡ extern_name_index (length source.plan.methods.items) i part = omega (arith, own) in
    let here : get_or (string_items source) (extern_name_index (length source.plan.methods.items) i part) [] ≡ zero_ended (part_of e part) =
    ap (λ (k : ℕ). get_or (string_items source) k []) (sym at)
    ∙ in_third (cited_items source) (own_items source) (extern_items source) (last_items source) (4 * i + part_index part) [] (omega (arith, each, small, within))
    ∙ part_in source.externs i e part within is in
    item_in_filled (string_items source) (extern_name_index (length source.plan.methods.items) i part) (zero_ended (part_of e part)) [] (omega (arith, size, each, small, within)) here

-- The name of the assembly is that of the class, or stands after all.
own_item : (source : Linked) → bytes_eq source.assembly source.plan.class.items ≡ false → own_name_items source.plan source.assembly ≡ zero_ended source.assembly ∷ []
unfolding own_name_items
own_item source is = rw is refl

own_same : (source : Linked) → bytes_eq source.assembly source.plan.class.items ≡ true
    → Stands (zero_ended source.assembly) (strings_heap source).bytes (slice_index (strings_heap source).offsets (own_name_index source))
unfolding own_name_index name_text
own_same source is =
    let equal : source.assembly ≡ source.plan.class.items = (bytes_eq-Decides source.assembly source.plan.class.items).0 is in
    let class = name_stands source names.Class 16 (omega arith) refl in
    rw is (subst (λ (name : List ℕ). Stands (zero_ended name) (strings_heap source).bytes (slice_index (strings_heap source).offsets 16)) (sym equal) class)

own_last : (source : Linked) → bytes_eq source.assembly source.plan.class.items ≡ false
    → Stands (zero_ended source.assembly) (strings_heap source).bytes (slice_index (strings_heap source).offsets (own_name_index source))
unfolding own_name_index strings_heap
own_last source is =
    let size = names_long source in
    let own = length-map source.plan.methods.items method_name_item in
    let each = four_each source.externs in
    let items : last_items source ≡ zero_ended source.assembly ∷ [] = own_item source is in
    let some : length (last_items source) ≡ 1 = ap length items in
    let index : ℕ = extern_name_index (length source.plan.methods.items) (length source.externs) parts.Assembly in
    let at : length (cited_items source) + length (own_items source) + length (extern_items source) + 0 ≡ index = omega (arith, own, each) in
    let here : get_or (string_items source) index [] ≡ zero_ended source.assembly =
    ap (λ (k : ℕ). get_or (string_items source) k []) (sym at)
    ∙ in_fourth (cited_items source) (own_items source) (extern_items source) (last_items source) 0 []
    ∙ ap (λ (last : List (List ℕ)). get_or last 0 []) items in
    rw is (item_in_filled (string_items source) index (zero_ended source.assembly) [] (omega (arith, size, each, some)) here)

own_by : (source : Linked) (same : Bool) → bytes_eq source.assembly source.plan.class.items ≡ same
    → Stands (zero_ended source.assembly) (strings_heap source).bytes (slice_index (strings_heap source).offsets (own_name_index source))
own_by source true is = own_same source is
own_by source false is = own_last source is

pub own_name_stands : (source : Linked) → Stands (zero_ended source.assembly) (strings_heap source).bytes (slice_index (strings_heap source).offsets (own_name_index source))
own_name_stands source = own_by source (bytes_eq source.assembly source.plan.class.items) refl

-- ---- the blobs of methods

twice_length : (ms : List MethodPlan) → length (flat_map method_blob_items ms) ≡ 2 * length ms
twice_length [] = refl
twice_length (m ∷ ms) = let rest = twice_length ms in omega (arith, rest)

signature_in : (ms : List MethodPlan) (i : ℕ) (m : MethodPlan) → i < length ms → get_or ms i m ≡ m → get_or (flat_map method_blob_items ms) (2 * i) [] ≡ signature_blob m
signature_in [] i m within is = absurd (omega (arith, within))
signature_in (first ∷ ms) zero m within is = ap signature_blob is
signature_in (first ∷ ms) (suc i) m within is =
    let same : 2 * suc i ≡ suc (suc (2 * i)) = omega arith in
    ap (λ (k : ℕ). get_or (flat_map method_blob_items (first ∷ ms)) k []) same ∙ signature_in ms i m (omega (arith, within)) is

locals_in : (ms : List MethodPlan) (i : ℕ) (m : MethodPlan) → i < length ms → get_or ms i m ≡ m → get_or (flat_map method_blob_items ms) (2 * i + 1) [] ≡ local_blob m.locals.items
locals_in [] i m within is = absurd (omega (arith, within))
locals_in (first ∷ ms) zero m within is = ap (λ (n : MethodPlan). local_blob n.locals.items) is
locals_in (first ∷ ms) (suc i) m within is =
    let same : 2 * suc i + 1 ≡ suc (suc (2 * i + 1)) = omega arith in
    ap (λ (k : ℕ). get_or (flat_map method_blob_items (first ∷ ms)) k []) same ∙ locals_in ms i m (omega (arith, within)) is

pub signature_stands : (ms : List MethodPlan) (externs : List Extern) (i : ℕ) (m : MethodPlan) → i < length ms → get_or ms i m ≡ m
    → Stands (signature_blob m) (blob_heap ms externs).bytes (slice_index (blob_heap ms externs).offsets (signature_index i))
unfolding blob_heap
signature_stands ms externs i m within is =
    let prefix = length-append (map blob_item cited_blobs) (flat_map method_blob_items ms) in
    let size = length-append (map blob_item cited_blobs ++ flat_map method_blob_items ms) (map extern_blob externs) in
    let twice = twice_length ms in
    let here : get_or (blob_items ms externs) (10 + 2 * i) [] ≡ signature_blob m =
    get_or_append_left (map blob_item cited_blobs ++ flat_map method_blob_items ms) (map extern_blob externs) [] (10 + 2 * i) (omega (arith, prefix, twice, within))
    ∙ get_or-append-add (map blob_item cited_blobs) (flat_map method_blob_items ms) (2 * i) [] ∙ signature_in ms i m within is in
    item_in_filled (blob_items ms externs) (10 + 2 * i) (signature_blob m) [] (omega (arith, prefix, size, twice, within)) here

pub locals_stand : (ms : List MethodPlan) (externs : List Extern) (i : ℕ) (m : MethodPlan) → i < length ms → get_or ms i m ≡ m
    → Stands (local_blob m.locals.items) (blob_heap ms externs).bytes (slice_index (blob_heap ms externs).offsets (locals_index i))
unfolding blob_heap
locals_stand ms externs i m within is =
    let prefix = length-append (map blob_item cited_blobs) (flat_map method_blob_items ms) in
    let size = length-append (map blob_item cited_blobs ++ flat_map method_blob_items ms) (map extern_blob externs) in
    let twice = twice_length ms in
    let same : 10 + (2 * i + 1) ≡ 10 + 2 * i + 1 = omega arith in
    let here : get_or (blob_items ms externs) (10 + (2 * i + 1)) [] ≡ local_blob m.locals.items =
    get_or_append_left (map blob_item cited_blobs ++ flat_map method_blob_items ms) (map extern_blob externs) [] (10 + (2 * i + 1)) (omega (arith, prefix, twice, within))
    ∙ get_or-append-add (map blob_item cited_blobs) (flat_map method_blob_items ms) (2 * i + 1) [] ∙ locals_in ms i m within is in
    item_in_filled (blob_items ms externs) (10 + 2 * i + 1) (local_blob m.locals.items) [] (omega (arith, prefix, size, twice, within)) (ap (λ (k : ℕ). get_or (blob_items ms externs) k []) (sym same) ∙ here)

-- ---- the blobs of externs

pub extern_blob_stands : (ms : List MethodPlan) (externs : List Extern) (i : ℕ) (e : Extern) → i < length externs → get_or externs i e ≡ e
    → Stands (extern_blob e) (blob_heap ms externs).bytes (slice_index (blob_heap ms externs).offsets (extern_signature_index (length ms) i))
unfolding blob_heap
extern_blob_stands ms externs i e within is =
    let prefix = length-append (map blob_item cited_blobs) (flat_map method_blob_items ms) in
    let size = length-append (map blob_item cited_blobs ++ flat_map method_blob_items ms) (map extern_blob externs) in
    let twice = twice_length ms in
    let own = length-map externs extern_blob in
    let at : length (map blob_item cited_blobs ++ flat_map method_blob_items ms) + i ≡ extern_signature_index (length ms) i = omega (arith, prefix, twice) in
    let here : get_or (blob_items ms externs) (extern_signature_index (length ms) i) [] ≡ extern_blob e =
    ap (λ (k : ℕ). get_or (blob_items ms externs) k []) (sym at)
    ∙ get_or-append-add (map blob_item cited_blobs ++ flat_map method_blob_items ms) (map extern_blob externs) i []
    ∙ get_or-map extern_blob externs i e [] within ∙ ap extern_blob is in
    item_in_filled (blob_items ms externs) (extern_signature_index (length ms) i) (extern_blob e) [] (omega (arith, prefix, size, twice, own, within)) here
