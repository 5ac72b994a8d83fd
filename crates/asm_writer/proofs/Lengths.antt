-- How many bytes the parts have.
use Rattle.std.proofs.Common.{◌≡◌, ℕ, ◌+◌, ◌*◌, ◌≤◌, ◌<◌, ◌^◌, List, [], ◌∷◌, ◌++◌, length, map, Bool, true, false, refl, sym, add-zero, zero-add, add_assoc, ap, ◌∙◌, arith, IsFalse, nat_le, ◌&&◌}
use Rattle.std.specs.List.{flat_map, sum_by, list_all}
use Rattle.std.proofs.lemmas.List.{length-append, length-replicate}
use Rattle.std.proofs.lemmas.List.Sums.{sum_by-cons, sum_by-append}
use Rattle.asm_writer.specs.declared.field.Field.{Field}
use Rattle.asm_writer.specs.declared.layout.Layout.{Layout}
use Rattle.asm_writer.specs.declared.number.Number.{Number}
use Rattle.asm_writer.specs.declared.number.Number.TheVariants.{Zeros, Two, Four, Eight}
use Rattle.asm_writer.specs.declared.plan.AsmPlan.{AsmPlan}
use Rattle.asm_writer.specs.declared.plan.Extern.{Extern}
use Rattle.asm_writer.specs.declared.plan.MethodPlan.{MethodPlan}
use Rattle.asm_writer.specs.declared.table.Table.{Table}
use Rattle.asm_writer.specs.Assembly.{section, section_of, linked_bytes, assembly_bytes}
use Rattle.cil_model.specs.Limits.{MAX_FILE_BYTES}
use Rattle.asm_writer.specs.Blobs.{blob_items, blob_heap}
use Rattle.asm_writer.specs.Limits.{is_within, is_short_extern}
use Rattle.asm_writer.specs.Linked.{Linked, alone}
use Rattle.asm_writer.specs.Bodies.{locals_row, body_header, body, body_item, bodies}
use Rattle.asm_writer.specs.Each.{each_from}
use Rattle.asm_writer.specs.Headers.{file_alignment, bodies_rva, cli_header, cli_header_size, headers, section_header}
use Rattle.asm_writer.specs.Metadata.{user_strings, guids, streams, joined, root, root_size, metadata}
use Rattle.asm_writer.specs.Names.{cited_names, name_item, method_name_item, extern_name_items, own_name_items, zero_ended, string_items, strings_heap}
use Rattle.asm_writer.specs.Layout.{layout_of, field_number, field_bytes, fields_bytes, rows_bytes}
use Rattle.asm_writer.specs.Numbers.{number_bytes, number_width, numbers_bytes, numbers_width}
use Rattle.asm_writer.specs.Padding.{padded, round_up}
use Rattle.asm_writer.specs.Packing.{Packing, pushed, pushed_all, packed, filled}
use Rattle.asm_writer.specs.Rows.{table_rows}
use Rattle.asm_writer.specs.Sizes.{field_width, row_width, rows_width, items_size, headers_size, metadata_size, section_size, body_size, bodies_size, count_size, table_size, tables_size, linked_size, linked_fits, file_size}
use Rattle.asm_writer.specs.Stream.{stream_numbers, count_numbers, count_bytes, table_bytes, tables_stream}
use Rattle.asm_writer.specs.Tables.{all_tables}
use Rattle.asm_writer.proofs.MetadataLemmas.{length_root}
use Rattle.asm_writer.proofs.Rounding.{round_up_above}

-- Parts that have so many bytes each.
pub sizes : {X : Type 0} (f : X → List ℕ) (size : X → ℕ) → ((x : X) → length (f x) ≡ size x) → (xs : List X) → length (flat_map f xs) ≡ sum_by size xs
sizes f size each [] = refl
sizes f size each (x ∷ xs) = rw (length-append, each x, sizes f size each xs, sum_by-cons) refl

pub length_number : (number : Number) → length (number_bytes number) ≡ number_width number
length_number (Zeros count) = length-replicate {A = ℕ} count 0
length_number (Two n) = refl
length_number (Four n) = refl
length_number (Eight n) = refl

pub length_numbers : (numbers : List Number) → length (numbers_bytes numbers) ≡ numbers_width numbers
unfolding numbers_bytes numbers_width
length_numbers numbers = sizes number_bytes number_width length_number numbers

pub length_fields : (l : Layout) (fields : List Field) → length (fields_bytes l fields) ≡ row_width l fields
unfolding fields_bytes row_width
length_fields l fields = sizes (field_bytes l) (field_width l) (λ (field : Field). length_number (field_number l field)) fields

pub length_rows : (l : Layout) (rows : List (List Field)) → length (rows_bytes l rows) ≡ rows_width l rows
unfolding rows_bytes rows_width
length_rows l rows = sizes (fields_bytes l) (row_width l) (length_fields l) rows

pub length_padded : (unit n : ℕ) (bytes : List ℕ) → 1 ≤ unit → length bytes ≡ n → length (padded unit bytes) ≡ round_up unit n
unfolding padded
length_padded unit n bytes some is =
    let above = round_up_above unit (length bytes) some in
    let all : length (padded unit bytes) ≡ round_up unit (length bytes) = simp (length-append, length-replicate) (omega arith) in
    all ∙ ap (round_up unit) is

pub both : (a b : List ℕ) (m n : ℕ) → length a ≡ m → length b ≡ n → length (a ++ b) ≡ m + n
both a b m n p q = rw length-append (rw (p, q) refl)

-- The stream `#~`.
pub length_stream : (l : Layout) (ms : List MethodPlan) → length (tables_stream l ms) ≡ tables_size l ms
unfolding tables_stream tables_size
length_stream l ms =
    let numbers = length_numbers (stream_numbers l) in
    let counts = sizes (count_bytes l) (count_size l) (λ (table : Table). length_numbers (count_numbers l table)) all_tables in
    let rows = sizes (table_bytes l ms) (table_size l ms) (λ (table : Table). length_rows l (table_rows ms l.externs table)) all_tables in
    length_padded 4 _ _ (omega arith) (both _ _ _ _ (both _ _ _ _ numbers counts) rows)

-- Items that are packed.
length_pushed : (packing : Packing) (items : List (List ℕ)) → length (pushed_all packing items).bytes ≡ length packing.bytes + items_size items
unfolding pushed_all
length_pushed packing [] = sym (add-zero (length packing.bytes))
length_pushed packing (item ∷ items) =
    let rest = length_pushed (pushed packing item) items in
    let more : length (packing.bytes ++ item) ≡ length packing.bytes + length item = length-append packing.bytes item in
    let cons : items_size (item ∷ items) ≡ length item + items_size items = sum_by-cons length item items in
    rest ∙ (rw (more, cons) (add_assoc (length packing.bytes) (length item) (items_size items)))

length_packed : (items : List (List ℕ)) → length (packed items).bytes ≡ items_size items
unfolding packed
length_packed items = length_pushed (record { bytes = []; offsets = [] }) items ∙ zero-add (items_size items)

length_filled : (items : List (List ℕ)) → length (filled (packed items)).bytes ≡ round_up 4 (items_size items)
length_filled items = length_padded 4 _ (packed items).bytes (omega arith) (length_packed items)

-- The bodies.
length_body : (row : ℕ) (m : MethodPlan) → length (body row m) ≡ body_size m
unfolding body body_size numbers_width
length_body row m =
    let numbers : length (numbers_bytes (body_header row m)) ≡ 12 = length_numbers (body_header row m) in
    let above = round_up_above 4 (12 + length m.code.items) (omega arith) in
    simp (length-append, length-replicate, numbers) (omega arith)

each_size : (f : ℕ → MethodPlan → List (List ℕ)) (size : MethodPlan → ℕ) → ((index : ℕ) (m : MethodPlan) → items_size (f index m) ≡ size m) → (index : ℕ) (ms : List MethodPlan) → items_size (each_from index f ms) ≡ sum_by size ms
unfolding each_from
each_size f size each index [] = refl
each_size f size each index (m ∷ ms) = rw (sum_by-append, each index m, each_size f size each (index + 1) ms, sum_by-cons) refl

length_bodies : (ms : List MethodPlan) → length (bodies ms).bytes ≡ bodies_size ms
unfolding bodies
length_bodies ms =
    length_packed (each_from 0 (body_item ms) ms)
    ∙ each_size (body_item ms) body_size (λ (index : ℕ) (m : MethodPlan). zero-add _ ∙ length_body (locals_row ms index) m) 0 ms

-- The headers.
length_headers : (wide : Bool) (size : ℕ) → length (headers wide size) ≡ headers_size wide
unfolding headers headers_size section_header padded round_up numbers_bytes numbers_width
length_headers true size = refl
length_headers false size = refl

-- The metadata.
length_joined : (size : ℕ) (tables : List ℕ) (l : Layout) → length (joined size (streams tables l)).bytes ≡ length tables + length l.strings.bytes + length user_strings + length guids + length l.blobs.bytes
unfolding joined
length_joined size tables l = rw (length-append, length-append, length-append, length-append) refl

grouped : (r t s u g b : ℕ) → r + (t + s + u + g + b) ≡ r + t + s + u + g + b
grouped r t s u g b = omega arith

length_metadata : (all : Linked) → length (metadata (layout_of all) all.plan.methods.items) ≡ metadata_size all
unfolding metadata metadata_size root_size strings_heap blob_heap
length_metadata all =
    let l = layout_of all in
    let tables = tables_stream l all.plan.methods.items in
    let stream = length_stream l all.plan.methods.items in
    let strings = length_filled (string_items all) in
    let blobs = length_filled (blob_items all.plan.methods.items all.externs) in
    let prefix = length_root (length (root 0 (streams tables l))) tables l ∙ sym (length_root 0 tables l) in
    let parts = length_joined (length (root 0 (streams tables l))) tables l in
    both _ _ _ _ prefix (parts ∙ rw (stream, strings, blobs) refl) ∙ grouped _ _ _ _ _ _

-- The whole.
length_section : (all : Linked) → length (section_of all) ≡ section_size all
unfolding section section_size numbers_width
length_section all =
    let ms = all.plan.methods.items in
    let cli = length_numbers (cli_header (bodies_rva + length (bodies ms).bytes) (length (metadata (layout_of all) ms))) in
    length_padded file_alignment _ _ (omega arith) (both _ _ _ _ (both _ _ _ _ cli (length_bodies ms)) (length_metadata all))

pub length_linked : (all : Linked) → length (linked_bytes all) ≡ linked_size all
unfolding linked_bytes linked_size
length_linked all = both _ _ _ _ (length_headers all.plan.wide (length (section_of all))) (length_section all)

pub length_assembly : (plan : AsmPlan) → length (assembly_bytes plan) ≡ file_size plan
unfolding assembly_bytes file_size
length_assembly plan = length_linked (alone plan)

-- More methods than a token can tell apart pass the size of a file.
body_above : (m : MethodPlan) → 12 ≤ body_size m
unfolding body_size numbers_width
body_above m = let above = round_up_above 4 (12 + length m.code.items) (omega arith) in omega arith

few_bodies : (ms : List MethodPlan) → 12 * length ms ≤ bodies_size ms
few_bodies [] = omega arith
few_bodies (m ∷ ms) =
    let cons = sum_by-cons body_size m ms in
    let one = body_above m in
    let rest = few_bodies ms in
    omega arith

bodies_below : (all : Linked) → bodies_size all.plan.methods.items + metadata_size all ≤ linked_size all
unfolding linked_size section_size
bodies_below all =
    let above = round_up_above file_alignment (cli_header_size + bodies_size all.plan.methods.items + metadata_size all) (omega arith) in
    omega arith

passes : (size limit : ℕ) (within : Bool) → limit < size → (nat_le size limit && within) ≡ false
passes size limit within more = grind arith

pub too_many : (all : Linked) → 2 ^ 24 ≤ length all.plan.methods.items → IsFalse (linked_fits all)
unfolding linked_fits
too_many all many =
    let few = few_bodies all.plan.methods.items in
    let below = bodies_below all in
    passes (linked_size all) MAX_FILE_BYTES (list_all is_short_extern all.externs && list_all is_within all.plan.methods.items) (omega arith)

-- So do more externs: each has four names, and each name a zero.
ended_above : (name : List ℕ) → 1 ≤ length (zero_ended name)
unfolding zero_ended
ended_above name = let size = length-append name (0 ∷ []) in omega arith

few_names : (externs : List Extern) → 4 * length externs ≤ items_size (flat_map extern_name_items externs)
few_names [] = omega arith
few_names (e ∷ externs) =
    let a = ended_above e.assembly.items in
    let n = ended_above e.namespace.items in
    let c = ended_above e.class.items in
    let m = ended_above e.name.items in
    let rest = few_names externs in
    let whole = sum_by-append length (extern_name_items e) (flat_map extern_name_items externs) in
    let four : items_size (extern_name_items e) ≡ 0 + length (zero_ended e.assembly.items) + length (zero_ended e.namespace.items) + length (zero_ended e.class.items) + length (zero_ended e.name.items) = refl in
    omega arith

names_below : (all : Linked) → items_size (flat_map extern_name_items all.externs) ≤ items_size (string_items all)
names_below all =
    let prefix = map (name_item all.plan) cited_names ++ map method_name_item all.plan.methods.items in
    let names = flat_map extern_name_items all.externs in
    let own = own_name_items all.plan all.assembly in
    let two = sum_by-append length prefix names in
    let three = sum_by-append length (prefix ++ names) own in
    omega arith

strings_below : (all : Linked) → items_size (string_items all) + 108 ≤ metadata_size all
unfolding metadata_size root_size
strings_below all =
    let root = length_root 0 (tables_stream (layout_of all) all.plan.methods.items) (layout_of all) in
    let above = round_up_above 4 (items_size (string_items all)) (omega arith) in
    omega arith

pub externs_below : (all : Linked) → 4 * length all.externs + 108 ≤ linked_size all
externs_below all =
    let few = few_names all.externs in
    let names = names_below all in
    let strings = strings_below all in
    let below = bodies_below all in
    omega arith

pub too_many_externs : (all : Linked) → 2 ^ 24 ≤ length all.externs → IsFalse (linked_fits all)
unfolding linked_fits
too_many_externs all many =
    let below = externs_below all in
    passes (linked_size all) MAX_FILE_BYTES (list_all is_short_extern all.externs && list_all is_within all.plan.methods.items) (omega arith)

-- What passes a limit of its own does not fit.
past_first : (size first second : Bool) → IsFalse first → IsFalse (size && (first && second))
past_first true first second past = rw past refl
past_first false first second past = refl

past_second : (size first second : Bool) → IsFalse second → IsFalse (size && (first && second))
past_second true true second past = past
past_second true false second past = refl
past_second false first second past = refl

pub past_extern : (all : Linked) → IsFalse (list_all is_short_extern all.externs) → IsFalse (linked_fits all)
unfolding linked_fits
past_extern all past = past_first (nat_le (linked_size all) MAX_FILE_BYTES) (list_all is_short_extern all.externs) (list_all is_within all.plan.methods.items) past

pub past_method : (all : Linked) → IsFalse (list_all is_within all.plan.methods.items) → IsFalse (linked_fits all)
unfolding linked_fits
past_method all past = past_second (nat_le (linked_size all) MAX_FILE_BYTES) (list_all is_short_extern all.externs) (list_all is_within all.plan.methods.items) past
