-- The bodies that were written, as they are read.
use Rattle.std.proofs.Common.{◌≡◌, ℕ, ◌+◌, ◌-◌, ◌^◌, ◌<◌, ◌≤◌, List, [], ◌∷◌, ◌++◌, length, take, drop, Bool, true, false, Some, refl, sym, ap, ap₂, subst, ◌∙◌, append_assoc, arith, slice_index, inl, inr}
use Rattle.std.specs.Prelude.{IsTrue, option_map, slice_range}
use Rattle.std.specs.Option.{option_and_then}
use Rattle.std.proofs.lemmas.Bool.{cases_lt}
use Rattle.std.proofs.lemmas.List.{length-append, take-append-le, drop_at, take_at}
use Rattle.cc_base.specs.LittleEndian.{little_bytes, u16_at, u32_at}
use Rattle.cc_base.proofs.ByteLemmas.{number_back}
use Rattle.pe_reader.specs.Addresses.{bytes_at}
use Rattle.il_decoder.specs.declared.body.Header.{Header}
use Rattle.il_decoder.specs.Body.{fat_header, header_from, header_at, code_at, body_code}
use Rattle.asm_image.specs.Tokens.{locals_of}
use Rattle.asm_writer.specs.Linked.{Linked}
use Rattle.asm_writer.specs.declared.plan.MethodPlan.{MethodPlan}
use Rattle.asm_writer.specs.Assembly.{section, linked_bytes}
use Rattle.asm_writer.specs.Bodies.{has_locals, locals_row, locals_token, body_header, body, bodies}
use Rattle.asm_writer.specs.Headers.{bodies_rva}
use Rattle.asm_writer.specs.Numbers.{numbers_bytes, numbers_width}
use Rattle.asm_writer.specs.Padding.{fill}
use Rattle.asm_writer.specs.Sizes.{linked_fits}
use Rattle.asm_writer.proofs.Lengths.{length_numbers, too_many}
use Rattle.written_assemblies.specs.BodiesRead.{IsMethodAt, ReadsBody}
use Rattle.written_assemblies.specs.Methods.{body_rva}
use Rattle.written_assemblies.specs.Parts.{Stands}
use Rattle.written_assemblies.specs.Readable.{IsReadable}
use Rattle.written_assemblies.specs.Written.{linked_metadata}
use Rattle.written_assemblies.proofs.PartLemmas.{stands_within, stands_drop, stands_reach}
use Rattle.written_assemblies.proofs.SectionLemmas.{place_there}
use Rattle.written_assemblies.proofs.HeaderLemmas.{only_section}
use Rattle.written_assemblies.proofs.ImageLemmas.{file_of, stands_bodies, section_end, section_room}
use Rattle.written_assemblies.proofs.LayoutLemmas.{body_stands}
use Rattle.written_assemblies.proofs.LocalsLemmas.{locals_are, few_rows}
use Rattle.written_assemblies.proofs.ReadLemmas.{few_variables_at, few_code_at}
use Rattle.written_assemblies.proofs.PlanLemmas.{few_in_file, some_metadata, metadata_laid, file_is, source_metadata}
use Rattle.written_assemblies.proofs.WholeLemmas.{is_taken}

-- The bytes at the address of a part of the bodies, as many as the part has or fewer.
part_at : (wide : Bool) (code md part : List ℕ) (offset len : ℕ) → length (file_of wide code md) < 2 ^ 31 → 0 < length md → Stands part code offset → len ≤ length part
    → bytes_at (file_of wide code md) (0x2000 + (72 + offset)) len ≡ Some (take len part)
unfolding bytes_at
part_at wide code md part offset len few some stands within =
    let file : List ℕ = file_of wide code md in
    let size : ℕ = length (section code md) in
    let end = section_end wide code md in
    let room = section_room code md in
    let reach = stands_reach part code offset stands in
    let place = place_there file 0x2000 size 0x200 (72 + offset) len (only_section wide size (section code md) (omega (arith, end, few))) (omega (arith, room, reach, some)) (omega (arith, room, reach, within)) end in
    let here = stands_within _ _ _ _ _ stands (stands_bodies wide code md) in
    let rest = stands_drop part file (0x200 + 72 + offset) here in
    let same : 0x200 + (72 + offset) ≡ 0x200 + 72 + offset = omega arith in
    let width : 0x200 + (72 + offset) + len - (0x200 + (72 + offset)) ≡ len = omega arith in
    ap (option_map (λ at. slice_range file at (at + len))) place
    ∙ ap (λ (n : ℕ). Some (take n (drop (0x200 + (72 + offset)) file))) width
    ∙ ap (λ (at : ℕ). Some (take len (drop at file))) same
    ∙ ap (λ (xs : List ℕ). Some (take len xs)) rest
    ∙ ap (λ (xs : List ℕ). Some xs) (take-append-le len part here.rest within)

-- ---- the header

-- The header of a method whose token of locals is this one.
abbrev fat : MethodPlan → ℕ → Header
fat m token = record { len = 12; code_len = length m.code.items; max_stack = m.max_stack; init_locals = true; more_sections = false; local_token = token }

header_back : (m : MethodPlan) (row : ℕ) → m.max_stack < 2 ^ 16 → length m.code.items < 2 ^ 32 → locals_token row m < 2 ^ 32 → fat_header (numbers_bytes (body_header row m)) ≡ Some (fat m (locals_token row m))
unfolding fat_header numbers_bytes u16_at u32_at
header_back m row stack size token =
    let stack_is = number_back 2 m.max_stack (little_bytes 4 (length m.code.items) ++ little_bytes 4 (locals_token row m) ++ []) stack in
    let size_is = number_back 4 (length m.code.items) (little_bytes 4 (locals_token row m) ++ []) size in
    let token_is = number_back 4 (locals_token row m) [] token in
    ap₂ (λ (n : ℕ) (f : ℕ × ℕ). Some (record { len = 12; code_len = f.0; max_stack = n; init_locals = true; more_sections = false; local_token = f.1 })) stack_is (ap₂ (λ (a b : ℕ). (a, b)) size_is token_is)

length_header : (row : ℕ) (m : MethodPlan) → length (numbers_bytes (body_header row m)) ≡ 12
unfolding numbers_width
length_header row m = length_numbers (body_header row m)

body_room : (row : ℕ) (m : MethodPlan) → 12 + length m.code.items ≤ length (body row m)
unfolding body
body_room row m =
    let header = length_header row m in
    let prefix = length-append (numbers_bytes (body_header row m)) m.code.items in
    let all = length-append (numbers_bytes (body_header row m) ++ m.code.items) (fill 4 (numbers_width (body_header row m) + length m.code.items)) in
    omega (arith, header, prefix, all)

first_byte : (row : ℕ) (m : MethodPlan) → take 1 (body row m) ≡ 0x13 ∷ []
unfolding body numbers_bytes
first_byte row m = refl

header_bytes : (row : ℕ) (m : MethodPlan) → take 12 (body row m) ≡ numbers_bytes (body_header row m)
unfolding body
header_bytes row m =
    ap (take 12) (append_assoc (numbers_bytes (body_header row m)) m.code.items (fill 4 (numbers_width (body_header row m) + length m.code.items)))
    ∙ take_at (numbers_bytes (body_header row m)) _ 12 (length_header row m)

code_bytes : (row : ℕ) (m : MethodPlan) → drop 12 (take (12 + length m.code.items) (body row m)) ≡ m.code.items
unfolding body
code_bytes row m =
    let prefix : length (numbers_bytes (body_header row m) ++ m.code.items) ≡ 12 + length m.code.items = length-append (numbers_bytes (body_header row m)) m.code.items ∙ ap (λ (n : ℕ). n + length m.code.items) (length_header row m) in
    ap (drop 12) (take_at (numbers_bytes (body_header row m) ++ m.code.items) (fill 4 (numbers_width (body_header row m) + length m.code.items)) (12 + length m.code.items) prefix)
    ∙ drop_at (numbers_bytes (body_header row m)) m.code.items 12 (length_header row m)

-- What stands at an address where the bytes of a body do.
header_there : (file : List ℕ) (rva row : ℕ) (m : MethodPlan) → m.max_stack < 2 ^ 16 → length m.code.items < 2 ^ 32 → locals_token row m < 2 ^ 32
    → bytes_at file rva 1 ≡ Some (take 1 (body row m)) → bytes_at file rva 12 ≡ Some (take 12 (body row m)) → header_at file rva ≡ Some (fat m (locals_token row m))
unfolding header_at
header_there file rva row m stack size token one twelve =
    ap (option_and_then (λ found. header_from file rva (slice_index found 0))) (one ∙ ap (λ (xs : List ℕ). Some xs) (first_byte row m))
    ∙ ap (option_and_then fat_header) (twelve ∙ ap (λ (xs : List ℕ). Some xs) (header_bytes row m))
    ∙ header_back m row stack size token

code_there : (file : List ℕ) (rva row : ℕ) (m : MethodPlan) → header_at file rva ≡ Some (fat m (locals_token row m))
    → bytes_at file rva (12 + length m.code.items) ≡ Some (take (12 + length m.code.items) (body row m)) → body_code file rva ≡ Some m.code.items
unfolding body_code code_at
code_there file rva row m header whole =
    ap (option_and_then (code_at file rva)) header
    ∙ ap (option_map (drop 12)) whole ∙ ap (λ (xs : List ℕ). Some xs) (code_bytes row m)

-- ---- of a plan

token_small : (row : ℕ) (m : MethodPlan) (has : Bool) → has_locals m ≡ has → row < 2 ^ 24 → locals_token row m < 2 ^ 32
token_small row m true has few = rw has (omega (arith, few))
token_small row m false none few = rw none (omega arith)

few_methods : (source : Linked) → IsTrue (linked_fits source) → length source.plan.methods.items < 2 ^ 24
few_methods source fit =
    elim (cases_lt (length source.plan.methods.items) (2 ^ 24)) [
      | inl few ↦ few
      | inr many ↦ let no = too_many source many in absurd cc
    ]

rva_same : (offset : ℕ) → bodies_rva + offset ≡ 0x2000 + (72 + offset)
unfolding numbers_width
rva_same offset = omega arith

body_reads : (source : Linked) (index : ℕ) (m : MethodPlan) → IsTrue (linked_fits source) → IsReadable source.plan → IsMethodAt source.plan index m → ReadsBody source.plan (linked_bytes source) index m
unfolding body_rva numbers_width
body_reads source index m fit readable at =
    let t = is_taken source fit readable in
    let ms = source.plan.methods.items in
    let row : ℕ = locals_row ms index in
    let few = subst (λ (b : List ℕ). length b < 2 ^ 31) (file_is source) (few_in_file source fit) in
    let some = some_metadata source in
    let methods = few_methods source fit in
    let rows = few_rows ms index at.0 in
    let variables = few_variables_at source index m t at.0 at.1 in
    let code = few_code_at source index m t at.0 at.1 in
    let room = body_room row m in
    let stands = body_stands ms index m at.0 at.1 in
    let within = at.0 in
    let token = token_small row m (has_locals m) refl (omega (arith, methods, rows, within)) in
    let there = λ (len : ℕ) (fitting : len ≤ length (body row m)).
    ap (λ (file : List ℕ). bytes_at file (bodies_rva + slice_index (bodies ms).offsets index) len) (file_is source)
    ∙ ap (λ (rva : ℕ). bytes_at (file_of source.plan.wide (bodies ms).bytes (linked_metadata source)) rva len) (rva_same (slice_index (bodies ms).offsets index))
    ∙ part_at source.plan.wide (bodies ms).bytes (linked_metadata source) (body row m) (slice_index (bodies ms).offsets index) len few some stands fitting in
    let header = header_there (linked_bytes source) (bodies_rva + slice_index (bodies ms).offsets index) row m (omega (arith, variables)) (omega (arith, code)) token (there 1 (omega (arith, room))) (there 12 (omega (arith, room))) in
    record {
      header = header;
      code = code_there (linked_bytes source) (bodies_rva + slice_index (bodies ms).offsets index) row m header (there (12 + length m.code.items) room);
      locals = ap (λ (md : List ℕ). locals_of md (locals_token row m)) (source_metadata source (linked_bytes source) fit refl ∙ metadata_laid source) ∙ locals_are source index m t at.0 at.1 methods;
    }

-- The body of each method stands in the file, with its locals.
pub whole_bodies : (source : Linked) (bytes : List ℕ) (index : ℕ) (m : MethodPlan) → IsTrue (linked_fits source) → IsReadable source.plan → bytes ≡ linked_bytes source → IsMethodAt source.plan index m → ReadsBody source.plan bytes index m
whole_bodies source bytes index m fit readable is at = subst (λ (b : List ℕ). ReadsBody source.plan b index m) (sym is) (body_reads source index m fit readable at)
