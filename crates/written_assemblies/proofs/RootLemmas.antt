-- The written root of the metadata, and the streams after it, as they are read.
use Rattle.std.proofs.Common.{◌≡◌, ℕ, ◌+◌, ◌^◌, ◌<◌, ◌≤◌, List, ◌++◌, length, take, drop, true, Some, None, refl, ap, ap₂, ◌∙◌, arith, nat_le}
use Rattle.std.specs.Prelude.{codes}
use Rattle.std.proofs.lemmas.Bool.{le-leb, leb-true}
use Rattle.std.proofs.lemmas.List.{length-append}
use Rattle.cc_base.specs.LittleEndian.{little_number, little_bytes, u16_at, u32_at}
use Rattle.cc_base.specs.Tests.{first_of, must}
use Rattle.cc_base.proofs.ByteLemmas.{number_back}
use Rattle.cc_base.proofs.TestLemmas.{none_failed, first_of-nil, first_of-append_none}
use Rattle.metadata_tables.specs.declared.fault.TableFault.TheVariants.{BadRoot}
use Rattle.metadata_tables.specs.Tests.{fields}
use Rattle.metadata_tables.specs.Layout.{start_of, end_of, tables_at, tables_end}
use Rattle.metadata_tables.specs.Root.{version_width, stream_count, headers_at, root_tests, name_of, name_width, stream_of, header_tests, headers_tests, stream_among, stream, presence_of, presence_tests, streams_tests, bytes_of, heap}
use Rattle.asm_writer.specs.declared.layout.Layout.{Layout}
use Rattle.asm_writer.specs.Metadata.{user_strings, guids, padded_text, root_prefix, root, joined, streams}
use Rattle.asm_writer.specs.Names as names
use Rattle.asm_writer.specs.Numbers.{numbers_bytes}
use Rattle.asm_writer.specs.Padding.{padded, round_up}
use Rattle.written_assemblies.specs.Parts.{Stands}
use Rattle.written_assemblies.proofs.TextLemmas.{text_back}
use Rattle.written_assemblies.proofs.PartLemmas.{stands_behind, stands_first, stands_second, stands_at, stands_reach, stands_take}

-- The root and the streams, of which the first is these tables.
abbrev pub laid : List ℕ → Layout → List ℕ
laid tables l = root 108 (streams tables l) ++ (joined 108 (streams tables l)).bytes

pub length_root : (tables : List ℕ) (l : Layout) → length (root 108 (streams tables l)) ≡ 108
unfolding root root_prefix joined numbers_bytes padded_text padded round_up names.zero_ended
length_root tables l = refl

length_bytes : (tables : List ℕ) (l : Layout) → length (joined 108 (streams tables l)).bytes ≡ length tables + length l.strings.bytes + 20 + 16 + length l.blobs.bytes
unfolding joined
length_bytes tables l = rw (length-append, length-append, length-append, length-append) refl

pub length_laid : (tables : List ℕ) (l : Layout) → length (laid tables l) ≡ 108 + (length tables + length l.strings.bytes + 20 + 16 + length l.blobs.bytes)
length_laid tables l = length-append (root 108 (streams tables l)) (joined 108 (streams tables l)).bytes ∙ ap₂ (λ (a b : ℕ). a + b) (length_root tables l) (length_bytes tables l)

-- Where each stream stands, and its size.
stands_joined : (tables : List ℕ) (l : Layout) → Stands (joined 108 (streams tables l)).bytes (laid tables l) 108
stands_joined tables l = stands_at _ _ _ _ (length_root tables l) (stands_behind (root 108 (streams tables l)) (joined 108 (streams tables l)).bytes)

pub stands_tables : (tables : List ℕ) (l : Layout) → Stands tables (laid tables l) 108
unfolding joined
stands_tables tables l = stands_first _ _ _ _ (stands_first _ _ _ _ (stands_first _ _ _ _ (stands_first _ _ _ _ (stands_joined tables l))))

pub stands_strings : (tables : List ℕ) (l : Layout) → Stands l.strings.bytes (laid tables l) (108 + length tables)
unfolding joined
stands_strings tables l = stands_second _ _ _ _ (stands_first _ _ _ _ (stands_first _ _ _ _ (stands_first _ _ _ _ (stands_joined tables l))))

pub stands_user_strings : (tables : List ℕ) (l : Layout) → Stands user_strings (laid tables l) (108 + length (tables ++ l.strings.bytes))
unfolding joined
stands_user_strings tables l = stands_second _ _ _ _ (stands_first _ _ _ _ (stands_first _ _ _ _ (stands_joined tables l)))

pub stands_guids : (tables : List ℕ) (l : Layout) → Stands guids (laid tables l) (108 + length (tables ++ l.strings.bytes ++ user_strings))
unfolding joined
stands_guids tables l = stands_second _ _ _ _ (stands_first _ _ _ _ (stands_joined tables l))

pub stands_blobs : (tables : List ℕ) (l : Layout) → Stands l.blobs.bytes (laid tables l) (108 + length (tables ++ l.strings.bytes ++ user_strings ++ guids))
unfolding joined
stands_blobs tables l = stands_second _ _ _ _ (stands_joined tables l)

-- What the headers of the streams say: where each begins, and its size.
number_here : (tables : List ℕ) (l : Layout) (n : ℕ) (rest : List ℕ) → length (laid tables l) < 2 ^ 32 → n ≤ length (laid tables l) → little_number 4 (little_bytes 4 n ++ rest) ≡ n
number_here tables l n rest few least = number_back 4 n rest (omega (arith, few, least))

pub record IsHeader (md : List ℕ) (header at size : ℕ) : Type 0 where
  pub begins : u32_at md header ≡ at
  pub has : u32_at md (header + 4) ≡ size

tables_header : (tables : List ℕ) (l : Layout) → length (laid tables l) < 2 ^ 32 → IsHeader (laid tables l) 32 108 (length tables)
unfolding u32_at root root_prefix joined numbers_bytes padded_text padded round_up names.zero_ended
tables_header tables l few =
    let end = stands_reach _ _ _ (stands_tables tables l) in
    record { begins = refl; has = number_here tables l (length tables) (drop 40 (laid tables l)) few (omega (arith, end)) }

strings_header : (tables : List ℕ) (l : Layout) → length (laid tables l) < 2 ^ 32 → IsHeader (laid tables l) 44 (108 + length tables) (length l.strings.bytes)
unfolding u32_at root root_prefix joined numbers_bytes padded_text padded round_up names.zero_ended
strings_header tables l few =
    let end = stands_reach _ _ _ (stands_strings tables l) in
    record { begins = number_here tables l (108 + length tables) (drop 48 (laid tables l)) few (omega (arith, end)); has = number_here tables l (length l.strings.bytes) (drop 52 (laid tables l)) few (omega (arith, end)) }

user_strings_header : (tables : List ℕ) (l : Layout) → length (laid tables l) < 2 ^ 32 → IsHeader (laid tables l) 64 (108 + length (tables ++ l.strings.bytes)) (length user_strings)
unfolding u32_at root root_prefix joined numbers_bytes padded_text padded round_up names.zero_ended
user_strings_header tables l few =
    let end = stands_reach _ _ _ (stands_user_strings tables l) in
    record { begins = number_here tables l (108 + length (tables ++ l.strings.bytes)) (drop 68 (laid tables l)) few (omega (arith, end)); has = refl }

guids_header : (tables : List ℕ) (l : Layout) → length (laid tables l) < 2 ^ 32 → IsHeader (laid tables l) 76 (108 + length (tables ++ l.strings.bytes ++ user_strings)) (length guids)
unfolding u32_at root root_prefix joined numbers_bytes padded_text padded round_up names.zero_ended
guids_header tables l few =
    let end = stands_reach _ _ _ (stands_guids tables l) in
    record { begins = number_here tables l (108 + length (tables ++ l.strings.bytes ++ user_strings)) (drop 80 (laid tables l)) few (omega (arith, end)); has = refl }

blobs_header : (tables : List ℕ) (l : Layout) → length (laid tables l) < 2 ^ 32 → IsHeader (laid tables l) 92 (108 + length (tables ++ l.strings.bytes ++ user_strings ++ guids)) (length l.blobs.bytes)
unfolding u32_at root root_prefix joined numbers_bytes padded_text padded round_up names.zero_ended
blobs_header tables l few =
    let end = stands_reach _ _ _ (stands_blobs tables l) in
    record { begins = number_here tables l (108 + length (tables ++ l.strings.bytes ++ user_strings ++ guids)) (drop 96 (laid tables l)) few (omega (arith, end)); has = number_here tables l (length l.blobs.bytes) (drop 100 (laid tables l)) few (omega (arith, end)) }

-- The names of the streams, as far as they are padded, and where the header after each stands.
tables_name : (tables : List ℕ) (l : Layout) → name_of (laid tables l) 32 ≡ Some (codes "#~")
unfolding name_of root root_prefix joined numbers_bytes padded_text padded round_up names.zero_ended
tables_name tables l = text_back (codes "#~") (drop 43 (laid tables l)) (refl, (refl, tt))

tables_width : (tables : List ℕ) (l : Layout) → name_width (laid tables l) 32 ≡ 4
unfolding name_width
tables_width tables l = rw (tables_name tables l) refl

strings_name : (tables : List ℕ) (l : Layout) → name_of (laid tables l) 44 ≡ Some (codes "#Strings")
unfolding name_of root root_prefix joined numbers_bytes padded_text padded round_up names.zero_ended
strings_name tables l = text_back (codes "#Strings") (drop 61 (laid tables l)) (refl, (refl, (refl, (refl, (refl, (refl, (refl, (refl, tt))))))))

strings_width : (tables : List ℕ) (l : Layout) → name_width (laid tables l) 44 ≡ 12
unfolding name_width
strings_width tables l = rw (strings_name tables l) refl

user_strings_name : (tables : List ℕ) (l : Layout) → name_of (laid tables l) 64 ≡ Some (codes "#US")
unfolding name_of root root_prefix joined numbers_bytes padded_text padded round_up names.zero_ended
user_strings_name tables l = text_back (codes "#US") (drop 76 (laid tables l)) (refl, (refl, (refl, tt)))

user_strings_width : (tables : List ℕ) (l : Layout) → name_width (laid tables l) 64 ≡ 4
unfolding name_width
user_strings_width tables l = rw (user_strings_name tables l) refl

guids_name : (tables : List ℕ) (l : Layout) → name_of (laid tables l) 76 ≡ Some (codes "#GUID")
unfolding name_of root root_prefix joined numbers_bytes padded_text padded round_up names.zero_ended
guids_name tables l = text_back (codes "#GUID") (drop 90 (laid tables l)) (refl, (refl, (refl, (refl, (refl, tt)))))

guids_width : (tables : List ℕ) (l : Layout) → name_width (laid tables l) 76 ≡ 8
unfolding name_width
guids_width tables l = rw (guids_name tables l) refl

blobs_name : (tables : List ℕ) (l : Layout) → name_of (laid tables l) 92 ≡ Some (codes "#Blob")
unfolding name_of root root_prefix joined numbers_bytes padded_text padded round_up names.zero_ended
blobs_name tables l = text_back (codes "#Blob") (drop 106 (laid tables l)) (refl, (refl, (refl, (refl, (refl, tt)))))

blobs_width : (tables : List ℕ) (l : Layout) → name_width (laid tables l) 92 ≡ 8
unfolding name_width
blobs_width tables l = rw (blobs_name tables l) refl

-- The streams by their names.
count_is : (tables : List ℕ) (l : Layout) → (stream_count (laid tables l) ≡ 5) × (headers_at (laid tables l) ≡ 32)
unfolding stream_count headers_at version_width u16_at u32_at root root_prefix joined numbers_bytes padded_text padded round_up names.zero_ended
count_is tables l = (refl, refl)

tables_named : (tables : List ℕ) (l : Layout) → stream (laid tables l) (codes "#~") ≡ Some (stream_of (laid tables l) 32)
unfolding stream stream_among
tables_named tables l = rw ((count_is tables l).0, (count_is tables l).1, tables_name tables l) refl

strings_named : (tables : List ℕ) (l : Layout) → stream (laid tables l) (codes "#Strings") ≡ Some (stream_of (laid tables l) 44)
unfolding stream stream_among
strings_named tables l = rw ((count_is tables l).0, (count_is tables l).1, tables_name tables l, tables_width tables l, strings_name tables l) refl

blobs_named : (tables : List ℕ) (l : Layout) → stream (laid tables l) (codes "#Blob") ≡ Some (stream_of (laid tables l) 92)
unfolding stream stream_among
blobs_named tables l = rw ((count_is tables l).0, (count_is tables l).1, tables_name tables l, tables_width tables l, strings_name tables l, strings_width tables l, user_strings_name tables l, user_strings_width tables l, guids_name tables l, guids_width tables l, blobs_name tables l) refl

-- The stream `#~`, and the bytes of the two heaps.
pub tables_at_is : (tables : List ℕ) (l : Layout) → length (laid tables l) < 2 ^ 32 → tables_at (laid tables l) ≡ 108
unfolding tables_at stream_of
tables_at_is tables l few = ap start_of (tables_named tables l) ∙ (tables_header tables l few).begins

pub tables_end_is : (tables : List ℕ) (l : Layout) → length (laid tables l) < 2 ^ 32 → tables_end (laid tables l) ≡ 108 + length tables
unfolding tables_end stream_of
tables_end_is tables l few = ap end_of (tables_named tables l) ∙ ap₂ (λ (at size : ℕ). at + size) (tables_header tables l few).begins (tables_header tables l few).has

pub strings_heap_is : (tables : List ℕ) (l : Layout) → length (laid tables l) < 2 ^ 32 → heap (laid tables l) (codes "#Strings") ≡ l.strings.bytes
unfolding heap stream_of
strings_heap_is tables l few =
    ap (bytes_of (laid tables l)) (strings_named tables l)
    ∙ ap₂ (λ (at size : ℕ). take size (drop at (laid tables l))) (strings_header tables l few).begins (strings_header tables l few).has
    ∙ stands_take _ _ _ (stands_strings tables l)

pub blob_heap_is : (tables : List ℕ) (l : Layout) → length (laid tables l) < 2 ^ 32 → heap (laid tables l) (codes "#Blob") ≡ l.blobs.bytes
unfolding heap stream_of
blob_heap_is tables l few =
    ap (bytes_of (laid tables l)) (blobs_named tables l)
    ∙ ap₂ (λ (at size : ℕ). take size (drop at (laid tables l))) (blobs_header tables l few).begins (blobs_header tables l few).has
    ∙ stands_take _ _ _ (stands_blobs tables l)

-- No test of the root and of the streams fails.
passes : (md : List ℕ) (n : ℕ) → n ≤ length md → must (nat_le n (length md)) BadRoot ≡ None
passes md n within = rw (le-leb n (length md) within) refl

within_root : (tables : List ℕ) (l : Layout) (n : ℕ) → nat_le n 108 ≡ true → must (nat_le n (length (laid tables l))) BadRoot ≡ None
within_root tables l n within =
    let least : n ≤ 108 = leb-true n 108 within in
    let all = length_laid tables l in
    passes (laid tables l) n (omega (arith, least, all))

stream_ends : (md part : List ℕ) (header at : ℕ) → IsHeader md header at (length part) → Stands part md at
    → must (nat_le (u32_at md header + u32_at md (header + 4)) (length md)) BadRoot ≡ None
stream_ends md part header at is stands =
    let end : at + length part ≤ length md = stands_reach part md at stands in
    rw (is.begins, is.has, le-leb (at + length part) (length md) end) refl

root_pass : (tables : List ℕ) (l : Layout) → first_of (root_tests (laid tables l)) ≡ None
unfolding root_tests fields version_width u32_at root root_prefix joined numbers_bytes padded_text padded round_up names.zero_ended
root_pass tables l =
    let t = within_root tables l in
    (none_failed (root_tests (laid tables l))).1
    (t 4 refl, (refl, (t 6 refl, (t 8 refl, (t 12 refl, (t 16 refl, (t 28 refl, (t 30 refl, (t 32 refl, tt)))))))))

-- A stream header with its name and its stream passes its tests.
header_passes : (tables : List ℕ) (l : Layout) (header width at : ℕ) (name part : List ℕ) → nat_le (header + 8 + width) 108 ≡ true
    → name_of (laid tables l) header ≡ Some name → name_width (laid tables l) header ≡ width
    → IsHeader (laid tables l) header at (length part) → Stands part (laid tables l) at → first_of (header_tests (laid tables l) header) ≡ None
unfolding header_tests fields stream_of
header_passes tables l header width at name part within name_is width_is is stands =
    let end : header + 8 + width ≤ 108 = leb-true (header + 8 + width) 108 within in
    let all = length_laid tables l in
    let md = laid tables l in
    let first = passes md (header + 4) (omega (arith, end, all)) in
    let second = passes md (header + 4 + 4) (omega (arith, end, all)) in
    let third = passes md (header + 8 + width) (omega (arith, end, all)) in
    (none_failed (header_tests md header)).1
    (first, (second, (rw name_is refl, (rw width_is third, (stream_ends md part header at is stands, tt)))))

stream_headers_pass : (tables : List ℕ) (l : Layout) → length (laid tables l) < 2 ^ 32 → first_of (headers_tests (laid tables l) 5 32) ≡ None
unfolding headers_tests
stream_headers_pass tables l few =
    let first = header_passes tables l 32 4 _ _ _ refl (tables_name tables l) (tables_width tables l) (tables_header tables l few) (stands_tables tables l) in
    let second = header_passes tables l 44 12 _ _ _ refl (strings_name tables l) (strings_width tables l) (strings_header tables l few) (stands_strings tables l) in
    let third = header_passes tables l 64 4 _ _ _ refl (user_strings_name tables l) (user_strings_width tables l) (user_strings_header tables l few) (stands_user_strings tables l) in
    let fourth = header_passes tables l 76 8 _ _ _ refl (guids_name tables l) (guids_width tables l) (guids_header tables l few) (stands_guids tables l) in
    let fifth = header_passes tables l 92 8 _ _ _ refl (blobs_name tables l) (blobs_width tables l) (blobs_header tables l few) (stands_blobs tables l) in
    rw (tables_width tables l, strings_width tables l, user_strings_width tables l, guids_width tables l)
    (first_of-append_none _ _ first ∙ (first_of-append_none _ _ second ∙ (first_of-append_none _ _ third ∙ (first_of-append_none _ _ fourth ∙ (first_of-append_none _ _ fifth ∙ first_of-nil)))))

presence_pass : (tables : List ℕ) (l : Layout) → first_of (presence_tests (laid tables l)) ≡ None
unfolding presence_tests presence_of first_of
presence_pass tables l = rw (tables_named tables l, strings_named tables l, blobs_named tables l) refl

pub streams_pass : (tables : List ℕ) (l : Layout) → length (laid tables l) < 2 ^ 32 → first_of (streams_tests (laid tables l)) ≡ None
unfolding streams_tests
streams_pass tables l few =
    let md = laid tables l in
    let is = count_is tables l in
    let headers : first_of (headers_tests md (stream_count md) (headers_at md)) ≡ None =
    ap₂ (λ (n at : ℕ). first_of (headers_tests md n at)) is.0 is.1 ∙ stream_headers_pass tables l few in
    first_of-append_none _ _ (first_of-append_none _ _ (root_pass tables l) ∙ headers) ∙ presence_pass tables l
