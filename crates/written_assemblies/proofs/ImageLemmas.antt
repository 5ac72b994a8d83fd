-- The written file, as its headers are read: no fault, and the metadata where it was written.
use Rattle.std.proofs.Common.{◌≡◌, ℕ, ◌+◌, ◌^◌, ◌<◌, ◌≤◌, List, [], ◌∷◌, ◌++◌, length, Bool, Option, Some, None, refl, ap, ap₂, ◌∙◌, arith}
use Rattle.std.specs.Prelude.{slice_range, unwrap_or}
use Rattle.std.proofs.lemmas.List.{length-append}
use Rattle.cc_base.specs.LittleEndian.{u32_at}
use Rattle.cc_base.specs.Tests.{first_of}
use Rattle.cc_base.proofs.TestLemmas.{first_of-append_none}
use Rattle.pe_reader.specs.Addresses.{place_of, cli_place, cli_header_at, metadata_rva, metadata_size, metadata_place, metadata_at, metadata}
use Rattle.pe_reader.specs.Faults.{cli_tests, pe_tests, first_pe_fault}
use Rattle.asm_writer.specs.declared.number.Number.TheVariants.{Zeros, Four}
use Rattle.asm_writer.specs.Assembly.{section}
use Rattle.asm_writer.specs.Headers.{file_alignment, bodies_rva, cli_header, headers}
use Rattle.asm_writer.specs.Numbers.{numbers_bytes, numbers_width}
use Rattle.asm_writer.specs.Padding.{fill, padded}
use Rattle.written_assemblies.specs.Parts.{Stands}
use Rattle.written_assemblies.proofs.PartLemmas.{stands_behind, stands_first, stands_second, stands_at, stands_reach, stands_slice}
use Rattle.asm_writer.proofs.Lengths.{length_numbers}
use Rattle.written_assemblies.proofs.NumberLemmas.{four_is}
use Rattle.written_assemblies.proofs.SectionLemmas.{place_there}
use Rattle.written_assemblies.proofs.HeaderLemmas.{length_headers, headers_pass, cli_rva_is, only_section}

-- The file of these bodies and this metadata.
abbrev pub file_of : Bool → List ℕ → List ℕ → List ℕ
file_of wide bodies md = headers wide (length (section bodies md)) ++ section bodies md

-- The CLI header of these bodies and this metadata.
abbrev pub cli_bytes : List ℕ → List ℕ → List ℕ
cli_bytes bodies md = numbers_bytes (cli_header (bodies_rva + length bodies) (length md))

-- ---- where the parts stand

length_cli : (bodies md : List ℕ) → length (cli_bytes bodies md) ≡ 72
unfolding numbers_width
length_cli bodies md = length_numbers (cli_header (bodies_rva + length bodies) (length md))

pub stands_section : (wide : Bool) (bodies md : List ℕ) → Stands (section bodies md) (file_of wide bodies md) 0x200
stands_section wide bodies md =
    stands_at _ _ _ _ (length_headers wide (length (section bodies md)))
    (stands_behind (headers wide (length (section bodies md))) (section bodies md))

stands_filled : (wide : Bool) (bodies md : List ℕ) → Stands (cli_bytes bodies md ++ bodies ++ md) (file_of wide bodies md) 0x200
unfolding section padded
stands_filled wide bodies md = stands_first _ _ _ _ (stands_section wide bodies md)

stands_cli : (wide : Bool) (bodies md : List ℕ) → Stands (cli_bytes bodies md) (file_of wide bodies md) 0x200
stands_cli wide bodies md = stands_first _ _ _ _ (stands_first _ _ _ _ (stands_filled wide bodies md))

pub stands_bodies : (wide : Bool) (bodies md : List ℕ) → Stands bodies (file_of wide bodies md) (0x200 + 72)
stands_bodies wide bodies md =
    stands_at _ _ _ _ (ap (λ (k : ℕ). 0x200 + k) (length_cli bodies md))
    (stands_second _ _ _ _ (stands_first (cli_bytes bodies md ++ bodies) md _ _ (stands_filled wide bodies md)))

pub stands_metadata : (wide : Bool) (bodies md : List ℕ) → Stands md (file_of wide bodies md) (0x200 + (72 + length bodies))
stands_metadata wide bodies md =
    let prefix : length (cli_bytes bodies md ++ bodies) ≡ 72 + length bodies =
    length-append (cli_bytes bodies md) bodies ∙ ap (λ (k : ℕ). k + length bodies) (length_cli bodies md) in
    stands_at _ _ _ _ (ap (λ (k : ℕ). 0x200 + k) prefix)
    (stands_second (cli_bytes bodies md ++ bodies) md _ _ (stands_filled wide bodies md))

-- The section ends with the file, and has room for the CLI header, the bodies and the metadata.
pub section_end : (wide : Bool) (bodies md : List ℕ) → 0x200 + length (section bodies md) ≤ length (file_of wide bodies md)
section_end wide bodies md = stands_reach _ _ _ (stands_section wide bodies md)

pub section_room : (bodies md : List ℕ) → 72 + length bodies + length md ≤ length (section bodies md)
unfolding section padded
section_room bodies md =
    let prefix = length-append (cli_bytes bodies md ++ bodies) md in
    let first = length-append (cli_bytes bodies md) bodies in
    let cli = length_cli bodies md in
    let all = length-append (cli_bytes bodies md ++ bodies ++ md) (fill file_alignment (length (cli_bytes bodies md ++ bodies ++ md))) in
    omega (arith, prefix, first, cli, all)

-- ---- what the CLI header says

cli_place_is : (wide : Bool) (bodies md : List ℕ) → length (file_of wide bodies md) < 2 ^ 32 → cli_place (file_of wide bodies md) ≡ Some 0x200
unfolding cli_place
cli_place_is wide bodies md few =
    let size = length (section bodies md) in
    let end = section_end wide bodies md in
    let room = section_room bodies md in
    ap (λ (rva : ℕ). place_of (file_of wide bodies md) rva 24) (cli_rva_is wide size (section bodies md))
    ∙ place_there (file_of wide bodies md) 0x2000 size 0x200 0 24 (only_section wide size (section bodies md) (omega (arith, end, few))) (omega (arith, room)) (omega (arith, room)) end

cli_header_is : (wide : Bool) (bodies md : List ℕ) → length (file_of wide bodies md) < 2 ^ 32 → cli_header_at (file_of wide bodies md) ≡ 0x200
unfolding cli_header_at
cli_header_is wide bodies md few = ap (λ (at : Option ℕ). unwrap_or at 0) (cli_place_is wide bodies md few)

metadata_rva_is : (wide : Bool) (bodies md : List ℕ) → length (file_of wide bodies md) < 2 ^ 31 → metadata_rva (file_of wide bodies md) ≡ 0x2000 + (72 + length bodies)
unfolding metadata_rva numbers_width
metadata_rva_is wide bodies md few =
    let end = section_end wide bodies md in
    let room = section_room bodies md in
    ap (λ (at : ℕ). u32_at (file_of wide bodies md) (at + 8)) (cli_header_is wide bodies md (omega (arith, few)))
    ∙ four_is (Four 72 ∷ Four 0 ∷ []) (bodies_rva + length bodies) (Four (length md) ∷ Zeros 56 ∷ []) (file_of wide bodies md) 0x200 (omega (arith, end, room, few)) (stands_cli wide bodies md)
    ∙ omega arith

metadata_size_is : (wide : Bool) (bodies md : List ℕ) → length (file_of wide bodies md) < 2 ^ 31 → metadata_size (file_of wide bodies md) ≡ length md
unfolding metadata_size numbers_width
metadata_size_is wide bodies md few =
    let end = section_end wide bodies md in
    let room = section_room bodies md in
    ap (λ (at : ℕ). u32_at (file_of wide bodies md) (at + 12)) (cli_header_is wide bodies md (omega (arith, few)))
    ∙ four_is (Four 72 ∷ Four 0 ∷ Four (bodies_rva + length bodies) ∷ []) (length md) (Zeros 56 ∷ []) (file_of wide bodies md) 0x200 (omega (arith, end, room, few)) (stands_cli wide bodies md)

metadata_place_is : (wide : Bool) (bodies md : List ℕ) → length (file_of wide bodies md) < 2 ^ 31 → 0 < length md → metadata_place (file_of wide bodies md) ≡ Some (0x200 + (72 + length bodies))
unfolding metadata_place
metadata_place_is wide bodies md few some =
    let size = length (section bodies md) in
    let end = section_end wide bodies md in
    let room = section_room bodies md in
    ap₂ (λ (rva len : ℕ). place_of (file_of wide bodies md) rva len) (metadata_rva_is wide bodies md few) (metadata_size_is wide bodies md few)
    ∙ place_there (file_of wide bodies md) 0x2000 size 0x200 (72 + length bodies) (length md) (only_section wide size (section bodies md) (omega (arith, end, few))) (omega (arith, room, some)) (omega (arith, room)) end

-- ---- what is read

pub metadata_at_is : (wide : Bool) (bodies md : List ℕ) → length (file_of wide bodies md) < 2 ^ 31 → 0 < length md → metadata_at (file_of wide bodies md) ≡ 0x200 + (72 + length bodies)
unfolding metadata_at
metadata_at_is wide bodies md few some = ap (λ (at : Option ℕ). unwrap_or at 0) (metadata_place_is wide bodies md few some)

pub metadata_is : (wide : Bool) (bodies md : List ℕ) → length (file_of wide bodies md) < 2 ^ 31 → 0 < length md → metadata (file_of wide bodies md) ≡ md
unfolding metadata
metadata_is wide bodies md few some =
    ap₂ (λ (at size : ℕ). slice_range (file_of wide bodies md) at (at + size)) (metadata_at_is wide bodies md few some) (metadata_size_is wide bodies md few)
    ∙ stands_slice md (file_of wide bodies md) (0x200 + (72 + length bodies)) (stands_metadata wide bodies md)

cli_pass : (wide : Bool) (bodies md : List ℕ) → length (file_of wide bodies md) < 2 ^ 31 → 0 < length md → first_of (cli_tests (file_of wide bodies md)) ≡ None
unfolding cli_tests first_of
cli_pass wide bodies md few some =
    let cli = cli_place_is wide bodies md (omega (arith, few)) in
    let place = metadata_place_is wide bodies md few some in
    rw (cli, place) refl

pub file_passes : (wide : Bool) (bodies md : List ℕ) → length (file_of wide bodies md) < 2 ^ 31 → 0 < length md → first_pe_fault (file_of wide bodies md) ≡ None
unfolding first_pe_fault pe_tests
file_passes wide bodies md few some =
    first_of-append_none _ _ (headers_pass wide (length (section bodies md)) (section bodies md)) ∙ cli_pass wide bodies md few some
