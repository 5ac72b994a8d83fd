-- The written headers, as they are read.
use Rattle.std.proofs.Common.{◌≡◌, ℕ, ◌+◌, ◌^◌, ◌<◌, ◌≤◌, List, ◌++◌, length, drop, Bool, true, false, None, refl, arith, nat_le}
use Rattle.std.proofs.lemmas.Bool.{le-leb, leb-true}
use Rattle.std.proofs.lemmas.List.{length-append}
use Rattle.cc_base.specs.LittleEndian.{u16_at, u32_at}
use Rattle.cc_base.specs.Tests.{first_of}
use Rattle.cc_base.proofs.ByteLemmas.{number_back}
use Rattle.cc_base.proofs.TestLemmas.{none_failed}
use Rattle.pe_reader.specs.Places.{signature_at, file_header_at, section_count, optional_size, optional_at, magic, directories_offset, cli_directory_at, cli_rva, sections_at, section_at, virtual_address, raw_size, raw_at}
use Rattle.pe_reader.specs.Faults.{field, signature_tests, file_header_tests, optional_tests, section_tests, sections_tests, header_tests}
use Rattle.asm_writer.specs.Headers.{headers, section_header}
use Rattle.asm_writer.specs.Numbers.{numbers_bytes, numbers_width}
use Rattle.asm_writer.specs.Padding.{padded, round_up}
use Rattle.written_assemblies.proofs.SectionLemmas.{IsOnlySection}

-- They have so many bytes.
pub length_headers : (wide : Bool) (size : ℕ) → length (headers wide size) ≡ 0x200
unfolding headers section_header padded round_up numbers_bytes numbers_width
length_headers true size = refl
length_headers false size = refl

-- A field that ends within the headers.
fits : (wide : Bool) (size : ℕ) (section : List ℕ) (at width : ℕ) → nat_le (at + width) 0x200 ≡ true → field (headers wide size ++ section) at width ≡ None
unfolding field
fits wide size section at width within =
    let end : at + width ≤ 0x200 = leb-true (at + width) 0x200 within in
    let all = length-append (headers wide size) section in
    let prefix = length_headers wide size in
    let reach : at + width ≤ length (headers wide size ++ section) = omega (arith, end, all, prefix) in
    rw (le-leb _ _ reach) refl

-- No test of them fails.
pub headers_pass : (wide : Bool) (size : ℕ) (section : List ℕ) → first_of (header_tests (headers wide size ++ section)) ≡ None
unfolding header_tests signature_tests file_header_tests optional_tests sections_tests section_tests signature_at file_header_at section_count optional_size optional_at magic directories_offset cli_directory_at cli_rva sections_at section_at u16_at u32_at headers section_header padded round_up numbers_bytes numbers_width
headers_pass true size section =
    let f = fits true size section in
    (none_failed (header_tests (headers true size ++ section))).1 (
      f 0 2 refl,
      (
        refl,
        (
          f 60 4 refl,
          (
            f 128 4 refl,
            (
              refl,
              (
                f 132 2 refl,
                (
                  f 134 2 refl,
                  (
                    f 136 4 refl,
                    (
                      f 140 4 refl,
                      (
                        f 144 4 refl,
                        (
                          f 148 2 refl,
                          (
                            f 150 2 refl,
                            (
                              f 152 2 refl,
                              (
                                refl,
                                (
                                  refl,
                                  (
                                    f 376 4 refl,
                                    (
                                      f 380 4 refl,
                                      (
                                        refl,
                                        (f 392 8 refl, (f 400 4 refl, (f 404 4 refl, (f 408 4 refl, (f 412 4 refl, tt))))),
                                      ),
                                    ),
                                  ),
                                ),
                              ),
                            ),
                          ),
                        ),
                      ),
                    ),
                  ),
                ),
              ),
            ),
          ),
        ),
      ),
    )
headers_pass false size section =
    let f = fits false size section in
    (none_failed (header_tests (headers false size ++ section))).1 (
      f 0 2 refl,
      (
        refl,
        (
          f 60 4 refl,
          (
            f 128 4 refl,
            (
              refl,
              (
                f 132 2 refl,
                (
                  f 134 2 refl,
                  (
                    f 136 4 refl,
                    (
                      f 140 4 refl,
                      (
                        f 144 4 refl,
                        (
                          f 148 2 refl,
                          (
                            f 150 2 refl,
                            (
                              f 152 2 refl,
                              (
                                refl,
                                (
                                  refl,
                                  (
                                    f 360 4 refl,
                                    (
                                      f 364 4 refl,
                                      (
                                        refl,
                                        (f 376 8 refl, (f 384 4 refl, (f 388 4 refl, (f 392 4 refl, (f 396 4 refl, tt))))),
                                      ),
                                    ),
                                  ),
                                ),
                              ),
                            ),
                          ),
                        ),
                      ),
                    ),
                  ),
                ),
              ),
            ),
          ),
        ),
      ),
    )

-- Where the CLI header stands in memory.
pub cli_rva_is : (wide : Bool) (size : ℕ) (section : List ℕ) → cli_rva (headers wide size ++ section) ≡ 0x2000
unfolding signature_at file_header_at optional_at magic directories_offset cli_directory_at cli_rva u16_at u32_at headers section_header padded round_up numbers_bytes numbers_width
cli_rva_is true size section = refl
cli_rva_is false size section = refl

-- The one section.
raw_size_is : (wide : Bool) (size : ℕ) (section : List ℕ) → size < 2 ^ 32 → raw_size (headers wide size ++ section) 0 ≡ size
unfolding signature_at file_header_at optional_size optional_at sections_at section_at raw_size u16_at u32_at headers section_header padded round_up numbers_bytes numbers_width
raw_size_is true size section few = number_back 4 size (drop 412 (headers true size ++ section)) few
raw_size_is false size section few = number_back 4 size (drop 396 (headers false size ++ section)) few

section_count_is : (wide : Bool) (size : ℕ) (section : List ℕ) → section_count (headers wide size ++ section) ≡ 1
unfolding signature_at file_header_at section_count u16_at u32_at headers section_header padded round_up numbers_bytes numbers_width
section_count_is true size section = refl
section_count_is false size section = refl

address_is : (wide : Bool) (size : ℕ) (section : List ℕ) → virtual_address (headers wide size ++ section) 0 ≡ 0x2000
unfolding signature_at file_header_at optional_size optional_at sections_at section_at virtual_address u16_at u32_at headers section_header padded round_up numbers_bytes numbers_width
address_is true size section = refl
address_is false size section = refl

raw_at_is : (wide : Bool) (size : ℕ) (section : List ℕ) → raw_at (headers wide size ++ section) 0 ≡ 0x200
unfolding signature_at file_header_at optional_size optional_at sections_at section_at raw_at u16_at u32_at headers section_header padded round_up numbers_bytes numbers_width
raw_at_is true size section = refl
raw_at_is false size section = refl

pub only_section : (wide : Bool) (size : ℕ) (section : List ℕ) → size < 2 ^ 32 → IsOnlySection (headers wide size ++ section) 0x2000 size 0x200
only_section wide size section few = record {
  one = section_count_is wide size section;
  address_is = address_is wide size section;
  size_is = raw_size_is wide size section few;
  at_is = raw_at_is wide size section;
}
