-- The tests of a PE file (II.25) in reading order, each with the fault that it gives where it fails.
use Rattle.std.specs.Prelude.{ℕ, zero, suc, ◌+◌, ◌*◌, List, [], ◌∷◌, ◌++◌, length, ◌==◌, ◌||◌, not, nat_le, is_some, Option, Some, None, if◌then◌else◌}
use Rattle.cc_base.specs.LittleEndian.{u16_at, u32_at}
use Rattle.cc_base.specs.Tests.{first_of, must}
use Rattle.pe_reader.specs.declared.fault.PeFault.{PeFault}
use Rattle.pe_reader.specs.declared.fault.PeFault.TheVariants.{TooShort, NotPe, NoCli, RvaOutside}
use Rattle.pe_reader.specs.Places.{signature_at, file_header_at, section_count, optional_size, optional_at, magic, directories_offset, cli_directory_at, cli_rva, section_at}
use Rattle.pe_reader.specs.Addresses.{cli_place, metadata_rva, metadata_place}

-- A field of so many bytes lies in the file.
unfoldable pub field : List ℕ → ℕ → ℕ → Option PeFault
field bytes at size = if nat_le (at + size) (length bytes) then None else Some (TooShort at)

-- `MZ` at the file's start, and `PE` with two zeros at the place that the MS-DOS header names.
unfoldable pub signature_tests : List ℕ → List (Option PeFault)
signature_tests bytes =
    field bytes 0 2
    ∷ must (u16_at bytes 0 == 0x5a4d) (NotPe 0)
    ∷ field bytes 0x3c 4
    ∷ field bytes (signature_at bytes) 4
    ∷ must (u32_at bytes (signature_at bytes) == 0x4550) (NotPe (signature_at bytes))
    ∷ []

-- Machine, NumberOfSections, three numbers, SizeOfOptionalHeader and Characteristics.
unfoldable pub file_header_tests : List ℕ → List (Option PeFault)
file_header_tests bytes =
    field bytes (file_header_at bytes) 2
    ∷ field bytes (file_header_at bytes + 2) 2
    ∷ field bytes (file_header_at bytes + 4) 4
    ∷ field bytes (file_header_at bytes + 8) 4
    ∷ field bytes (file_header_at bytes + 12) 4
    ∷ field bytes (file_header_at bytes + 16) 2
    ∷ field bytes (file_header_at bytes + 18) 2
    ∷ []

-- The magic number of PE32 or of PE32+, and directory 14, which the optional header has to reach.
unfoldable pub optional_tests : List ℕ → List (Option PeFault)
optional_tests bytes =
    field bytes (optional_at bytes) 2
    ∷ must (magic bytes == 0x10b || magic bytes == 0x20b) (NotPe (optional_at bytes))
    ∷ must (nat_le (directories_offset bytes + 8 * 15) (optional_size bytes)) (NoCli (cli_directory_at bytes))
    ∷ field bytes (cli_directory_at bytes) 4
    ∷ field bytes (cli_directory_at bytes + 4) 4
    ∷ must (not (cli_rva bytes == 0)) (NoCli (cli_directory_at bytes))
    ∷ []

-- Name, VirtualSize, VirtualAddress, SizeOfRawData and PointerToRawData of section i. The other 16
-- bytes of its header are not read.
unfoldable pub section_tests : List ℕ → ℕ → List (Option PeFault)
section_tests bytes i =
    field bytes (section_at bytes i) 8
    ∷ field bytes (section_at bytes i + 8) 4
    ∷ field bytes (section_at bytes i + 12) 4
    ∷ field bytes (section_at bytes i + 16) 4
    ∷ field bytes (section_at bytes i + 20) 4
    ∷ []

-- The first n sections.
unfoldable pub sections_tests : List ℕ → ℕ → List (Option PeFault)
sections_tests bytes zero = []
sections_tests bytes (suc n) = sections_tests bytes n ++ section_tests bytes n

-- The CLI header is found at its address, and then the metadata.
unfoldable pub cli_tests : List ℕ → List (Option PeFault)
cli_tests bytes =
    must (is_some (cli_place bytes)) (RvaOutside (cli_rva bytes))
    ∷ must (is_some (metadata_place bytes)) (RvaOutside (metadata_rva bytes))
    ∷ []

-- All section headers are read before the CLI header is sought.
unfoldable pub header_tests : List ℕ → List (Option PeFault)
header_tests bytes =
    signature_tests bytes
    ++ file_header_tests bytes
    ++ optional_tests bytes
    ++ sections_tests bytes (section_count bytes)

unfoldable pub pe_tests : List ℕ → List (Option PeFault)
pe_tests bytes = header_tests bytes ++ cli_tests bytes

-- The first fault of a file, if it has one.
unfoldable pub first_pe_fault : List ℕ → Option PeFault
first_pe_fault bytes = first_of (pe_tests bytes)

-- The offset in the file that a fault names, and for an address outside the address.
abbrev pub offset_of : PeFault → ℕ
offset_of (TooShort at) = at
offset_of (NotPe at) = at
offset_of (NoCli at) = at
offset_of (RvaOutside rva) = rva
