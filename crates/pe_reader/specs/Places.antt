-- Where the fields of a PE file stand (II.25.2), as functions of all the bytes of the file.
use Rattle.std.specs.Prelude.{ℕ, ◌+◌, ◌*◌, List, ◌==◌, if◌then◌else◌}
use Rattle.cc_base.specs.LittleEndian.{u16_at, u32_at}

-- The PE signature: the MS-DOS header names its place (lfanew, II.25.2.1).
unfoldable pub signature_at : List ℕ → ℕ
signature_at bytes = u32_at bytes 0x3c

-- The PE file header (II.25.2.2), of 20 bytes.
unfoldable pub file_header_at : List ℕ → ℕ
file_header_at bytes = signature_at bytes + 4

unfoldable pub section_count : List ℕ → ℕ
section_count bytes = u16_at bytes (file_header_at bytes + 2)

unfoldable pub optional_size : List ℕ → ℕ
optional_size bytes = u16_at bytes (file_header_at bytes + 16)

-- The PE optional header (II.25.2.3).
unfoldable pub optional_at : List ℕ → ℕ
optional_at bytes = file_header_at bytes + 20

unfoldable pub magic : List ℕ → ℕ
magic bytes = u16_at bytes (optional_at bytes)

-- How far after the optional header's start its data directories stand (II.25.2.3.3).
unfoldable pub directories_offset : List ℕ → ℕ
directories_offset bytes = if magic bytes == 0x20b then 112 else 96

-- Data directory 14 names the CLI header: its address and its size.
unfoldable pub cli_directory_at : List ℕ → ℕ
cli_directory_at bytes = optional_at bytes + directories_offset bytes + 8 * 14

unfoldable pub cli_rva : List ℕ → ℕ
cli_rva bytes = u32_at bytes (cli_directory_at bytes)

-- The section headers (II.25.3), of 40 bytes each, follow the optional header.
unfoldable pub sections_at : List ℕ → ℕ
sections_at bytes = optional_at bytes + optional_size bytes

unfoldable pub section_at : List ℕ → ℕ → ℕ
section_at bytes i = sections_at bytes + 40 * i

unfoldable pub virtual_address : List ℕ → ℕ → ℕ
virtual_address bytes i = u32_at bytes (section_at bytes i + 12)

unfoldable pub raw_size : List ℕ → ℕ → ℕ
raw_size bytes i = u32_at bytes (section_at bytes i + 16)

unfoldable pub raw_at : List ℕ → ℕ → ℕ
raw_at bytes i = u32_at bytes (section_at bytes i + 20)
