-- The bytes at an address (RVA), and the two things that are found so.
use Rattle.std.specs.Prelude.{ℕ, zero, suc, ◌+◌, ◌-◌, List, length, take, drop, slice_range, Bool, ◌&&◌, nat_lt, nat_le, Option, Some, None, option_map, unwrap_or, if◌then◌else◌}
use Rattle.std.specs.Option.{option_and_then}
use Rattle.cc_base.specs.LittleEndian.{u32_at}
use Rattle.pe_reader.specs.Places.{section_count, virtual_address, raw_size, raw_at, cli_rva}

-- So many bytes from an address on cover this one.
abbrev pub covers : ℕ → ℕ → ℕ → Bool
covers first len rva = nat_le first rva && nat_lt rva (first + len)

-- Section i contains the address: the bytes that the file holds of it (SizeOfRawData) cover it.
unfoldable pub section_contains : List ℕ → ℕ → ℕ → Bool
section_contains bytes rva i = covers (virtual_address bytes i) (raw_size bytes i) rva

-- The first of n sections, from section i on, that contains the address.
unfoldable pub section_from : List ℕ → ℕ → ℕ → ℕ → Option ℕ
section_from bytes rva i zero = None
section_from bytes rva i (suc n) = if section_contains bytes rva i then Some i else section_from bytes rva (i + 1) n

-- The first section that contains the address. No later one counts.
unfoldable pub section_of : List ℕ → ℕ → Option ℕ
section_of bytes rva = section_from bytes rva 0 (section_count bytes)

-- The place in the file of bytes at an address of section i, if they end in it and in the file.
unfoldable pub place_in : List ℕ → ℕ → ℕ → ℕ → Option ℕ
place_in bytes rva len i =
    let at = raw_at bytes i + (rva - virtual_address bytes i) in
    if nat_le (rva + len) (virtual_address bytes i + raw_size bytes i) && nat_le (at + len) (length bytes)
    then Some at
    else None

-- The place in the file of the bytes at an address.
unfoldable pub place_of : List ℕ → ℕ → ℕ → Option ℕ
place_of bytes rva len = option_and_then (place_in bytes rva len) (section_of bytes rva)

-- The bytes at an address.
unfoldable pub bytes_at : List ℕ → ℕ → ℕ → Option (List ℕ)
bytes_at bytes rva len = option_map (λ at. slice_range bytes at (at + len)) (place_of bytes rva len)

-- The bytes from an address of section i on, up to the end of the section or of the file, whichever comes
-- first. None where their place lies beyond the file's end.
unfoldable pub rest_in : List ℕ → ℕ → ℕ → Option (List ℕ)
rest_in bytes rva i =
    let at = raw_at bytes i + (rva - virtual_address bytes i) in
    if nat_le at (length bytes) then Some (take (virtual_address bytes i + raw_size bytes i - rva) (drop at bytes)) else None

-- The bytes from an address on. None where no section contains it.
unfoldable pub rest_at : List ℕ → ℕ → Option (List ℕ)
rest_at bytes rva = option_and_then (rest_in bytes rva) (section_of bytes rva)

-- The first bytes of some, none where they are fewer.
abbrev pub first_bytes : ℕ → Option (List ℕ) → Option (List ℕ)
first_bytes len rest = option_and_then (λ found. if nat_le len (length found) then Some (take len found) else None) rest

-- The place of the CLI header (II.25.3.3), by its first 24 bytes.
unfoldable pub cli_place : List ℕ → Option ℕ
cli_place bytes = place_of bytes (cli_rva bytes) 24

-- The same as a number, in a file that has it.
unfoldable pub cli_header_at : List ℕ → ℕ
cli_header_at bytes = unwrap_or (cli_place bytes) 0

-- The CLI header names the metadata's address and its size.
unfoldable pub metadata_rva : List ℕ → ℕ
metadata_rva bytes = u32_at bytes (cli_header_at bytes + 8)

unfoldable pub metadata_size : List ℕ → ℕ
metadata_size bytes = u32_at bytes (cli_header_at bytes + 12)

unfoldable pub metadata_place : List ℕ → Option ℕ
metadata_place bytes = place_of bytes (metadata_rva bytes) (metadata_size bytes)

-- Where the metadata begins, and its bytes, in a file that has it.
unfoldable pub metadata_at : List ℕ → ℕ
metadata_at bytes = unwrap_or (metadata_place bytes) 0

unfoldable pub metadata : List ℕ → List ℕ
metadata bytes = slice_range bytes (metadata_at bytes) (metadata_at bytes + metadata_size bytes)
