-- The headers before the section, and the CLI header at its start (ECMA-335 II.25).
use Rattle.std.specs.Prelude.{ℕ, ◌+◌, List, [], ◌∷◌, ◌++◌, Bool, codes, if◌then◌else◌}
use Rattle.asm_writer.specs.declared.number.Number.{Number}
use Rattle.asm_writer.specs.declared.number.Number.TheVariants.{Zeros, Two, Four}
use Rattle.asm_writer.specs.Numbers.{numbers_bytes, numbers_width}
use Rattle.asm_writer.specs.Padding.{padded}

-- The multiple to which the headers and the section are filled up.
abbrev pub file_alignment : ℕ
file_alignment = 0x200

-- Where the section stands in memory.
abbrev pub section_rva : ℕ
section_rva = 0x2000

-- `MZ`, and at 3c the offset of the PE signature (II.25.2.1).
abbrev pub dos_header : List Number
dos_header = Two 0x5a4d ∷ Zeros 58 ∷ Four 0x80 ∷ Zeros 64 ∷ []

-- The CLI header (II.25.3.3): its size, and the RVA and the size of the metadata.
abbrev pub cli_header : ℕ → ℕ → List Number
cli_header rva size = Four 72 ∷ Four 0 ∷ Four rva ∷ Four size ∷ Zeros 56 ∷ []

abbrev pub cli_header_size : ℕ
cli_header_size = numbers_width (cli_header 0 0)

-- Where the first method body stands in memory, after the CLI header.
abbrev pub bodies_rva : ℕ
bodies_rva = section_rva + cli_header_size

-- The optional header, PE32 or PE32+, whose directory 14 names the CLI header (II.25.2.3).
abbrev pub optional_header : Bool → List Number
optional_header wide =
    Two (if wide then 0x20b else 0x10b) ∷ Zeros (if wide then 222 else 206)
    ∷ Four section_rva ∷ Four cli_header_size ∷ Zeros 8 ∷ []

-- The PE signature and the PE file header (II.25.2.2), for x86 or for x64.
abbrev pub file_header : Bool → List Number
file_header wide =
    Four 0x4550 ∷ Two (if wide then 0x8664 else 0x14c) ∷ Two 1 ∷ Zeros 12
    ∷ Two (numbers_width (optional_header wide)) ∷ Two 0 ∷ []

-- The one section header (II.25.3), of a section of this size after the headers.
abbrev pub section_numbers : ℕ → List Number
section_numbers size = Four 0 ∷ Four section_rva ∷ Four size ∷ Four file_alignment ∷ Zeros 16 ∷ []

unfoldable pub section_header : ℕ → List ℕ
section_header size = codes ".text" ++ 0 ∷ 0 ∷ 0 ∷ [] ++ numbers_bytes (section_numbers size)

-- All before the section, which has this size.
unfoldable pub headers : Bool → ℕ → List ℕ
headers wide section_size =
    padded file_alignment
    (numbers_bytes dos_header
    ++ numbers_bytes (file_header wide)
    ++ numbers_bytes (optional_header wide)
    ++ section_header section_size)
