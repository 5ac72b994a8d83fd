-- Compressed numbers (ECMA-335 II.23.2): how they are read, and how they are spelled.
use Rattle.std.specs.Prelude.{◌≡◌, ℕ, ◌+◌, ◌^◌, ◌%◌, ◌<◌, ◌⊎◌, List, [], ◌∷◌, length, Result, Ok, Err, nat_lt, if◌then◌else◌}
use Rattle.byteorder.specs.Endian.{big_number, big_bytes}
use Rattle.cc_base.specs.declared.compressed.Compressed.{Compressed}
use Rattle.cc_base.specs.declared.compressed.CompressedFault.{CompressedFault}
use Rattle.cc_base.specs.declared.compressed.CompressedFault.TheVariants.{Cut, Form}

-- The number in the low bits of so many bytes, the highest byte first.
abbrev pub low_bits : ℕ → ℕ → List ℕ → Result Compressed CompressedFault
low_bits bits width bytes =
    if nat_lt (length bytes) width then Err Cut
    else Ok (record { number = big_number width bytes % 2 ^ bits; width = width })

-- The number at the start: 0xxxxxxx stands alone, 10xxxxxx begins two bytes, and 110xxxxx begins four.
unfoldable pub compressed : List ℕ → Result Compressed CompressedFault
compressed [] = Err Cut
compressed (first ∷ rest) =
    if nat_lt first 0x80 then Ok (record { number = first; width = 1 })
    else if nat_lt first 0xC0 then low_bits 14 2 (first ∷ rest)
    else if nat_lt first 0xE0 then low_bits 29 4 (first ∷ rest)
    else Err Form

-- The number in one byte, in two after the bits 10, or in four after the bits 110. It may stand in
-- more bytes than it needs.
abbrev pub SpellsNumber : ℕ → List ℕ → Type 0
SpellsNumber n bytes =
    ((n < 2 ^ 7) × (bytes ≡ n ∷ []))
    ⊎ (((n < 2 ^ 14) × (bytes ≡ big_bytes 2 (0x8000 + n)))
    ⊎ ((n < 2 ^ 29) × (bytes ≡ big_bytes 4 (0xC000_0000 + n))))
