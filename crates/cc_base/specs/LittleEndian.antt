-- Little endian numbers at an offset among bytes.
use Rattle.std.specs.Prelude.{ℕ, ◌<◌, List, drop, slice_index}
pub use Rattle.byteorder.specs.Endian.{little_number, little_bytes}

-- A list of bytes: every number in it is below 256.
abbrev pub IsBytes : List ℕ → Type 0
IsBytes bytes = (i : ℕ) → slice_index bytes i < 256

-- The number in the two bytes at an offset.
unfoldable pub u16_at : List ℕ → ℕ → ℕ
u16_at bytes at = little_number 2 (drop at bytes)

-- The number in the four bytes at an offset.
unfoldable pub u32_at : List ℕ → ℕ → ℕ
u32_at bytes at = little_number 4 (drop at bytes)

-- The number in the eight bytes at an offset.
unfoldable pub u64_at : List ℕ → ℕ → ℕ
u64_at bytes at = little_number 8 (drop at bytes)
