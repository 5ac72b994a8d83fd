-- Numbers in headers and in columns of rows: their bytes, and how many they have.
use Rattle.std.specs.Prelude.{ℕ, List, flat_map, replicate, sum_by}
use Rattle.cc_base.specs.LittleEndian.{little_bytes}
use Rattle.asm_writer.specs.declared.number.Number.{Number}
use Rattle.asm_writer.specs.declared.number.Number.TheVariants.{Zeros, Two, Four, Eight}

abbrev pub number_bytes : Number → List ℕ
number_bytes (Zeros count) = replicate count 0
number_bytes (Two n) = little_bytes 2 n
number_bytes (Four n) = little_bytes 4 n
number_bytes (Eight n) = little_bytes 8 n

abbrev pub number_width : Number → ℕ
number_width (Zeros count) = count
number_width (Two n) = 2
number_width (Four n) = 4
number_width (Eight n) = 8

unfoldable pub numbers_bytes : List Number → List ℕ
numbers_bytes numbers = flat_map number_bytes numbers

unfoldable pub numbers_width : List Number → ℕ
numbers_width numbers = sum_by number_width numbers
