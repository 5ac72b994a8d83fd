-- Numbers that were written one after another, and each of them read.
use Rattle.std.proofs.Common.{◌≡◌, ℕ, ◌+◌, ◌^◌, ◌<◌, List, ◌∷◌, ◌++◌}
use Rattle.std.proofs.lemmas.List.Concat.{flat_map-append}
use Rattle.asm_writer.specs.declared.number.Number.{Number}
use Rattle.asm_writer.specs.declared.number.Number.TheVariants.{Two, Four, Eight}
use Rattle.asm_writer.specs.Numbers.{number_bytes, numbers_bytes, numbers_width}
use Rattle.asm_writer.proofs.Lengths.{length_numbers}
use Rattle.cc_base.specs.LittleEndian.{u16_at, u32_at, u64_at}
use Rattle.written_assemblies.specs.Parts.{Stands}
use Rattle.written_assemblies.proofs.PartLemmas.{stands_within, stands_u16, stands_u32, stands_u64}

-- One of the numbers stands after those before it.
number_in : (before : List Number) (n : Number) (after : List Number) → Stands (number_bytes n) (numbers_bytes (before ++ n ∷ after)) (numbers_width before)
unfolding numbers_bytes
number_in before n after = record {
  prefix = numbers_bytes before;
  rest = numbers_bytes after;
  parts = flat_map-append number_bytes before (n ∷ after);
  begins = length_numbers before;
}

pub number_stands : (before : List Number) (n : Number) (after : List Number) (bytes : List ℕ) (at : ℕ)
    → Stands (numbers_bytes (before ++ n ∷ after)) bytes at → Stands (number_bytes n) bytes (at + numbers_width before)
number_stands before n after bytes at s = stands_within _ _ _ _ _ (number_in before n after) s

pub two_is : (before : List Number) (n : ℕ) (after : List Number) (bytes : List ℕ) (at : ℕ) → n < 2 ^ 16
    → Stands (numbers_bytes (before ++ Two n ∷ after)) bytes at → u16_at bytes (at + numbers_width before) ≡ n
two_is before n after bytes at few s = stands_u16 n bytes _ few (number_stands before (Two n) after bytes at s)

pub four_is : (before : List Number) (n : ℕ) (after : List Number) (bytes : List ℕ) (at : ℕ) → n < 2 ^ 32
    → Stands (numbers_bytes (before ++ Four n ∷ after)) bytes at → u32_at bytes (at + numbers_width before) ≡ n
four_is before n after bytes at few s = stands_u32 n bytes _ few (number_stands before (Four n) after bytes at s)

pub eight_is : (before : List Number) (n : ℕ) (after : List Number) (bytes : List ℕ) (at : ℕ) → n < 2 ^ 64
    → Stands (numbers_bytes (before ++ Eight n ∷ after)) bytes at → u64_at bytes (at + numbers_width before) ≡ n
eight_is before n after bytes at few s = stands_u64 n bytes _ few (number_stands before (Eight n) after bytes at s)
