-- Parts of a file: those of a part, and what is read at their offsets.
use Rattle.std.proofs.Common.{◌≡◌, ℕ, ◌+◌, ◌-◌, ◌^◌, ◌<◌, ◌≤◌, List, [], ◌++◌, length, take, drop, refl, sym, ap, ◌∙◌, append_assoc, arith}
use Rattle.std.specs.Prelude.{slice_range}
use Rattle.std.proofs.lemmas.List.{append-nil, length-append, drop_at, take_at}
use Rattle.cc_base.specs.LittleEndian.{little_number, little_bytes, u16_at, u32_at, u64_at}
use Rattle.cc_base.proofs.ByteLemmas.{number_back}
use Rattle.written_assemblies.specs.Parts.{Stands}

-- The bytes stand in themselves.
pub stands_whole : (bytes : List ℕ) → Stands bytes bytes 0
stands_whole bytes = record { prefix = []; rest = []; parts = sym (append-nil bytes); begins = refl }

-- What follows a prefix stands after it.
pub stands_behind : (prefix part : List ℕ) → Stands part (prefix ++ part) (length prefix)
stands_behind prefix part = record { prefix = prefix; rest = []; parts = ap (λ (xs : List ℕ). prefix ++ xs) (sym (append-nil part)); begins = refl }

-- Of two parts, the first and the second.
pub stands_first : (a b bytes : List ℕ) (at : ℕ) → Stands (a ++ b) bytes at → Stands a bytes at
stands_first a b bytes at s = record {
  prefix = s.prefix;
  rest = b ++ s.rest;
  parts = s.parts ∙ ap (λ (xs : List ℕ). s.prefix ++ xs) (append_assoc a b s.rest);
  begins = s.begins;
}

pub stands_second : (a b bytes : List ℕ) (at : ℕ) → Stands (a ++ b) bytes at → Stands b bytes (at + length a)
stands_second a b bytes at s = record {
  prefix = s.prefix ++ a;
  rest = s.rest;
  parts = s.parts ∙ ap (λ (xs : List ℕ). s.prefix ++ xs) (append_assoc a b s.rest) ∙ sym (append_assoc s.prefix a (b ++ s.rest));
  begins = length-append s.prefix a ∙ ap (λ (k : ℕ). k + length a) s.begins;
}

-- A part of a part.
pub stands_within : (a b c : List ℕ) (i at : ℕ) → Stands a b i → Stands b c at → Stands a c (at + i)
stands_within a b c i at s t = record {
  prefix = t.prefix ++ s.prefix;
  rest = s.rest ++ t.rest;
  parts =
      t.parts ∙ ap (λ (xs : List ℕ). t.prefix ++ (xs ++ t.rest)) s.parts
      ∙ ap (λ (xs : List ℕ). t.prefix ++ xs) (append_assoc s.prefix (a ++ s.rest) t.rest ∙ ap (λ (xs : List ℕ). s.prefix ++ xs) (append_assoc a s.rest t.rest))
      ∙ sym (append_assoc t.prefix s.prefix (a ++ (s.rest ++ t.rest)));
  begins = length-append t.prefix s.prefix ∙ ap (λ (k : ℕ). k + length s.prefix) t.begins ∙ ap (λ (k : ℕ). at + k) s.begins;
}

-- The same part at an offset that is equal.
pub stands_at : (a b : List ℕ) (i j : ℕ) → i ≡ j → Stands a b i → Stands a b j
stands_at a b i j same s = record { prefix = s.prefix; rest = s.rest; parts = s.parts; begins = s.begins ∙ same }

-- A part ends within the bytes.
pub stands_reach : (a b : List ℕ) (at : ℕ) → Stands a b at → at + length a ≤ length b
stands_reach a b at s =
    let all : length b ≡ length s.prefix + (length a + length s.rest) =
    ap length s.parts ∙ length-append s.prefix (a ++ s.rest) ∙ ap (λ (k : ℕ). length s.prefix + k) (length-append a s.rest) in
    let begins = s.begins in
    omega (arith, all, begins)

-- What is left from the offset of a part on.
pub stands_drop : (a b : List ℕ) (at : ℕ) (s : Stands a b at) → drop at b ≡ a ++ s.rest
stands_drop a b at s = ap (drop at) s.parts ∙ drop_at s.prefix (a ++ s.rest) at s.begins

-- As many bytes as the part has, from its offset on.
pub stands_take : (a b : List ℕ) (at : ℕ) → Stands a b at → take (length a) (drop at b) ≡ a
stands_take a b at s = ap (take (length a)) (stands_drop a b at s) ∙ take_at a s.rest (length a) refl

pub stands_slice : (a b : List ℕ) (at : ℕ) → Stands a b at → slice_range b at (at + length a) ≡ a
stands_slice a b at s =
    let size : at + length a - at ≡ length a = omega arith in
    ap (λ (n : ℕ). take n (drop at b)) size ∙ stands_take a b at s

-- The number whose bytes stand at an offset.
pub stands_u16 : (n : ℕ) (b : List ℕ) (at : ℕ) → n < 2 ^ 16 → Stands (little_bytes 2 n) b at → u16_at b at ≡ n
unfolding u16_at
stands_u16 n b at few s = ap (little_number 2) (stands_drop (little_bytes 2 n) b at s) ∙ number_back 2 n s.rest few

pub stands_u32 : (n : ℕ) (b : List ℕ) (at : ℕ) → n < 2 ^ 32 → Stands (little_bytes 4 n) b at → u32_at b at ≡ n
unfolding u32_at
stands_u32 n b at few s = ap (little_number 4) (stands_drop (little_bytes 4 n) b at s) ∙ number_back 4 n s.rest few

pub stands_u64 : (n : ℕ) (b : List ℕ) (at : ℕ) → n < 2 ^ 64 → Stands (little_bytes 8 n) b at → u64_at b at ≡ n
unfolding u64_at
stands_u64 n b at few s = ap (little_number 8) (stands_drop (little_bytes 8 n) b at s) ∙ number_back 8 n s.rest few
