-- A compressed number is read where one of its spellings stands, and only there.
use Rattle.std.proofs.Common.{◌≡◌, ℕ, ◌+◌, ◌*◌, ◌-◌, ◌%◌, ◌/◌, ◌^◌, ◌<◌, ◌≤◌, List, [], ◌∷◌, ◌++◌, length, take, Result, Ok, Err, refl, sym, ap₂, subst, ◌∙◌, inl, inr, arith}
use Rattle.std.specs.Prelude.{IfOk}
use Rattle.std.proofs.lemmas.Bool.{cases_lt, lt-ltb, le-ltb}
use Rattle.std.proofs.Math.Seq.{take-append_seam}
use Rattle.byteorder.specs.Endian.{big_number, big_bytes}
use Rattle.cc_base.specs.LittleEndian.{IsBytes}
use Rattle.cc_base.specs.Compressed.{low_bits, compressed, SpellsNumber}
use Rattle.cc_base.specs.declared.compressed.Compressed.{Compressed}
use Rattle.cc_base.specs.declared.compressed.CompressedFault.{CompressedFault}
use Rattle.cc_base.specs.declared.compressed.CompressedFault.TheVariants.{Cut, Form}

-- A spelling of the number that was found stands at the start of the bytes.
pub record Spelled (bytes : List ℕ) (found : Compressed) : Type 0 where
  pub spelling : List ℕ
  pub rest : List ℕ
  pub spells : SpellsNumber found.number spelling
  pub wide : found.width ≡ length spelling
  pub parts : bytes ≡ spelling ++ rest

same : (x y : Compressed) → ◌≡◌ {A = Result Compressed CompressedFault} (Ok x) (Ok y) → x ≡ y
same x y e = cc

pair_spells : (a b : ℕ) → 0x80 ≤ a → a < 0xC0 → b < 256 → a ∷ b ∷ [] ≡ big_bytes 2 (0x8000 + (a * 256 + b) % 2 ^ 14)
pair_spells a b low high byte = ap₂ (λ (x y : ℕ). x ∷ y ∷ []) (omega arith) (omega arith)

four_spell : (a b c d : ℕ) → 0xC0 ≤ a → a < 0xE0 → b < 256 → c < 256 → d < 256 → a ∷ b ∷ c ∷ d ∷ [] ≡ big_bytes 4 (0xC000_0000 + (a * 0x100_0000 + b * 0x1_0000 + c * 256 + d) % 2 ^ 29)
four_spell a b c d low high byte byte2 byte3 =
    let is : (a * 0x100_0000 + b * 0x1_0000 + c * 256 + d) % 2 ^ 29 ≡ (a - 0xC0) * 0x100_0000 + b * 0x1_0000 + c * 256 + d = omega arith in
    let whole : 0xC000_0000 + ((a - 0xC0) * 0x100_0000 + b * 0x1_0000 + c * 256 + d) ≡ a * 0x100_0000 + b * 0x1_0000 + c * 256 + d = omega arith in
    rw (is, whole) (ap₂ (λ (x : ℕ) (t : List ℕ). x ∷ t) (omega arith) (ap₂ (λ (x : ℕ) (t : List ℕ). x ∷ t) (omega arith) (ap₂ (λ (x y : ℕ). x ∷ y ∷ []) (omega arith) (omega arith))))

low_bits_are : (bits width : ℕ) (bytes : List ℕ) (n : ℕ) → width ≤ length bytes → big_number width bytes % 2 ^ bits ≡ n
    → low_bits bits width bytes ≡ Ok (record { number = n; width = width })
low_bits_are bits width bytes n le e = rw (le-ltb (length bytes) width le, e) refl

low_bits_cut : (bits width : ℕ) (bytes : List ℕ) (found : Compressed) → length bytes < width → low_bits bits width bytes ≡ Ok found → ⊥
low_bits_cut bits width bytes found lt e =
    let cut : low_bits bits width bytes ≡ Err Cut = rw (lt-ltb (length bytes) width lt) refl in
    let h = sym cut ∙ e in
    cc

two_found : (a : ℕ) (rest : List ℕ) (found : Compressed) → IsBytes (a ∷ rest) → 0x80 ≤ a → a < 0xC0 → low_bits 14 2 (a ∷ rest) ≡ Ok found → Spelled (a ∷ rest) found
two_found a [] found fits low high e = absurd (low_bits_cut 14 2 (a ∷ []) found (omega arith) e)
two_found a (b ∷ rest) found fits low high e =
    let number : big_number 2 (a ∷ b ∷ rest) ≡ a * 256 + b = omega arith in
    let is = low_bits_are 14 2 (a ∷ b ∷ rest) _ (omega arith) refl in
    subst (Spelled (a ∷ b ∷ rest)) (same _ found (sym is ∙ e)) (record {
      spelling = a ∷ b ∷ [];
      rest = rest;
      spells = inr (inl (omega arith, rw number (pair_spells a b low high (fits 1))));
      wide = refl;
      parts = refl;
    })

four_found : (a : ℕ) (rest : List ℕ) (found : Compressed) → IsBytes (a ∷ rest) → 0xC0 ≤ a → a < 0xE0 → low_bits 29 4 (a ∷ rest) ≡ Ok found → Spelled (a ∷ rest) found
four_found a [] found fits low high e = absurd (low_bits_cut 29 4 (a ∷ []) found (omega arith) e)
four_found a (b ∷ []) found fits low high e = absurd (low_bits_cut 29 4 (a ∷ b ∷ []) found (omega arith) e)
four_found a (b ∷ c ∷ []) found fits low high e = absurd (low_bits_cut 29 4 (a ∷ b ∷ c ∷ []) found (omega arith) e)
four_found a (b ∷ c ∷ d ∷ rest) found fits low high e =
    let number : big_number 4 (a ∷ b ∷ c ∷ d ∷ rest) ≡ a * 0x100_0000 + b * 0x1_0000 + c * 256 + d = omega arith in
    let is = low_bits_are 29 4 (a ∷ b ∷ c ∷ d ∷ rest) _ (omega arith) refl in
    subst (Spelled (a ∷ b ∷ c ∷ d ∷ rest)) (same _ found (sym is ∙ e)) (record {
      spelling = a ∷ b ∷ c ∷ d ∷ [];
      rest = rest;
      spells = inr (inr (omega arith, rw number (four_spell a b c d low high (fits 1) (fits 2) (fits 3))));
      wide = refl;
      parts = refl;
    })

-- What a number is, by its first byte.
from_one : (a : ℕ) (rest : List ℕ) → a < 0x80 → compressed (a ∷ rest) ≡ Ok (record { number = a; width = 1 })
unfolding compressed
from_one a rest lt = rw (lt-ltb a 0x80 lt) refl

from_two : (a : ℕ) (rest : List ℕ) → 0x80 ≤ a → a < 0xC0 → compressed (a ∷ rest) ≡ low_bits 14 2 (a ∷ rest)
unfolding compressed
from_two a rest le lt = rw (le-ltb a 0x80 le, lt-ltb a 0xC0 lt) refl

from_four : (a : ℕ) (rest : List ℕ) → 0xC0 ≤ a → a < 0xE0 → compressed (a ∷ rest) ≡ low_bits 29 4 (a ∷ rest)
unfolding compressed
from_four a rest le lt = rw (le-ltb a 0x80 (omega arith), le-ltb a 0xC0 le, lt-ltb a 0xE0 lt) refl

from_none : (a : ℕ) (rest : List ℕ) → 0xE0 ≤ a → compressed (a ∷ rest) ≡ Err Form
unfolding compressed
from_none a rest le = rw (le-ltb a 0x80 (omega arith), le-ltb a 0xC0 (omega arith), le-ltb a 0xE0 le) refl

pub compressed_spelled : (bytes : List ℕ) (found : Compressed) → IsBytes bytes → compressed bytes ≡ Ok found → Spelled bytes found
unfolding compressed
compressed_spelled [] found fits e = absurd cc
compressed_spelled (a ∷ rest) found fits e =
    elim (cases_lt a 0x80) [
      | inl one ↦
          subst (Spelled (a ∷ rest)) (same _ found (sym (from_one a rest one) ∙ e))
          (record { spelling = a ∷ []; rest = rest; spells = inl (one, refl); wide = refl; parts = refl })
      | inr more ↦ elim (cases_lt a 0xC0) [
        | inl two ↦ two_found a rest found fits more two (sym (from_two a rest more two) ∙ e)
        | inr more2 ↦ elim (cases_lt a 0xE0) [
          | inl four ↦ four_found a rest found fits more2 four (sym (from_four a rest more2 four) ∙ e)
          | inr past ↦ absurd (let h = sym (from_none a rest past) ∙ e in cc)
        ]
      ]
    ]

pub compressed_found : (bytes : List ℕ) (result : Result Compressed CompressedFault) → IsBytes bytes → result ≡ compressed bytes
    → IfOk result (λ found. SpellsNumber found.number (take found.width bytes))
compressed_found bytes (Ok found) fits e =
    let s = compressed_spelled bytes found fits (sym e) in
    let prefix : take found.width bytes ≡ s.spelling = ap₂ (λ (n : ℕ) (xs : List ℕ). take n xs) s.wide s.parts ∙ take-append_seam s.spelling s.rest in
    subst (λ (spelling : List ℕ). SpellsNumber found.number spelling) (sym prefix) s.spells
compressed_found bytes (Err fault) fits e = tt

two_read : (n : ℕ) (rest : List ℕ) → n < 2 ^ 14 → compressed (big_bytes 2 (0x8000 + n) ++ rest) ≡ Ok (record { number = n; width = 2 })
two_read n rest lt =
    let number : big_number 2 (big_bytes 2 (0x8000 + n) ++ rest) % 2 ^ 14 ≡ n = omega arith in
    from_two ((0x8000 + n) / 256 % 256) ((0x8000 + n) % 256 ∷ rest) (omega arith) (omega arith)
    ∙ low_bits_are 14 2 (big_bytes 2 (0x8000 + n) ++ rest) n (omega arith) number

four_back : (m : ℕ) → m < 2 ^ 32 → (rest : List ℕ) → big_number 4 (big_bytes 4 m ++ rest) ≡ m
four_back m lt rest = omega arith

four_read : (n : ℕ) (rest : List ℕ) → n < 2 ^ 29 → compressed (big_bytes 4 (0xC000_0000 + n) ++ rest) ≡ Ok (record { number = n; width = 4 })
four_read n rest lt =
    let whole = four_back (0xC000_0000 + n) (omega arith) rest in
    let number : big_number 4 (big_bytes 4 (0xC000_0000 + n) ++ rest) % 2 ^ 29 ≡ n = rw whole (omega arith) in
    from_four ((0xC000_0000 + n) / 0x100_0000 % 256) ((0xC000_0000 + n) / 0x1_0000 % 256 ∷ (0xC000_0000 + n) / 256 % 256 ∷ (0xC000_0000 + n) % 256 ∷ rest) (omega arith) (omega arith)
    ∙ low_bits_are 29 4 (big_bytes 4 (0xC000_0000 + n) ++ rest) n (omega arith) number

-- A number whose spelling stands at the start is read.
pub compressed_only : (n : ℕ) (spelling rest : List ℕ) → SpellsNumber n spelling → compressed (spelling ++ rest) ≡ Ok (record { number = n; width = length spelling })
compressed_only n spelling rest (inl one) = rw one.1 (from_one n rest one.0)
compressed_only n spelling rest (inr (inl two)) = rw two.1 (two_read n rest two.0)
compressed_only n spelling rest (inr (inr four)) = rw four.1 (four_read n rest four.0)
