-- The bytes of a text in hexadecimal are read back, and no other text is read.
use Rattle.std.proofs.Common.{◌≡◌, ℕ, zero, suc, ◌+◌, ◌*◌, ◌/◌, ◌%◌, ◌<◌, ◌≤◌, List, [], ◌∷◌, ◌++◌, length, take}
use Rattle.std.proofs.Common.{get_or, refl, sym, ap, ap₂, ◌∙◌, subst, append_assoc, append-nil, arith}
use Rattle.std.proofs.lemmas.List.{take_all, take_more}
use Rattle.std.proofs.lemmas.List.Concat.{flat_map-append, flat_map-cons}
use Rattle.cc_base.specs.Digits.{hex, hex_digit}
use Rattle.cc_base.specs.LittleEndian.{IsBytes}
use Rattle.cc_base.proofs.ByteLemmas.{IsBytes-append, IsBytes-cons, IsBytes-nil}
use Rattle.proof_files.specs.Proofs.{hex_text}
use Rattle.proof_files.proofs.HexLemmas.{byte_digits, hex_cells}

-- ---- one byte

cells_same : (a b c d : ℕ) → a ∷ b ∷ [] ≡ c ∷ d ∷ [] → (a ≡ c) × (b ≡ d)
cells_same a b c d same =
    let one : a ≡ c = cc in
    let two : b ≡ d = cc in
    (one, two)

pub byte_read : (high low first second : ℕ) → first < 16 → second < 16 → hex_digit first ≡ high → hex_digit second ≡ low
    → (first * 16 + second < 256) × (hex 2 (first * 16 + second) ≡ high ∷ low ∷ [])
byte_read high low first second first_small second_small first_is second_is =
    let small : first * 16 + second < 256 = omega (arith, first_small, second_small) in
    let prefix : (first * 16 + second) / 16 ≡ first = omega (arith, second_small) in
    let last : (first * 16 + second) % 16 ≡ second = omega (arith, second_small) in (
      small,
      byte_digits (first * 16 + second) small ∙ ap₂ (λ (a b : ℕ). a ∷ b ∷ [])
          (ap (λ (n : ℕ). hex_digit n) prefix ∙ first_is) (ap (λ (n : ℕ). hex_digit n) last ∙ second_is),
    )

pub high_none : (high low : ℕ) → ((n : ℕ) → n < 16 → hex_digit n ≡ high → ⊥)
    → (byte : ℕ) → byte < 256 → hex 2 byte ≡ high ∷ low ∷ [] → ⊥
high_none high low none byte small is =
    none (byte / 16) (omega (arith, small))
    (cells_same (hex_digit (byte / 16)) (hex_digit (byte % 16)) high low (sym (byte_digits byte small) ∙ is)).0

pub low_none : (high low : ℕ) → ((n : ℕ) → n < 16 → hex_digit n ≡ low → ⊥)
    → (byte : ℕ) → byte < 256 → hex 2 byte ≡ high ∷ low ∷ [] → ⊥
low_none high low none byte small is =
    none (byte % 16) (omega arith)
    (cells_same (hex_digit (byte / 16)) (hex_digit (byte % 16)) high low (sym (byte_digits byte small) ∙ is)).1

-- ---- all bytes

pub hex_length : (bytes : List ℕ) → IsBytes bytes → length (hex_text bytes) ≡ 2 * length bytes
hex_length [] small = refl
hex_length (b ∷ bytes) small =
    let later = hex_length bytes (λ i. small (suc i)) in
    omega (arith, ap length (hex_cells b bytes (small zero)), later)

pub hex_odd : (text : List ℕ) → length text % 2 ≡ 1 → (bytes : List ℕ) → IsBytes bytes → hex_text bytes ≡ text → ⊥
hex_odd text odd bytes small is = omega (arith, odd, hex_length bytes small, ap length is)

-- The digits up to a place are those of the bytes that were read.
pub record AreRead (text bytes : List ℕ) (place : ℕ) : Type 0 where
  pub small : IsBytes bytes
  pub same : hex_text bytes ≡ take (2 * place) text

pub read_starts : (text : List ℕ) → AreRead text [] 0
read_starts text = record { small = IsBytes-nil; same = refl }

two_more : (text : List ℕ) (n : ℕ) → n + 1 < length text
    → take (n + 1 + 1) text ≡ take n text ++ (get_or text n 0 ∷ get_or text (n + 1) 0 ∷ [])
two_more text n within =
    take_more text (n + 1) 0 within
    ∙ ap (λ (prefix : List ℕ). prefix ++ get_or text (n + 1) 0 ∷ []) (take_more text n 0 (omega (arith, within)))
    ∙ append_assoc (take n text) (get_or text n 0 ∷ []) (get_or text (n + 1) 0 ∷ [])

pub read_more : (text bytes : List ℕ) (place byte : ℕ) → AreRead text bytes place → 2 * place + 1 < length text
    → byte < 256
    → hex 2 byte ≡ get_or text (2 * place) 0 ∷ get_or text (2 * place + 1) 0 ∷ []
    → AreRead text (bytes ++ byte ∷ []) (place + 1)
read_more text bytes place byte before within small is =
    let next : 2 * (place + 1) ≡ 2 * place + 1 + 1 = omega arith in
    record {
      small = IsBytes-append bytes (byte ∷ []) before.small (IsBytes-cons byte [] small IsBytes-nil);
      same =
          flat_map-append (hex 2) bytes (byte ∷ [])
          ∙ ap₂ (λ (prefix last : List ℕ). prefix ++ last) before.same (flat_map-cons (hex 2) byte []
          ∙ append-nil (hex 2 byte) ∙ is)
          ∙ sym (two_more text (2 * place) within) ∙ ap (λ (n : ℕ). take n text) (sym next);
    }

record HasPair (text : List ℕ) (place : ℕ) : Type 0 where
  byte : ℕ
  small : byte < 256
  is : hex 2 byte ≡ get_or text (2 * place) 0 ∷ get_or text (2 * place + 1) 0 ∷ []

pair_behind : (a b : ℕ) (text : List ℕ) (place : ℕ) → HasPair text place → HasPair (a ∷ b ∷ text) (suc place)
pair_behind a b text place pair =
    let even : 2 * suc place ≡ suc (suc (2 * place)) = omega arith in
    let odd : 2 * suc place + 1 ≡ suc (suc (2 * place + 1)) = omega arith in
    record {
      byte = pair.byte;
      small = pair.small;
      is = pair.is ∙ ap₂ (λ (n m : ℕ). get_or (a ∷ b ∷ text) n 0 ∷ get_or (a ∷ b ∷ text) m 0 ∷ []) (sym even) (sym odd);
    }

pair_at : (bytes : List ℕ) (place : ℕ) → IsBytes bytes → 2 * place + 1 < length (hex_text bytes)
    → HasPair (hex_text bytes) place
pair_at [] place small within = absurd (omega (arith, within))
pair_at (b ∷ bytes) zero small within =
    subst (λ (t : List ℕ). HasPair t zero) (sym (hex_cells b bytes (small zero)))
    (record { byte = b; small = small zero; is = byte_digits b (small zero) })
pair_at (b ∷ bytes) (suc place) small within =
    subst (λ (t : List ℕ). HasPair t (suc place)) (sym (hex_cells b bytes (small zero)))
    (pair_behind (hex_digit (b / 16)) (hex_digit (b % 16)) (hex_text bytes) place
    (pair_at bytes place (λ i. small (suc i)) (omega (arith, within, ap length (hex_cells b bytes (small zero))))))

pub pair_none : (text : List ℕ) (place : ℕ) → 2 * place + 1 < length text
    → ((byte : ℕ) → byte < 256 → hex 2 byte ≡ get_or text (2 * place) 0 ∷ get_or text (2 * place + 1) 0 ∷ [] → ⊥)
    → (bytes : List ℕ) → IsBytes bytes → hex_text bytes ≡ text → ⊥
pair_none text place within none bytes small is =
    let pair = subst (λ (t : List ℕ). HasPair t place) is
    (pair_at bytes place small (omega (arith, within, ap length is))) in
    none pair.byte pair.small pair.is

pub read_ends : (text bytes : List ℕ) (place : ℕ) → AreRead text bytes place → length text ≤ 2 * place
    → IsBytes bytes × (hex_text bytes ≡ text)
read_ends text bytes place before past = (before.small, before.same ∙ take_all (2 * place) text past)
