-- Bytes are told apart by their text in hexadecimal.
use Rattle.std.proofs.Common.{◌≡◌, ℕ, zero, suc, ◌+◌, ◌/◌, ◌%◌, ◌<◌, ◌≤◌, List, [], ◌∷◌, ◌++◌, refl, sym, ap, ap₂, ◌∙◌}
use Rattle.std.proofs.Common.{inl, inr, arith}
use Rattle.std.proofs.lemmas.Bool.{cases_lt, le-ltb, lt-ltb}
use Rattle.std.proofs.lemmas.List.Concat.{flat_map-cons}
use Rattle.cc_base.specs.Digits.{hex, hex_digit}
use Rattle.cc_base.specs.LittleEndian.{IsBytes}
use Rattle.proof_files.specs.Proofs.{hex_text}

low_digit : (n : ℕ) → n < 10 → hex_digit n ≡ 48 + n
low_digit n less = rw (lt-ltb n 10 less) refl

high_digit : (n : ℕ) → 10 ≤ n → hex_digit n ≡ 87 + n
high_digit n not_less = rw (le-ltb n 10 not_less) refl

pub digit_once : (m n : ℕ) → hex_digit m ≡ hex_digit n → m < 16 → n < 16 → m ≡ n
digit_once m n same first second =
    elim (cases_lt m 10) [
      | inl low ↦ elim (cases_lt n 10) [
        | inl also ↦ omega (arith, same, low_digit m low, low_digit n also)
        | inr above ↦ absurd (omega (arith, same, low_digit m low, high_digit n above, low, above))
      ]
      | inr high ↦ elim (cases_lt n 10) [
        | inl below ↦ absurd (omega (arith, same, high_digit m high, low_digit n below, high, below))
        | inr also ↦ omega (arith, same, high_digit m high, high_digit n also)
      ]
    ]

-- The two digits of a byte.
pub byte_digits : (b : ℕ) → b < 256 → hex 2 b ≡ hex_digit (b / 16) ∷ hex_digit (b % 16) ∷ []
unfolding hex
byte_digits b small =
    let high : b / 16 % 16 ≡ b / 16 = omega (arith, small) in
    ap (λ (n : ℕ). hex_digit n ∷ hex_digit (b % 16) ∷ []) high

cells_same : (a b c d : ℕ) (r s : List ℕ) → a ∷ b ∷ r ≡ c ∷ d ∷ s → (a ≡ c) × (b ≡ d) × (r ≡ s)
cells_same a b c d r s same =
    let one : a ≡ c = cc in
    let two : b ≡ d = cc in
    let rest : r ≡ s = cc in
    (one, two, rest)

pub byte_once : (b c : ℕ) → b < 256 → c < 256 → hex 2 b ≡ hex 2 c → b ≡ c
byte_once b c first second same =
    let cells = cells_same (hex_digit (b / 16)) (hex_digit (b % 16)) (hex_digit (c / 16)) (hex_digit (c % 16)) [] []
    (sym (byte_digits b first) ∙ same ∙ byte_digits c second) in
    let high : b / 16 ≡ c / 16 = digit_once (b / 16) (c / 16) cells.0 (omega (arith, first)) (omega (arith, second)) in
    let low : b % 16 ≡ c % 16 = digit_once (b % 16) (c % 16) cells.1 (omega arith) (omega arith) in
    omega (arith, high, low)

pub hex_cells : (b : ℕ) (bytes : List ℕ) → b < 256
    → hex_text (b ∷ bytes) ≡ hex_digit (b / 16) ∷ hex_digit (b % 16) ∷ hex_text bytes
hex_cells b bytes small = flat_map-cons (hex 2) b bytes ∙ ap (λ (t : List ℕ). t ++ hex_text bytes) (byte_digits b small)

pub hex_once : (a b : List ℕ) → IsBytes a → IsBytes b → hex_text a ≡ hex_text b → a ≡ b
hex_once [] [] first second same = refl
hex_once [] (y ∷ b) first second same =
    let clash : [] ≡ hex_digit (y / 16) ∷ hex_digit (y % 16) ∷ hex_text b = same ∙ hex_cells y b (second zero) in
    absurd cc
hex_once (x ∷ a) [] first second same =
    let clash : hex_digit (x / 16) ∷ hex_digit (x % 16) ∷ hex_text a ≡ [] = sym (hex_cells x a (first zero)) ∙ same in
    absurd cc
hex_once (x ∷ a) (y ∷ b) first second same =
    let cells = cells_same (hex_digit (x / 16)) (hex_digit (x % 16)) (hex_digit (y / 16)) (hex_digit (y % 16))
    (hex_text a) (hex_text b)
    (sym (hex_cells x a (first zero)) ∙ same ∙ hex_cells y b (second zero)) in
    let high : x / 16 ≡ y / 16 = digit_once (x / 16) (y / 16) cells.0 (omega (arith, first zero))
    (omega (arith, second zero)) in
    let low : x % 16 ≡ y % 16 = digit_once (x % 16) (y % 16) cells.1 (omega arith) (omega arith) in
    let head : x ≡ y = omega (arith, high, low) in
    ap₂ (λ (z : ℕ) (zs : List ℕ). z ∷ zs) head (hex_once a b (λ i. first (suc i)) (λ i. second (suc i)) cells.2)
