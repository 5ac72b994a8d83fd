-- Hexadecimal text, and the loop that writes it from its end.
use Rattle.std.proofs.Common.{◌≡◌, ℕ, zero, suc, ◌+◌, ◌-◌, ◌/◌, ◌%◌, ◌<◌, ◌≤◌, List, [], ◌∷◌, ◌++◌, length, take, drop, set, refl, sym, ap, ap₂, ◌∙◌, arith, append_assoc, take_at}
use Rattle.std.proofs.lemmas.List.{drop-set, length_push}
use Rattle.cc_base.specs.Digits.{hex, hex_digit}

-- There are as many digits as were asked for.
pub length-hex : (digits n : ℕ) → length (hex digits n) ≡ digits
unfolding hex
length-hex zero n = refl
length-hex (suc digits) n =
    let e = length-hex digits (n / 16) in
    let pushed = length_push (hex digits (n / 16)) (hex_digit (n % 16)) in
    omega (arith, e, pushed)

-- One more digit before those that are written.
hex_more-suc : (index rest digit : ℕ) (text : List ℕ) → index < length text → digit ≡ hex_digit (rest % 16)
    → hex index (rest / 16) ++ drop index (set text index digit) ≡ hex (suc index) rest ++ drop (suc index) text
unfolding hex
hex_more-suc index rest digit text h e =
    let next : index + 1 ≡ suc index = omega arith in
    ap (λ (xs : List ℕ). hex index (rest / 16) ++ xs) (drop-set text index digit h)
    ∙ ap₂ (λ (d p : ℕ). hex index (rest / 16) ++ d ∷ drop p text) e next
    ∙ sym (append_assoc (hex index (rest / 16)) (hex_digit (rest % 16) ∷ []) (drop (suc index) text))

-- The same, from an index above 0.
pub hex_more : (index rest digit : ℕ) (text : List ℕ) → 0 < index → index ≤ length text → digit ≡ hex_digit (rest % 16)
    → hex (index - 1) (rest / 16) ++ drop (index - 1) (set text (index - 1) digit) ≡ hex index rest ++ drop index text
hex_more zero rest digit text above h e = absurd (omega arith)
hex_more (suc index) rest digit text above h e =
    let back : suc index - 1 ≡ index = omega arith in
    rw back (hex_more-suc index rest digit text (omega arith) e)

-- At index 0 all is written.
pub hex_all : (index rest digits n : ℕ) (text old : List ℕ) → index ≤ 0
    → hex index rest ++ drop index text ≡ hex digits n ++ drop digits old → take digits text ≡ hex digits n
unfolding hex
hex_all zero rest digits n text old h e =
    ap (λ (xs : List ℕ). take digits xs) e ∙ take_at (hex digits n) (drop digits old) digits (length-hex digits n)
hex_all (suc index) rest digits n text old h e = absurd (omega arith)
