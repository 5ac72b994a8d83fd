-- Numbers in decimal, read.
use Rattle.std.specs.Prelude.{ℕ, ◌+◌, ◌-◌, ◌*◌, ◌^◌, nat_lt, nat_le, ℤ, pos, ◌-ℤ◌, List, [], ◌∷◌, Option, Some, None}
use Rattle.std.specs.Prelude.{if◌then◌else◌, codes}
use Rattle.invariant_text.proofs.NumberReading.{begins_digit, is_digit}
use Rattle.invariant_reader.specs.Prefixes.{and_then, behind, or_else}

-- The number, with a digit behind its own. None: it has more than 64 bits.
abbrev pub with_digit : ℕ → ℕ → Option ℕ
with_digit n c = if nat_lt (n * 10 + (c - 48)) (2 ^ 64) then Some (n * 10 + (c - 48)) else None

-- The number that has the digits at the start behind those of n, and the text behind them.
abbrev pub number_after : ℕ → List ℕ → Option (ℕ × List ℕ)
number_after n [] = Some (n, [])
number_after n (c ∷ text) =
    if is_digit c then and_then (with_digit n c) (λ more. number_after more text) else Some (n, c ∷ text)

-- The number of 64 bits at the start.
unfoldable pub read_decimal : List ℕ → Option (ℕ × List ℕ)
read_decimal text = if begins_digit text then number_after 0 text else None

-- The number, where it has 32 bits.
abbrev pub short : ℕ → Option ℕ
short n = if nat_lt n (2 ^ 32) then Some n else None

-- The number of 32 bits at the start.
unfoldable pub read_short : List ℕ → Option (ℕ × List ℕ)
read_short text = and_then (read_decimal text) (λ n. and_then (short n.0) (λ s. Some (s, n.1)))

-- The number with a sign, where it has 64 bits.
abbrev pub positive : ℕ → Option ℤ
positive n = if nat_lt n (2 ^ 63) then Some (pos n) else None

abbrev pub negative : ℕ → Option ℤ
negative n = if nat_le n (2 ^ 63) then Some (pos 0 -ℤ pos n) else None

-- The number at the start, without its sign or with it.
unfoldable pub read_positive : List ℕ → Option (ℤ × List ℕ)
read_positive text = and_then (read_decimal text) (λ n. and_then (positive n.0) (λ z. Some (z, n.1)))

unfoldable pub read_negative : List ℕ → Option (ℤ × List ℕ)
read_negative text = and_then (read_decimal text) (λ n. and_then (negative n.0) (λ z. Some (z, n.1)))

-- The signed number at the start.
unfoldable pub read_signed : List ℕ → Option (ℤ × List ℕ)
read_signed text = or_else (behind (codes "-") text) read_negative (read_positive text)
