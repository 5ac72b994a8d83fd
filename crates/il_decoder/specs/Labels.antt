-- How an IL offset is printed.
use Rattle.std.specs.Prelude.{ℕ, ◌^◌, List, ◌++◌, nat_lt, if◌then◌else◌, codes}
use Rattle.cc_base.specs.Digits.{hex}

-- Four digits in base sixteen, and more only where the offset needs them.
abbrev pub label_digits : ℕ → ℕ
label_digits at =
    if nat_lt at (16 ^ 4) then 4
    else if nat_lt at (16 ^ 5) then 5
    else if nat_lt at (16 ^ 6) then 6
    else if nat_lt at (16 ^ 7) then 7
    else 8

unfoldable pub label : ℕ → List ℕ
label at = codes "IL_" ++ hex (label_digits at) at
