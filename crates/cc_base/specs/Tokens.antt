-- Metadata tokens (ECMA-335 III.1.9): the table in the high byte, and the row in the low three bytes.
use Rattle.std.specs.Prelude.{ℕ, ◌+◌, ◌*◌, ◌/◌, ◌%◌, ◌^◌}

abbrev pub token_of : ℕ → ℕ → ℕ
token_of table row = table * 2 ^ 24 + row

abbrev pub table_of : ℕ → ℕ
table_of token = token / 2 ^ 24

abbrev pub row_of : ℕ → ℕ
row_of token = token % 2 ^ 24
