-- Which methods have a body of IL, and the method that a token names.
use Rattle.std.specs.Prelude.{ℕ, ◌-◌, Bool, not, ◌&&◌, ◌==◌, nat_le, bit_and, List, Option, Some, None, slice_get, if◌then◌else◌}
use Rattle.cc_base.specs.Tokens.{table_of, row_of}
use Rattle.cc_base.specs.declared.token.Token.{Token}
use Rattle.metadata_tables.specs.Numbers.{method_def}
use Rattle.asm_image.specs.Rows.{methods_of}
use Rattle.asm_image.specs.declared.method_row.MethodRow.{MethodRow}

-- The method has an address, is neither abstract nor implemented outside (II.23.1.10: Abstract, PInvokeImpl),
-- and its code is IL (II.23.1.11, the low two bits).
abbrev pub has_il_body : MethodRow → Bool
has_il_body method =
    not (method.rva == 0) && bit_and method.flags 0x0400 == 0 && bit_and method.flags 0x2000 == 0 && bit_and method.impl_flags 0x0003 == 0

-- The token names a row of the table MethodDef.
abbrev pub is_method_token : Token → Bool
is_method_token token = table_of token.0 == method_def && nat_le 1 (row_of token.0)

-- The method that a token names in the assembly that a file is.
abbrev pub method_of : List ℕ → Token → Option MethodRow
method_of bytes token = if is_method_token token then slice_get (methods_of bytes) (row_of token.0 - 1) else None
