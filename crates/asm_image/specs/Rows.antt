-- The methods of an assembly.
use Rattle.std.specs.Prelude.{ℕ, ◌+◌, ◌-◌, List, [], ◌∷◌, map, Option, Some, None}
use Rattle.std.specs.List.{range_with_len}
use Rattle.cc_base.specs.Tokens.{token_of}
use Rattle.cc_base.specs.declared.token.Token.{Token}
use Rattle.metadata_tables.specs.Layout.{cell}
use Rattle.metadata_tables.specs.Numbers.{method_def, method_def_flags, method_def_impl_flags, method_def_rva}
use Rattle.pe_reader.specs.Addresses.{metadata}
use Rattle.asm_image.specs.Cells.{method_count, signature}
use Rattle.asm_image.specs.Names.{printed_name}
use Rattle.asm_image.specs.declared.method_row.Method.{Method}
use Rattle.asm_image.specs.declared.method_row.MethodRow.{MethodRow}

-- The token of a method (II.22 and III.1.9): the table MethodDef in the high byte, and the row.
abbrev pub method_token : ℕ → Token
method_token row = record { 0 = token_of method_def row }

-- A row of the table MethodDef (II.22.26): RVA, ImplFlags, Flags, Name, Signature, ParamList.
unfoldable pub method_row : List ℕ → ℕ → MethodRow
method_row md row = record {
  token = method_token row;
  name = printed_name md row;
  flags = cell md method_def row method_def_flags;
  impl_flags = cell md method_def row method_def_impl_flags;
  rva = cell md method_def row method_def_rva;
  sig = signature md row;
}

-- The rows of that table, from row 1 on.
unfoldable pub rows_of : List ℕ → List MethodRow
rows_of md = map (method_row md) (range_with_len 1 (method_count md))

-- Those from a row on.
unfoldable pub rows_from : List ℕ → ℕ → List MethodRow
rows_from md row = map (method_row md) (range_with_len row (method_count md + 1 - row))

-- The methods of the assembly that a file is.
abbrev pub methods_of : List ℕ → List MethodRow
methods_of bytes = rows_of (metadata bytes)

-- A row without its printed name.
abbrev pub described : MethodRow → Method
described row = record { token = row.token; flags = row.flags; impl_flags = row.impl_flags; rva = row.rva; sig = row.sig }

-- The token of the first of some rows, that row without its name, and its name, none where there is no row.
abbrev pub first_token : List MethodRow → Option Token
first_token [] = None
first_token (row ∷ rows) = Some row.token

abbrev pub first_described : List MethodRow → Option Method
first_described [] = None
first_described (row ∷ rows) = Some (described row)

abbrev pub first_name : List MethodRow → List ℕ
first_name [] = []
first_name (row ∷ rows) = row.name

-- A method with its printed name.
abbrev pub named : Method → List ℕ → MethodRow
named method name = record { token = method.token; name = name; flags = method.flags; impl_flags = method.impl_flags; rva = method.rva; sig = method.sig }
