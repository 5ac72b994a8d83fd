-- Rows of the table MethodDef of an assembly.
use Rattle.std.specs.Prelude.{◌≡◌, ℕ, List}
use Rattle.asm_image.specs.Rows.{method_row}
use Rattle.asm_image.specs.declared.method_row.MethodRow.{MethodRow}
use Rattle.pe_reader.specs.Addresses.{metadata}

-- This is a row of the assembly.
pub record IsRowOf (asm : List ℕ) (method : MethodRow) : Type 0 where
  pub number : ℕ
  pub row_is : method ≡ method_row (metadata asm) number
