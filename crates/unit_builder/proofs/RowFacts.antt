-- Rows of an assembly, by their index and by their token.
use Rattle.std.proofs.Common.{◌≡◌, ℕ, ◌-◌, ◌≤◌, ◌==◌, Bool, true, false, List, refl, sym, ap, ◌∙◌, if◌then◌else◌}
use Rattle.std.specs.Prelude.{Option, Some, None, option_map, slice_get}
use Rattle.std.specs.List.{range_with_len}
use Rattle.std.proofs.lemmas.Bool.{and_parts, leb-true}
use Rattle.std.proofs.lemmas.Option.{none-some, same_Some, slice_get-map}
use Rattle.asm_image.specs.Bodies.{is_method_token, method_of}
use Rattle.asm_image.specs.Cells.{method_count}
use Rattle.asm_image.specs.Rows.{method_row, methods_of, rows_of}
use Rattle.asm_image.specs.declared.method_row.MethodRow.{MethodRow}
use Rattle.cc_base.specs.Tokens.{row_of, table_of}
use Rattle.cc_base.specs.declared.token.Token.{Token}
use Rattle.metadata_tables.specs.Numbers.{method_def}
use Rattle.pe_reader.specs.Addresses.{metadata}
use Rattle.unit_builder.specs.Rows.{IsRowOf}

row_told : (asm : List ℕ) (number : Option ℕ) (method : MethodRow) → option_map (method_row (metadata asm)) number ≡ Some method → IsRowOf asm method
row_told asm None method there = absurd (none-some method there)
row_told asm (Some number) method there = record { number = number; row_is = sym (same_Some _ method there) }

-- What stands at an index is a row.
pub indexed_row : (asm : List ℕ) (index : ℕ) (method : MethodRow) → slice_get (methods_of asm) index ≡ Some method → IsRowOf asm method
unfolding rows_of
indexed_row asm index method there =
    let numbers = range_with_len 1 (method_count (metadata asm)) in
    row_told asm (slice_get numbers index) method (sym (slice_get-map (method_row (metadata asm)) numbers index) ∙ there)

-- The token of a method names its index.
pub record IsIndexed (asm : List ℕ) (token : Token) (method : MethodRow) : Type 0 where
  pub some : 1 ≤ row_of token.0
  pub there : slice_get (methods_of asm) (row_of token.0 - 1) ≡ Some method

pub token_indexed : (asm : List ℕ) (token : Token) (method : MethodRow) → method_of asm token ≡ Some method → IsIndexed asm token method
token_indexed asm token method named = by (is_method_token token) refl named
  where
    by : (names : Bool) → is_method_token token ≡ names → (if names then slice_get (methods_of asm) (row_of token.0 - 1) else None) ≡ Some method → IsIndexed asm token method
    by true names there = record { some = leb-true 1 (row_of token.0) (and_parts (table_of token.0 == method_def) _ names).1; there = there }
    by false names there = absurd (none-some method there)

-- What a token names is a row.
pub named_row : (asm : List ℕ) (token : Token) (method : MethodRow) → method_of asm token ≡ Some method → IsRowOf asm method
named_row asm token method named = indexed_row asm (row_of token.0 - 1) method (token_indexed asm token method named).there

pub token_some : (asm : List ℕ) (token : Token) (method : MethodRow) → method_of asm token ≡ Some method → 1 ≤ row_of token.0
token_some asm token method named = (token_indexed asm token method named).some

pub token_there : (asm : List ℕ) (token : Token) (method : MethodRow) (row : ℕ) → method_of asm token ≡ Some method → row ≡ row_of token.0 → slice_get (methods_of asm) (row - 1) ≡ Some method
token_there asm token method row named same = ap (λ (r : ℕ). slice_get (methods_of asm) (r - 1)) same ∙ (token_indexed asm token method named).there
