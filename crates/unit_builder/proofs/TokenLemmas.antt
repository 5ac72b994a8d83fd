-- The tokens of the methods of an assembly follow one another.
use Rattle.std.proofs.Common.{◌≡◌, ℕ, ◌+◌, ◌-◌, ◌<◌, ◌≤◌, List, length, Some, IsSome, slice_get, option_map, sym, ap, ◌∙◌, arith}
use Rattle.std.specs.List.{range_with_len}
use Rattle.std.proofs.lemmas.Bool.{and_parts, eqb-true, leb-true}
use Rattle.std.proofs.lemmas.List.{length-map}
use Rattle.std.proofs.lemmas.List.FromFn.{get_or-range_with_len, length-range_with_len}
use Rattle.std.proofs.lemmas.Option.{slice_get-map, slice_get-get_or, slice_get_within}
use Rattle.asm_image.specs.Bodies.{method_of}
use Rattle.asm_image.specs.Cells.{method_count}
use Rattle.asm_image.specs.Rows.{method_row, methods_of, rows_of}
use Rattle.asm_image.specs.declared.method_row.MethodRow.{MethodRow}
use Rattle.cc_base.specs.Tokens.{row_of, table_of}
use Rattle.cc_base.specs.declared.token.Token.{Token}
use Rattle.metadata_tables.specs.Numbers.{method_def}
use Rattle.pe_reader.specs.Addresses.{metadata}
use Rattle.unit_builder.specs.Met.{IsAmong, first_method}
use Rattle.unit_builder.proofs.VisitLemmas.{row_there, some_is}

row-token : (md : List ℕ) (index : ℕ) (method : MethodRow) → index < method_count md → slice_get (rows_of md) index ≡ Some method → method.token.0 ≡ first_method + index
unfolding rows_of method_row
row-token md index method lt is =
    let rows = range_with_len 1 (method_count md) in
    let number : slice_get rows index ≡ Some (1 + index) =
    slice_get-get_or rows index 0 (omega (arith, length-range_with_len 1 (method_count md))) ∙ ap Some (get_or-range_with_len 1 (method_count md) index 0 lt) in
    let made : Some method ≡ Some (method_row md (1 + index)) = sym is ∙ slice_get-map (method_row md) rows index ∙ ap (option_map (method_row md)) number in
    let same : method ≡ method_row md (1 + index) = cc in
    ap (λ m. m.token.0) same ∙ omega arith

methods-long : (md : List ℕ) → length (rows_of md) ≡ method_count md
unfolding rows_of
methods-long md = length-map (range_with_len 1 (method_count md)) (method_row md) ∙ length-range_with_len 1 (method_count md)

-- The token of the method of an index.
pub token_at : (asm : List ℕ) (index : ℕ) (method : MethodRow) → slice_get (methods_of asm) index ≡ Some method → method.token.0 ≡ first_method + index
token_at asm index method is =
    row-token (metadata asm) index method (omega (arith, slice_get_within (methods_of asm) index method is, methods-long (metadata asm))) is

-- A token that names a method is one of these.
pub named-among : (asm : List ℕ) (token : Token) → IsSome (method_of asm token) → IsAmong (length (methods_of asm)) token.0
named-among asm token there =
    let found = some_is (method_of asm token) there in
    let row = row_there asm token found.0 found.1 in
    let parts = and_parts _ _ row.0 in
    let table = eqb-true _ _ parts.0 in
    let one = leb-true _ _ parts.1 in
    let within = slice_get_within (methods_of asm) (row_of token.0 - 1) found.0 row.1 in
    among_by token.0 (length (methods_of asm)) table one within where
      among_by : (token count : ℕ) → table_of token ≡ method_def → 1 ≤ row_of token → row_of token - 1 < count → IsAmong count token
      among_by token count table one within = record { from = omega arith; below = omega arith }

-- That of the last one tells how many there are.
pub last_token : (asm : List ℕ) (method : MethodRow) → slice_get (methods_of asm) (length (methods_of asm) - 1) ≡ Some method
    → (first_method ≤ method.token.0) × (method.token.0 - first_method + 1 ≡ length (methods_of asm))
last_token asm method is =
    let at = token_at asm (length (methods_of asm) - 1) method is in
    let some = slice_get_within (methods_of asm) (length (methods_of asm) - 1) method is in
    (omega arith, omega arith)
