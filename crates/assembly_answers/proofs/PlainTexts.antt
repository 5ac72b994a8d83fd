-- Labels, and the names of an assembly's methods, have no line feed.
use Rattle.std.proofs.Common.{◌≡◌, ℕ, zero, suc, List, [], ◌∷◌, ◌++◌, map, refl, codes}
use Rattle.std.specs.List.{range_with_len}
use Rattle.asm_image.specs.Cells.{method_count, method_name, namespace, owner, signature, type_name}
use Rattle.asm_image.specs.Names.{owner_text, printed_name, qualified, short_name, types_text}
use Rattle.asm_image.specs.Rows.{method_row, methods_of, rows_of}
use Rattle.cc_base.specs.Digits.{hex}
use Rattle.cc_base.specs.Escapes.{escaped}
use Rattle.cc_base.specs.declared.token.Token.{Token}
use Rattle.cil_model.specs.Places.{parameters_text}
use Rattle.il_decoder.specs.Labels.{label, label_digits}
use Rattle.pe_reader.specs.Addresses.{metadata}
use Rattle.signature_blobs.specs.declared.method.SigTypes.{SigTypes}
use Rattle.signature_blobs.specs.declared.method.SigTypes.TheVariants as types
use Rattle.answer_lines.specs.LineCounts.{line_count}
use Rattle.answer_lines.proofs.LineLemmas.{line_of_text, none_behind, none_in_hex, none_in_name}
use Rattle.answer_lines.proofs.PlainTexts.{none_in_parameters}
use Rattle.assembly_answers.specs.ListText.{AreNamedPlainly, line_of}

pub none_in_label : (at : ℕ) → line_count (label at) ≡ 0
unfolding label line_count
none_in_label at = none_behind (codes "IL_") (hex (label_digits at) at) refl (none_in_hex (label_digits at) at)

-- ---- names

none_in_types : (types : SigTypes) → line_count (types_text types) ≡ 0
unfolding line_count
none_in_types (types.Known known) =
    none_behind (codes "(" ++ parameters_text known.args) (codes ")")
    (none_behind (codes "(") (parameters_text known.args) refl (none_in_parameters known.args)) refl
none_in_types types.Other = refl

none_in_qualified : (namespace name : List ℕ) → line_count (qualified namespace name) ≡ 0
unfolding line_count
none_in_qualified [] name = none_in_name name
none_in_qualified (b ∷ bs) name =
    none_behind (escaped (b ∷ bs) ++ codes ".") (escaped name) (none_behind (escaped (b ∷ bs)) (codes ".") (none_in_name (b ∷ bs)) refl) (none_in_name name)

none_in_owner : (md : List ℕ) (row : ℕ) → line_count (owner_text md row) ≡ 0
unfolding line_count
none_in_owner md zero = refl
none_in_owner md (suc k) = none_in_qualified (namespace md (suc k)) (type_name md (suc k))

pub none_in_printed : (md : List ℕ) (row : ℕ) → line_count (printed_name md row) ≡ 0
unfolding printed_name short_name line_count
none_in_printed md row =
    none_behind (short_name md row) (types_text (signature md row).types)
    (none_behind (owner_text md (owner md row) ++ codes "::") (escaped (method_name md row))
    (none_behind (owner_text md (owner md row)) (codes "::") (none_in_owner md (owner md row)) refl) (none_in_name (method_name md row)))
    (none_in_types (signature md row).types)

-- ---- the methods of an assembly

rows_plain : (md : List ℕ) (rows : List ℕ) → AreNamedPlainly (map (method_row md) rows)
unfolding method_row
rows_plain md [] = tt
rows_plain md (row ∷ rows) = (none_in_printed md row, rows_plain md rows)

pub methods_plain : (bytes : List ℕ) → AreNamedPlainly (methods_of bytes)
unfolding rows_of
methods_plain bytes = rows_plain (metadata bytes) (range_with_len 1 (method_count (metadata bytes)))

pub listed_is_line : (token : Token) (name : List ℕ) → line_count name ≡ 0 → line_count (line_of token name) ≡ 1
unfolding line_count
listed_is_line token name none =
    line_of_text (hex 8 token.0 ++ codes " " ++ name)
    (none_behind (hex 8 token.0 ++ codes " ") name (none_behind (hex 8 token.0) (codes " ") (none_in_hex 8 token.0) refl) none)
