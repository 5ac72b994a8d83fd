-- The lines of an assembly's list.
use Rattle.std.specs.Prelude.{◌≡◌, ℕ, List, ◌++◌, codes}
use Rattle.std.specs.List.{AllByRecursion, flat_map}
use Rattle.answer_lines.specs.LineCounts.{line_count}
use Rattle.asm_image.specs.Rows.{methods_of}
use Rattle.asm_image.specs.declared.method_row.MethodRow.{MethodRow}
use Rattle.cc_base.specs.Digits.{hex}
use Rattle.cc_base.specs.declared.token.Token.{Token}

-- The line of a method: its token, its name.
abbrev pub line_of : Token → List ℕ → List ℕ
line_of token name = hex 8 token.0 ++ codes " " ++ name ++ codes "\n"

abbrev pub method_line : MethodRow → List ℕ
method_line method = line_of method.token method.name

-- No name of these methods has a line feed.
abbrev pub AreNamedPlainly : List MethodRow → Type 0
AreNamedPlainly methods = AllByRecursion (λ method. line_count method.name ≡ 0) methods

-- The methods of an assembly, one line for each.
unfoldable pub list_text : List ℕ → List ℕ
list_text bytes = flat_map method_line (methods_of bytes)
