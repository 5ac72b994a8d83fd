-- The lines of a text, and its sections: one for each assembly that is reported.
use Rattle.std.specs.Prelude.{ℕ, Bool, List, [], ◌∷◌, ◌++◌, ◌==◌, nat_eq, if◌then◌else◌, codes, slice_index_or, Contains}
use Rattle.std.specs.List.{before_first, starts_with}
use Rattle.asm_image.specs.declared.method_row.MethodRow.{MethodRow}
use Rattle.cc_base.specs.Digits.{hex}

-- A byte before lines makes the first of them longer.
abbrev pub longer : ℕ → List (List ℕ) → List (List ℕ)
longer byte [] = []
longer byte (line ∷ lines) = (byte ∷ line) ∷ lines

-- The lines of a text, each without the line feed that ends it. What stands after the last line feed is no line.
abbrev pub lines_of : List ℕ → List (List ℕ)
lines_of [] = []
lines_of (byte ∷ text) = if byte == 10 then [] ∷ lines_of text else longer byte (lines_of text)

-- The line begins the section of an assembly.
abbrev pub begins_section : List ℕ → Bool
begins_section line = starts_with nat_eq line (codes "assembly ")

-- The sections of lines, in order. Each has the lines after one that begins a section, up to the next such line.
abbrev pub sections_of : List (List ℕ) → List (List (List ℕ))
sections_of [] = []
sections_of (line ∷ lines) =
    if begins_section line then before_first begins_section lines ∷ sections_of lines else sections_of lines

-- Section k of a text, counted from 0. Where there are not so many it has no lines.
abbrev pub section : ℕ → List ℕ → List (List ℕ)
section k text = slice_index_or (sections_of (lines_of text)) k []

-- The line that tells a method to be proved: its token, its name, and the verdict.
abbrev pub proved_line : MethodRow → List ℕ
proved_line method = codes "method " ++ hex 8 method.token.0 ++ codes " " ++ method.name ++ codes ": proved"

-- The section has that line of the method.
abbrev pub HasProvedLine : List (List ℕ) → MethodRow → Type 0
HasProvedLine lines method = Contains lines (proved_line method)
