-- Sections of small texts.
use Rattle.std.proofs.Common.{◌≡◌, ℕ, List, [], ◌∷◌, ◌++◌, codes, get_or, refl, ap, subst, sym, ◌∙◌, true, false, inl, inr, arith}
use Rattle.std.specs.Prelude.{Contains}
use Rattle.asm_image.specs.declared.method_row.MethodRow.{MethodRow}
use Rattle.cc_base.specs.Digits.{hex}
use Rattle.assembly_reports.specs.CheckText.{assembly_line, method_line}
use Rattle.assembly_reports.specs.Sections.{HasProvedLine, begins_section, lines_of, proved_line, section, sections_of}
use Rattle.assembly_reports.proofs.Members.{contains_first, none_contained}

-- A line feed ends a line, and what stands after the last one is none. A line may be empty.
two_lines : lines_of (codes "ab\n\nc\nd") ≡ codes "ab" ∷ [] ∷ codes "c" ∷ []
two_lines = refl

unfinished : lines_of (codes "method 06000001 A::B(): proved") ≡ []
unfinished = refl

no_text : lines_of [] ≡ []
no_text = refl

-- The word and the space after it begin a section.
begins : begins_section (codes "assembly a.dll") ≡ true
begins = refl

-- The word alone does not, nor does it further on in a line.
word_alone : begins_section (codes "assembly") ≡ false
word_alone = refl

further_on : begins_section (codes "  assembly a.dll") ≡ false
further_on = refl

-- Two assemblies, each with its own lines.
abbrev both_reports : List ℕ
both_reports = codes "before\nassembly a\nmethod 06000001 A::B(): proved\nsummary\nassembly b\nmethod 06000001 C::D(): unproved\nmethod 06000002 C::E(): proved\n"

first_section : section 0 both_reports ≡ codes "method 06000001 A::B(): proved" ∷ codes "summary" ∷ []
first_section = refl

-- A line of the second is none of the first.
second_section : section 1 both_reports ≡ codes "method 06000001 C::D(): unproved" ∷ codes "method 06000002 C::E(): proved" ∷ []
second_section = refl

-- There is no third.
third_section : section 2 both_reports ≡ []
third_section = refl

-- A report that is cut off inside a line has the lines before.
cut_off : section 0 (codes "assembly a\nmethod 06000001 A::B(): proved\nmethod 06000002 A::C(): proved") ≡ codes "method 06000001 A::B(): proved" ∷ []
cut_off = refl

-- Sections without lines count.
no_lines : sections_of (lines_of (codes "assembly a\nassembly b\nx\n")) ≡ [] ∷ (codes "x" ∷ []) ∷ []
no_lines = refl

-- The line of a method has its token in eight digits, its name, and the verdict.
its_line : (method : MethodRow) → method.token.0 ≡ 0x06000001 → method.name ≡ codes "A::B()" → proved_line method ≡ codes "method 06000001 A::B(): proved"
unfolding hex
its_line method token name = rw (token, name) refl

is_counted : (method : MethodRow) → method.token.0 ≡ 0x06000001 → method.name ≡ codes "A::B()" → HasProvedLine (section 0 both_reports) method
is_counted method token name = (0, omega arith, sym (its_line method token name))

-- Texts that differ in a byte.
differ : (place a b : ℕ) (x y : List ℕ) → get_or x place 0 ≡ a → get_or y place 0 ≡ b → (a ≡ b → ⊥) → x ≡ y → ⊥
differ place a b x y first second other same = other (sym first ∙ ap (λ (l : List ℕ). get_or l place 0) same ∙ second)

-- A line of the next section is not counted.
abbrev of_ab : List ℕ
of_ab = codes "method 06000001 A::B(): proved"

abbrev of_ac : List ℕ
of_ac = codes "method 06000002 A::C(): proved"

abbrev of_ce : List ℕ
of_ce = codes "method 06000002 C::E(): proved"

not_of_ce : Contains (of_ab ∷ codes "summary" ∷ []) of_ce → ⊥
not_of_ce has =
    elim (contains_first of_ab of_ce (codes "summary" ∷ []) has) [
      | inl same ↦ differ 14 49 50 of_ab of_ce refl refl (λ e. omega (arith, e)) same
      | inr later ↦
          elim (contains_first (codes "summary") of_ce [] later) [
            | inl same ↦ differ 0 115 109 (codes "summary") of_ce refl refl (λ e. omega (arith, e)) same
            | inr none ↦ none_contained of_ce none
          ]
    ]

of_the_next : (method : MethodRow) → method.token.0 ≡ 0x06000002 → method.name ≡ codes "C::E()" → HasProvedLine (section 0 both_reports) method → ⊥
unfolding hex
of_the_next method token name has =
    let line : proved_line method ≡ of_ce = rw (token, name) refl in
    not_of_ce (subst (λ (l : List ℕ). Contains (of_ab ∷ codes "summary" ∷ []) l) line has)

-- Nor is one that is cut off.
abbrev cut_report : List ℕ
cut_report = codes "assembly a\nmethod 06000001 A::B(): proved\nmethod 06000002 A::C(): proved"

not_of_ac : Contains (of_ab ∷ []) of_ac → ⊥
not_of_ac has =
    elim (contains_first of_ab of_ac [] has) [
      | inl same ↦ differ 14 49 50 of_ab of_ac refl refl (λ e. omega (arith, e)) same
      | inr none ↦ none_contained of_ac none
    ]

of_a_cut_line : (method : MethodRow) → method.token.0 ≡ 0x06000002 → method.name ≡ codes "A::C()" → HasProvedLine (section 0 cut_report) method → ⊥
unfolding hex
of_a_cut_line method token name has =
    let line : proved_line method ≡ of_ac = rw (token, name) refl in
    not_of_ac (subst (λ (l : List ℕ). Contains (of_ab ∷ []) l) line has)

-- The lines of a report, as they are printed, are those of a section.
printed_report : List ℕ
printed_report =
    assembly_line (codes "a.dll") ++ method_line 0x06000001 (codes "A::B()") (codes "proved") ++ codes "  IL_0007 assert: proved\n"
    ++ method_line 0x06000002 (codes "A::C()") (codes "unproved")

as_printed : section 0 printed_report ≡ codes "method 06000001 A::B(): proved" ∷ codes "  IL_0007 assert: proved" ∷ codes "method 06000002 A::C(): unproved" ∷ []
unfolding printed_report hex
as_printed = refl
