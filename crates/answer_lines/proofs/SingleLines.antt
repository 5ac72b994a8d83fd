-- The lines of reports are one line each.
use Rattle.std.proofs.Common.{◌≡◌, ℕ, Bool, List, [], ◌∷◌, ◌++◌, length, Vec, Global, ap, sym, subst, append_assoc, codes, refl, arith}
use Rattle.std.specs.Fmt.{decimal}
use Rattle.std.proofs.lemmas.List.Elements.{All-push}
use Rattle.cc_base.specs.Digits.{hex}
use Rattle.cil_model.specs.WellFormed.{IsUnitName}
use Rattle.cil_model.specs.declared.unit.Unit.{Unit as MethodUnit}
use Rattle.answer_lines.specs.LineCounts.{AreLines, line_count}
use Rattle.answer_lines.specs.Lines.{obligation_line, proved_text, summary_line, unit_line}
use Rattle.answer_lines.specs.Signatures.{unit_signature}
use Rattle.answer_lines.specs.declared.lines.Counts.{Counts}
use Rattle.answer_lines.proofs.LineLemmas.{line_of_text, none_behind, none_in_hex}
use Rattle.answer_lines.proofs.PlainTexts.{none_in_graphic, none_in_number, none_in_signature, none_in_verdict}

-- ---- the line of a unit

-- Without its line feed.
abbrev pub unit_said : MethodUnit → Bool → List ℕ
unit_said unit proved = codes "unit " ++ unit_signature unit ++ codes ": " ++ proved_text proved

pub none_in_unit : (unit : MethodUnit) (proved : Bool) → IsUnitName unit.name → line_count (unit_said unit proved) ≡ 0
unfolding line_count
none_in_unit unit proved named =
    let signed = codes "unit " ++ unit_signature unit in
    none_behind (signed ++ codes ": ") (proved_text proved)
    (none_behind signed (codes ": ")
    (none_behind (codes "unit ") (unit_signature unit) refl (none_in_signature unit.name unit.args (none_in_graphic unit.name named.graphic))) refl)
    (none_in_verdict proved)

pub unit_is_line : (unit : MethodUnit) (proved : Bool) → IsUnitName unit.name → line_count (unit_line unit proved) ≡ 1
unit_is_line unit proved named = line_of_text (unit_said unit proved) (none_in_unit unit proved named)

-- ---- the line of an obligation

abbrev pub obligation_said : ℕ → List ℕ → Bool → List ℕ
obligation_said at kind proved = codes "  IL_" ++ hex 4 at ++ codes " " ++ kind ++ codes ": " ++ proved_text proved

pub none_in_obligation : (at : ℕ) (kind : List ℕ) (proved : Bool) → line_count kind ≡ 0 → line_count (obligation_said at kind proved) ≡ 0
unfolding line_count
none_in_obligation at kind proved none =
    let place = codes "  IL_" ++ hex 4 at in
    none_behind (place ++ codes " " ++ kind ++ codes ": ") (proved_text proved)
    (none_behind (place ++ codes " " ++ kind) (codes ": ")
    (none_behind (place ++ codes " ") kind
    (none_behind place (codes " ") (none_behind (codes "  IL_") (hex 4 at) refl (none_in_hex 4 at)) refl) none) refl) (none_in_verdict proved)

pub obligation_is_line : (at : ℕ) (kind : List ℕ) (proved : Bool) → line_count kind ≡ 0 → line_count (obligation_line at kind proved) ≡ 1
obligation_is_line at kind proved none = line_of_text (obligation_said at kind proved) (none_in_obligation at kind proved none)

-- ---- the summary

-- Up to its last number.
unfoldable pub summary_prefix : Counts → List ℕ
summary_prefix n =
    codes "summary: " ++ decimal n.methods ++ codes " methods, " ++ decimal n.proved ++ codes " proved, "
    ++ decimal n.unproved ++ codes " unproved, " ++ decimal n.skipped ++ codes " not analysed, "
    ++ decimal n.obligations ++ codes " obligations, " ++ decimal n.proved_obligations

unfoldable pub summary_said : Counts → List ℕ
unfolding summary_prefix
summary_said n = summary_prefix n ++ codes " proved"

pub summary_ends : (n : Counts) → summary_said n ++ codes "\n" ≡ summary_line n
unfolding summary_said
summary_ends n = append_assoc (summary_prefix n) (codes " proved") (codes "\n")

-- A number, and what it counts.
number_behind : (before : List ℕ) (n : ℕ) (what : List ℕ) → line_count before ≡ 0 → line_count what ≡ 0 → line_count (before ++ decimal n ++ what) ≡ 0
number_behind before n what none other = none_behind (before ++ decimal n) what (none_behind before (decimal n) none (none_in_number n)) other

pub none_in_summary : (n : Counts) → line_count (summary_said n) ≡ 0
unfolding line_count summary_said summary_prefix
none_in_summary n =
    let methods = codes "summary: " ++ decimal n.methods ++ codes " methods, " in
    let proved = methods ++ decimal n.proved ++ codes " proved, " in
    let unproved = proved ++ decimal n.unproved ++ codes " unproved, " in
    let skipped = unproved ++ decimal n.skipped ++ codes " not analysed, " in
    let obligations = skipped ++ decimal n.obligations ++ codes " obligations, " in
    let first = number_behind (codes "summary: ") n.methods (codes " methods, ") refl refl in
    let second = number_behind methods n.proved (codes " proved, ") first refl in
    let third = number_behind proved n.unproved (codes " unproved, ") second refl in
    let fourth = number_behind unproved n.skipped (codes " not analysed, ") third refl in
    let fifth = number_behind skipped n.obligations (codes " obligations, ") fourth refl in
    number_behind obligations n.proved_obligations (codes " proved") fifth refl

pub summary_is_line : (n : Counts) → line_count (summary_line n) ≡ 1
summary_is_line n = subst (λ (line : List ℕ). line_count line ≡ 1) (summary_ends n) (line_of_text (summary_said n) (none_in_summary n))

-- ---- lines of a list

pub no_lines : (lines : List (Vec ℕ Global)) → lines ≡ [] → AreLines lines
no_lines lines none = λ k line below. absurd (omega (arith, ap length none, below))

pub lines_more : (lines all : List (Vec ℕ Global)) (line : Vec ℕ Global) → AreLines lines → line_count line.items ≡ 1 → all ≡ lines ++ line ∷ [] → AreLines all
lines_more lines all line are one is =
    subst AreLines (sym is) (All-push (λ (line : Vec ℕ Global). line_count line.items ≡ 1) lines line are one)
