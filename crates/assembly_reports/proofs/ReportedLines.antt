-- The lines of what is found of a file's methods are those of its report.
use Rattle.std.proofs.Common.{◌≡◌, ℕ, Vec, Global, append-nil, List, [], ◌∷◌, ◌++◌, map, refl, ap, sym, ◌∙◌, zip}
use Rattle.std.specs.List.{flat_map, list_all}
use Rattle.std.proofs.lemmas.List.Folds.{list_all-map}
use Rattle.std.proofs.lemmas.List.Concat.{flat_map-append}
use Rattle.asm_image.specs.declared.method_row.MethodRow.{MethodRow}
use Rattle.unit_builder.specs.declared.entry.Outcome.{Outcome}
use Rattle.assembly_reports.specs.CheckText.{all_counts, all_shown, assembly_line, entry_lines, outcome_finding, finding_lines, findings, found_counts, is_proved, outcome_shown, report_text}
use Rattle.answer_lines.specs.Lines.{summary_line}
use Rattle.answer_lines.specs.Writing.{joined}
use Rattle.assembly_reports.specs.Findings.{shown_in, finding_in, found_lines}
use Rattle.assembly_reports.specs.InferredUnits.{entry_by}
use Rattle.assembly_reports.specs.declared.finding.Finding.{Finding as Found}
use Rattle.unit_builder.specs.declared.entry.MethodEntry.{MethodEntry}
use Rattle.answer_lines.specs.declared.lines.Counts.{Counts}
use Rattle.unit_verdicts.specs.Picks.{Manner, Pick}

lines_of : (of : MethodRow → Outcome) (manner : Manner) (methods : List MethodRow) (found : List Found)
    → map finding_in found ≡ findings manner.pick (map (entry_by of) methods) → map shown_in found ≡ all_shown manner (map (entry_by of) methods)
    → flat_map found_lines (zip methods found) ≡ flat_map (entry_lines manner) (map (entry_by of) methods)
lines_of of manner [] found same shown = refl
lines_of of manner (method ∷ methods) [] same shown = absurd cc
lines_of of manner (method ∷ methods) (one ∷ found) same shown =
    let first : finding_in one ≡ outcome_finding manner.pick (of method) = cc in
    let later : map finding_in found ≡ findings manner.pick (map (entry_by of) methods) = cc in
    let its : shown_in one ≡ outcome_shown manner (of method) = cc in
    let others : map shown_in found ≡ all_shown manner (map (entry_by of) methods) = cc in
    rw (lines_of of manner methods found later others, its)
    (ap (λ f. (finding_lines method.token.0 method.name f ++ outcome_shown manner (of method)) ++ flat_map (entry_lines manner) (map (entry_by of) methods)) first)

pub found_are_proved : (entries : List MethodEntry) (pick : Pick) (found : List Found) → map finding_in found ≡ findings pick entries
    → list_all (λ one. is_proved (finding_in one)) found ≡ list_all is_proved (findings pick entries)
found_are_proved entries pick found same = sym (list_all-map is_proved finding_in found) ∙ ap (list_all is_proved) same

-- The lines of a report, one after another.
pub report_of : (name : List ℕ) (of : MethodRow → Outcome) (manner : Manner) (found : List Found) (first lines all : List (Vec ℕ Global)) (line last : Vec ℕ Global) (methods : List MethodRow) (counts : Counts)
    → first ≡ [] ++ line ∷ [] → joined lines ≡ joined first ++ flat_map found_lines (zip methods found) → all ≡ lines ++ last ∷ []
    → line.items ≡ assembly_line name → last.items ≡ summary_line counts → counts ≡ found_counts (map finding_in found) → map finding_in found ≡ findings manner.pick (map (entry_by of) methods)
    → map shown_in found ≡ all_shown manner (map (entry_by of) methods) → joined all ≡ report_text name manner (map (entry_by of) methods)
unfolding report_text
report_of name of manner found first lines all line last methods counts first_is lines_are all_are line_is last_is counted same shown =
    let entries = map (entry_by of) methods in
    let prefix : joined first ≡ assembly_line name = ap joined first_is ∙ append-nil line.items ∙ line_is in
    let middle : joined lines ≡ assembly_line name ++ flat_map (entry_lines manner) entries =
    lines_are ∙ rw prefix (ap (λ l. assembly_line name ++ l) (lines_of of manner methods found same shown)) in
    ap joined all_are ∙ flat_map-append (λ (l : Vec ℕ Global). l.items) lines (last ∷ []) ∙ ap (λ l. joined lines ++ l) (append-nil last.items ∙ last_is ∙ ap summary_line counted ∙ ap (λ f. summary_line (found_counts f)) same)
    ∙ ap (λ l. l ++ summary_line (all_counts manner.pick entries)) middle

-- The lines of a unit's report: the first, those of its obligations, and the last.
pub three_parts : (none first lines all : List (Vec ℕ Global)) (line last : Vec ℕ Global) (prefix middle back : List ℕ) → none ≡ [] → first ≡ none ++ line ∷ [] → line.items ≡ prefix
    → joined lines ≡ joined first ++ middle → all ≡ lines ++ last ∷ [] → last.items ≡ back → joined all ≡ prefix ++ middle ++ back
three_parts none first lines all line last prefix middle back none_is first_is line_is lines_are all_are last_is =
    let begun : joined first ≡ prefix = ap joined (rw none_is at first_is) ∙ append-nil line.items ∙ line_is in
    ap joined all_are ∙ flat_map-append (λ (l : Vec ℕ Global). l.items) lines (last ∷ []) ∙ ap (λ l. joined lines ++ l) (append-nil last.items ∙ last_is)
    ∙ ap (λ l. l ++ back) (lines_are ∙ ap (λ l. l ++ middle) begun)
