-- The report of a file is lines, and the lines that begin with `method` are those of its methods.
use Rattle.std.proofs.Common.{◌≡◌, ℕ, ◌+◌, List, [], ◌∷◌, ◌++◌, map, refl, sym, ap, ◌∙◌, append_assoc, append-nil, codes}
use Rattle.std.specs.Fmt.{decimal}
use Rattle.std.specs.List.{flat_map}
use Rattle.cc_base.specs.Digits.{hex}
use Rattle.cc_base.specs.Escapes.{escaped}
use Rattle.invariant_checker.specs.declared.verdict.Verdict.{Verdict}
use Rattle.cil_model.specs.declared.clause.Clause.{Clause}
use Rattle.ensures_infer.specs.Texts.{inferred_text}
use Rattle.unit_builder.specs.declared.entry.MethodEntry.{MethodEntry}
use Rattle.unit_builder.specs.declared.entry.Outcome.{Outcome}
use Rattle.unit_builder.specs.declared.entry.Outcome.TheVariants.{Analysed, Skipped}
use Rattle.unit_form.specs.AddedClauses.{added_clauses}
use Rattle.assembly_reports.specs.CheckText.{all_counts, assembly_line, entry_lines, outcome_finding, finding_lines, method_line, outcome_shown, report_text, verdict_lines, verdict_text}
use Rattle.assembly_reports.specs.Labels.{ensures_told, inferred_line, inferred_lines, labels_of}
use Rattle.assembly_reports.specs.declared.labels.Labels.{Labels}
use Rattle.answer_lines.specs.Lines.{summary_line}
use Rattle.assembly_reports.specs.ReportText.{obligation_text, verdict_line}
use Rattle.answer_lines.proofs.SingleLines.{obligation_said, summary_ends, summary_said}
use Rattle.assembly_reports.specs.Sections.{lines_of}
use Rattle.assembly_reports.proofs.ShownLines.{shown_are_lines}
use Rattle.answer_lines.proofs.WholeLines.{as_line, as_lines}
use Rattle.unit_verdicts.specs.Picks.{Manner, Pick, verdicts_under}

-- ---- the texts of the lines, without their line feeds

unfoldable pub method_said : ℕ → List ℕ → List ℕ → List ℕ
method_said token name text = codes "method " ++ hex 8 token ++ codes " " ++ name ++ codes ": " ++ text

-- An Ensures that was added, which has this number.
unfoldable pub added_said : ℕ → Clause → List ℕ
added_said k clause = codes "  inferred ensures " ++ decimal k ++ codes ": " ++ inferred_text clause

abbrev pub inferred_said : ℕ → List Clause → List (List ℕ)
inferred_said k [] = []
inferred_said k (clause ∷ clauses) = added_said k clause ∷ inferred_said (k + 1) clauses

unfoldable pub verdict_said : Labels → Verdict → List ℕ
verdict_said labels v = obligation_said v.obligation.at (obligation_text labels v.obligation) v.proved

unfoldable pub verdicts_said : Pick → Outcome → List (List ℕ)
verdicts_said pick (Analysed unit) =
    inferred_said (ensures_told unit + 1) (added_clauses unit) ++ map (verdict_said (labels_of unit)) (verdicts_under pick unit)
verdicts_said pick (Skipped reason) = []

unfoldable pub outcome_said : ℕ → List ℕ → Pick → Outcome → List (List ℕ)
outcome_said token name pick outcome = method_said token name (verdict_text (outcome_finding pick outcome)) ∷ verdicts_said pick outcome

-- What is shown of an invariant.
unfoldable pub shown_said : Manner → Outcome → List (List ℕ)
shown_said manner outcome = lines_of (outcome_shown manner outcome)

unfoldable pub entry_said : Manner → MethodEntry → List (List ℕ)
entry_said manner entry = outcome_said entry.token.0 entry.name manner.pick entry.outcome ++ shown_said manner entry.outcome

unfoldable pub report_said : List ℕ → Manner → List MethodEntry → List (List ℕ)
report_said name manner entries =
    (codes "assembly " ++ escaped name) ∷ (flat_map (entry_said manner) entries ++ summary_said (all_counts manner.pick entries) ∷ [])

-- ---- lines of lists

pub lines_behind : (a b : List (List ℕ)) → as_lines (a ++ b) ≡ as_lines a ++ as_lines b
lines_behind [] b = refl
lines_behind (text ∷ a) b = ap (λ (l : List ℕ). as_line text ++ l) (lines_behind a b) ∙ sym (append_assoc (as_line text) (as_lines a) (as_lines b))

pub inferred_are_lines : (k : ℕ) (clauses : List Clause) → as_lines (inferred_said k clauses) ≡ inferred_lines k clauses
unfolding added_said
inferred_are_lines k [] = refl
inferred_are_lines k (clause ∷ clauses) = ap (λ (l : List ℕ). inferred_line k clause ++ l) (inferred_are_lines (k + 1) clauses)

verdicts_are_lines : (labels : Labels) (found : List Verdict) → as_lines (map (verdict_said labels) found) ≡ flat_map (verdict_line labels) found
unfolding verdict_said
verdicts_are_lines labels [] = refl
verdicts_are_lines labels (v ∷ found) = ap (λ (l : List ℕ). verdict_line labels v ++ l) (verdicts_are_lines labels found)

said_of_outcome : (pick : Pick) (outcome : Outcome) → as_lines (verdicts_said pick outcome) ≡ verdict_lines (outcome_finding pick outcome)
unfolding verdicts_said labels_of
said_of_outcome pick (Analysed unit) =
    let inferred = inferred_said (ensures_told unit + 1) (added_clauses unit) in
    let found = verdicts_under pick unit in
    lines_behind inferred (map (verdict_said (labels_of unit)) found)
    ∙ ap (λ (l : List ℕ). l ++ as_lines (map (verdict_said (labels_of unit)) found)) (inferred_are_lines (ensures_told unit + 1) (added_clauses unit))
    ∙ ap (λ (l : List ℕ). inferred_lines (ensures_told unit + 1) (added_clauses unit) ++ l) (verdicts_are_lines (labels_of unit) found)
said_of_outcome pick (Skipped reason) = refl

outcome_is_lines : (token : ℕ) (name : List ℕ) (pick : Pick) (outcome : Outcome)
    → as_lines (outcome_said token name pick outcome) ≡ finding_lines token name (outcome_finding pick outcome)
unfolding outcome_said method_said
outcome_is_lines token name pick outcome =
    ap (λ (l : List ℕ). method_line token name (verdict_text (outcome_finding pick outcome)) ++ l) (said_of_outcome pick outcome)

entry_is_lines : (manner : Manner) (entry : MethodEntry) → as_lines (entry_said manner entry) ≡ entry_lines manner entry
unfolding entry_said shown_said
entry_is_lines manner entry =
    lines_behind (outcome_said entry.token.0 entry.name manner.pick entry.outcome) (shown_said manner entry.outcome)
    ∙ ap (λ (l : List ℕ). l ++ as_lines (shown_said manner entry.outcome)) (outcome_is_lines entry.token.0 entry.name manner.pick entry.outcome)
    ∙ ap (λ (l : List ℕ). finding_lines entry.token.0 entry.name (outcome_finding manner.pick entry.outcome) ++ l) (shown_are_lines manner entry.outcome)

entries_are_lines : (manner : Manner) (entries : List MethodEntry) → as_lines (flat_map (entry_said manner) entries) ≡ flat_map (entry_lines manner) entries
entries_are_lines manner [] = refl
entries_are_lines manner (entry ∷ entries) =
    lines_behind (entry_said manner entry) (flat_map (entry_said manner) entries)
    ∙ ap (λ (l : List ℕ). l ++ as_lines (flat_map (entry_said manner) entries)) (entry_is_lines manner entry)
    ∙ ap (λ (l : List ℕ). entry_lines manner entry ++ l) (entries_are_lines manner entries)

-- The lines before the last one, and the last.
lines_and_last : (before : List (List ℕ)) (last line text : List ℕ) → as_line last ≡ line → as_lines before ≡ text → as_lines (before ++ last ∷ []) ≡ text ++ line
lines_and_last before last line text is_line are_lines =
    lines_behind before (last ∷ []) ∙ ap (λ (l : List ℕ). as_lines before ++ l) (append-nil (as_line last)) ∙ rw (is_line, are_lines) refl

pub report_is_lines : (name : List ℕ) (manner : Manner) (entries : List MethodEntry) → as_lines (report_said name manner entries) ≡ report_text name manner entries
unfolding report_said report_text
report_is_lines name manner entries =
    let counts = all_counts manner.pick entries in
    ap (λ (l : List ℕ). assembly_line name ++ l) (lines_and_last (flat_map (entry_said manner) entries) (summary_said counts) (summary_line counts) (flat_map (entry_lines manner) entries) (summary_ends counts) (entries_are_lines manner entries))
    ∙ sym (append_assoc (assembly_line name) (flat_map (entry_lines manner) entries) (summary_line counts))
