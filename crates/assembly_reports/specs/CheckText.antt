-- The report of an assembly.
use Rattle.std.specs.Prelude.{ℕ, Bool, false, List, [], ◌++◌, map, fold, codes}
use Rattle.std.specs.List.{flat_map, list_all}
use Rattle.cc_base.specs.Digits.{hex}
use Rattle.cc_base.specs.Escapes.{escaped}
use Rattle.invariant_checker.specs.Counts.{all_proved}
use Rattle.invariant_checker.specs.declared.verdict.Verdict.{Verdict}
use Rattle.unit_builder.specs.Outcomes.{entries_of}
use Rattle.unit_builder.specs.declared.entry.MethodEntry.{MethodEntry}
use Rattle.unit_builder.specs.declared.entry.Outcome.{Outcome}
use Rattle.unit_builder.specs.declared.entry.Outcome.TheVariants.{Analysed, Skipped}
use Rattle.answer_lines.specs.Counting.{counts_plus, no_counts}
use Rattle.assembly_answers.specs.ReasonText.{reason_text}
use Rattle.answer_lines.specs.Lines.{proved_text, summary_line}
use Rattle.assembly_reports.specs.InferredUnits.{reported_entries}
use Rattle.assembly_reports.specs.Labels.{labels_of}
use Rattle.assembly_reports.specs.ReportText.{unit_counts, verdict_line}
use Rattle.assembly_reports.specs.declared.labels.Labels.{Labels}
use Rattle.unit_verdicts.specs.Picks.{Manner, Pick, shown_text, verdicts_under}
use Rattle.answer_lines.specs.declared.lines.Counts.{Counts}

-- ---- what is found of a method

-- What is told of its unit and the verdicts on its obligations, or the words that say why it is not analysed.
pub data Finding : Type 0 where
  WithVerdicts : Labels → List Verdict → Finding
  NotAnalysed : List ℕ → Finding

abbrev pub outcome_finding : Pick → Outcome → Finding
outcome_finding pick (Analysed unit) = WithVerdicts (labels_of unit) (verdicts_under pick unit)
outcome_finding pick (Skipped reason) = NotAnalysed (reason_text reason)

-- ---- its lines

abbrev pub verdict_text : Finding → List ℕ
verdict_text (WithVerdicts labels found) = proved_text (all_proved found)
verdict_text (NotAnalysed reason) = codes "not analysed: " ++ reason

-- The lines of the Ensures that were added to its unit, and then of its obligations.
abbrev pub verdict_lines : Finding → List ℕ
verdict_lines (WithVerdicts labels found) = labels.inferred ++ flat_map (verdict_line labels) found
verdict_lines (NotAnalysed reason) = []

-- The line of a method: its token, its name, and what is found of it.
abbrev pub method_line : ℕ → List ℕ → List ℕ → List ℕ
method_line token name text = codes "method " ++ hex 8 token ++ codes " " ++ name ++ codes ": " ++ text ++ codes "\n"

-- All lines of a method of which this is found.
abbrev pub finding_lines : ℕ → List ℕ → Finding → List ℕ
finding_lines token name found = method_line token name (verdict_text found) ++ verdict_lines found

-- What is shown of the invariant of its unit.
abbrev pub outcome_shown : Manner → Outcome → List ℕ
outcome_shown manner (Analysed unit) = shown_text manner unit
outcome_shown manner (Skipped reason) = []

-- The same of each method.
abbrev pub all_shown : Manner → List MethodEntry → List (List ℕ)
all_shown manner entries = map (λ entry. outcome_shown manner entry.outcome) entries

abbrev pub entry_lines : Manner → MethodEntry → List ℕ
entry_lines manner entry =
    finding_lines entry.token.0 entry.name (outcome_finding manner.pick entry.outcome)
    ++ outcome_shown manner entry.outcome

-- ---- the whole

abbrev pub is_proved : Finding → Bool
is_proved (WithVerdicts labels found) = all_proved found
is_proved (NotAnalysed reason) = false

-- What one method adds to the counts.
abbrev pub counts_of : Finding → Counts
counts_of (WithVerdicts labels found) = unit_counts found
counts_of (NotAnalysed reason) = record { methods = 1; proved = 0; unproved = 0; skipped = 1; obligations = 0; proved_obligations = 0 }

-- The counts of all methods of which these are found.
abbrev pub found_counts : List Finding → Counts
found_counts found = fold (λ counts one. counts_plus counts (counts_of one)) no_counts found

-- What is found of each method.
abbrev pub findings : Pick → List MethodEntry → List Finding
findings pick entries = map (λ entry. outcome_finding pick entry.outcome) entries

abbrev pub all_counts : Pick → List MethodEntry → Counts
all_counts pick entries = found_counts (findings pick entries)

abbrev pub assembly_line : List ℕ → List ℕ
assembly_line name = codes "assembly " ++ escaped name ++ codes "\n"

-- The last line of the report of the assembly that a file is.
abbrev pub summary_text : Pick → List ℕ → List ℕ
summary_text pick bytes = summary_line (all_counts pick (entries_of bytes))

-- The report of a file of this name that has these methods, made in this manner.
unfoldable pub report_text : List ℕ → Manner → List MethodEntry → List ℕ
report_text name manner entries =
    assembly_line name ++ flat_map (entry_lines manner) entries ++ summary_line (all_counts manner.pick entries)

-- The report of the assembly with these bytes, of its methods as they are written or with what is inferred of them.
abbrev pub check_text : Bool → List ℕ → Manner → List ℕ → List ℕ
check_text infer name manner bytes = report_text name manner (reported_entries infer manner.pick bytes)

-- Each method of these entries is proved.
abbrev pub are_proved : Pick → List MethodEntry → Bool
are_proved pick entries = list_all is_proved (findings pick entries)

-- Each method of the assembly with these bytes is.
abbrev pub all_methods_proved : Bool → Pick → List ℕ → Bool
all_methods_proved infer pick bytes = are_proved pick (reported_entries infer pick bytes)
