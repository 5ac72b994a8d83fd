-- A method is safe whose line in the report of its assembly tells it to be proved.
use Rattle.std.proofs.Common.{◌≡◌, ℕ, zero, suc, ◌+◌, ◌<◌, ◌^◌, List, [], ◌∷◌, ◌++◌, get_or, map, None, refl, sym, ap, subst, inl, inr, codes, arith}
use Rattle.std.specs.Prelude.{Contains}
use Rattle.std.specs.List.{AllByRecursion, flat_map, range_with_len}
use Rattle.asm_image.specs.Cells.{method_count}
use Rattle.asm_image.specs.Faults.{FirstBroken}
use Rattle.asm_image.specs.Rows.{method_row, methods_of, rows_of}
use Rattle.asm_image.specs.declared.method_row.MethodRow.{MethodRow}
use Rattle.cc_base.specs.Escapes.{escaped}
use Rattle.pe_reader.specs.Addresses.{metadata}
use Rattle.method_unit.specs.Units.{IsUnit}
use Rattle.unit_builder.specs.Outcomes.{IfAnalysed}
use Rattle.unit_builder.specs.declared.entry.MethodEntry.{MethodEntry}
use Rattle.unit_builder.specs.declared.entry.Outcome.{Outcome}
use Rattle.assembly_reports.specs.CheckText.{all_counts, outcome_finding, verdict_text}
use Rattle.assembly_reports.specs.InferredUnits.{entry_by}
use Rattle.assembly_reports.specs.Reportable.{CanRun}
use Rattle.assembly_reports.proofs.FewMethods.{methods_are_few}
use Rattle.assembly_reports.proofs.PrintedMethods.{IsSafeIn, among_rows, behind_digits, proved_tells, row_said, safe_by, same_said, same_text}
use Rattle.assembly_reports.proofs.Members.{all_at, contains_behind, contains_first, contains_map, none_contained}
use Rattle.assembly_reports.proofs.Reported.{entry_said, method_said, report_said}
use Rattle.answer_lines.proofs.SingleLines.{summary_prefix, summary_said}
use Rattle.assembly_reports.proofs.ReportTexts.{all_behind, assembly_one_line, rows_one_line, summary_one_line}
use Rattle.answer_lines.proofs.WholeLines.{IsOneLine}
use Rattle.unit_verdicts.specs.Picks.{Manner, Pick}

-- ---- rows

range_below : (first count row : ℕ) → Contains (range_with_len first count) row → row < first + count
range_below first zero row has = absurd (none_contained row has)
range_below first (suc count) row has =
    elim (contains_first first row (range_with_len (first + 1) count) has) [
      | inl same ↦ omega (arith, same)
      | inr later ↦ omega (arith, range_below (first + 1) count row later)
    ]

-- ---- the line

-- An entry for each method of the file, where this comes of methods.
abbrev pub entries_with : List ℕ → (MethodRow → Outcome) → List MethodEntry
entries_with asm of = map (entry_by of) (methods_of asm)

pub report_one_line : (name : List ℕ) (manner : Manner) (asm : List ℕ) (of : MethodRow → Outcome) → CanRun (entries_with asm of)
    → AllByRecursion IsOneLine (report_said name manner (entries_with asm of))
unfolding report_said rows_of
report_one_line name manner asm of runnable = (
  assembly_one_line name,
  all_behind IsOneLine (flat_map (entry_said manner) (entries_with asm of)) (summary_said (all_counts manner.pick (entries_with asm of)) ∷ [])
      (rows_one_line asm of manner (range_with_len 1 (method_count (metadata asm))) runnable) (summary_one_line (all_counts manner.pick (entries_with asm of)), tt),
)

-- The line of a method among those of a report is that of a row.
row_of_report : (name : List ℕ) (manner : Manner) (asm : List ℕ) (of : MethodRow → Outcome) (token : ℕ) (method text : List ℕ) → Contains (report_said name manner (entries_with asm of)) (method_said token method text)
    → (row : ℕ) × Contains (range_with_len 1 (method_count (metadata asm))) row × (row_said manner.pick asm of row ≡ method_said token method text)
unfolding report_said rows_of summary_said summary_prefix method_said
row_of_report name manner asm of token method text has =
    let line = method_said token method text in
    let said = flat_map (entry_said manner) (entries_with asm of) in
    let summary = summary_said (all_counts manner.pick (entries_with asm of)) in
    elim (contains_first (codes "assembly " ++ escaped name) line (said ++ summary ∷ []) has) [
      | inl same ↦ absurd (let letters : 97 ≡ 109 = ap (λ (l : List ℕ). get_or l 0 0) same in omega (arith, letters))
      | inr later ↦
          elim (contains_behind said (summary ∷ []) line later) [
            | inl here ↦ among_rows asm of manner (range_with_len 1 (method_count (metadata asm))) token method text here
            | inr last ↦
                elim (contains_first summary line [] last) [
                  | inl same ↦ absurd (let letters : 115 ≡ 109 = ap (λ (l : List ℕ). get_or l 0 0) same in omega (arith, letters))
                  | inr none ↦ absurd (none_contained line none)
                ]
          ]
    ]

-- ---- the method

-- Rows whose lines are equal but for what they tell are one.
same_row : (pick : Pick) (asm : List ℕ) (of : MethodRow → Outcome) (row other : ℕ) (text : List ℕ) → row < 2 ^ 23 + 1 → other < 2 ^ 23 + 1
    → row_said pick asm of other ≡ method_said (method_row (metadata asm) row).token.0 (method_row (metadata asm) row).name text
    → (other ≡ row) × (verdict_text (outcome_finding pick (of (method_row (metadata asm) row))) ≡ text)
unfolding row_said method_row
same_row pick asm of row other text small few e =
    let mine = method_row (metadata asm) row in
    let its = method_row (metadata asm) other in
    let both = same_said its.token.0 mine.token.0 its.name mine.name (verdict_text (outcome_finding pick (of its))) text (omega (arith, few)) (omega (arith, small)) e in
    let same : other ≡ row = omega (arith, both.0) in (
      same,
      same_text mine.name (verdict_text (outcome_finding pick (of mine))) text
          (subst (λ (r : ℕ). behind_digits (method_row (metadata asm) r).name (verdict_text (outcome_finding pick (of (method_row (metadata asm) r)))) ≡ behind_digits mine.name text) same both.1),
    )

-- A method is safe that is told to be proved by one of the lines of the report of its assembly.
pub said_method : (name : List ℕ) (manner : Manner) (asm : List ℕ) (of : MethodRow → Outcome) (method : MethodRow) → FirstBroken asm ≡ None → CanRun (entries_with asm of)
    → Contains (methods_of asm) method → Contains (report_said name manner (entries_with asm of)) (method_said method.token.0 method.name (codes "proved")) → IsSafeIn of method
unfolding rows_of row_said method_row
said_method name manner asm of method whole runnable has line =
    let md = metadata asm in
    let rows = range_with_len 1 (method_count md) in
    let mine = contains_map (method_row md) rows method has in
    let few = methods_are_few asm whole in
    let row = mine.0 in
    let found : Contains (report_said name manner (entries_with asm of)) (method_said (method_row md row).token.0 (method_row md row).name (codes "proved")) =
    subst (λ (m : MethodRow). Contains (report_said name manner (entries_with asm of)) (method_said m.token.0 m.name (codes "proved"))) (sym mine.2) line in
    let told = row_of_report name manner asm of (method_row md row).token.0 (method_row md row).name (codes "proved") found in
    let same = same_row manner.pick asm of row told.0 (codes "proved") (omega (arith, few, range_below 1 (method_count md) row mine.1)) (omega (arith, few, range_below 1 (method_count md) told.0 told.1)) told.2 in
    let is_runnable = all_at (λ (entry : MethodEntry). IfAnalysed entry.outcome IsUnit) (entry_by of) (methods_of asm) (method_row md row) runnable (subst (Contains (methods_of asm)) (sym mine.2) has) in
    subst (IsSafeIn of) mine.2
    (safe_by manner.pick of (method_row md row) (of (method_row md row)) refl
    (proved_tells (outcome_finding manner.pick (of (method_row md row))) same.1) is_runnable)
