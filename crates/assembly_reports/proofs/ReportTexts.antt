-- No text of a report's lines has a line feed.
use Rattle.std.proofs.Common.{◌≡◌, ℕ, ◌+◌, Bool, true, false, nat_lt, List, [], ◌∷◌, ◌++◌, map, get_or, refl, codes, arith}
use Rattle.std.specs.Fmt.{decimal}
use Rattle.std.specs.List.{AllByRecursion, flat_map}
use Rattle.asm_image.specs.Rows.{method_row}
use Rattle.asm_image.specs.declared.method_row.MethodRow.{MethodRow}
use Rattle.cc_base.specs.Digits.{hex}
use Rattle.cc_base.specs.Escapes.{escaped}
use Rattle.cil_model.specs.Terms as terms
use Rattle.cil_model.specs.Terms.{Term}
use Rattle.cil_model.specs.WellFormed.{IsCallee}
use Rattle.cil_model.specs.declared.clause.Clause.{Clause}
use Rattle.cil_model.specs.declared.instruction.BinOp.{BinOp}
use Rattle.cil_model.specs.declared.instruction.BinOp.TheVariants as operators
use Rattle.cil_model.specs.declared.machine.FaultKind.{FaultKind}
use Rattle.cil_model.specs.declared.machine.FaultKind.TheVariants as faults
use Rattle.cil_model.specs.declared.machine.Obligation.{Obligation}
use Rattle.cil_model.specs.declared.unit.CalleeInfo.{CalleeInfo}
use Rattle.ensures_infer.specs.Texts.{argument_text, comparison_text, inferred_text, operand_text, relation_text, tree_text}
use Rattle.invariant_checker.specs.Counts.{all_proved}
use Rattle.invariant_checker.specs.declared.verdict.Verdict.{Verdict}
use Rattle.method_unit.specs.Units.{IsUnit}
use Rattle.pe_reader.specs.Addresses.{metadata}
use Rattle.unit_builder.specs.Outcomes.{IfAnalysed}
use Rattle.unit_builder.specs.declared.entry.Outcome.{Outcome}
use Rattle.unit_builder.specs.declared.entry.Outcome.TheVariants.{Analysed, Skipped}
use Rattle.unit_form.specs.AddedClauses.{added_clauses}
use Rattle.answer_lines.specs.FaultKinds.{kind_text}
use Rattle.answer_lines.specs.LineCounts.{line_count}
use Rattle.answer_lines.specs.declared.lines.Counts.{Counts}
use Rattle.answer_lines.proofs.LineLemmas.{none_behind, none_in_hex, none_in_name}
use Rattle.answer_lines.proofs.PlainTexts.{none_in_callee, none_in_either, none_in_kind, none_in_number, none_in_signed, none_in_verdict}
use Rattle.answer_lines.proofs.SingleLines.{none_in_obligation, none_in_summary, summary_said}
use Rattle.answer_lines.proofs.WholeLines.{IsOneLine, one_line}
use Rattle.assembly_answers.specs.ReasonText.{reason_text}
use Rattle.assembly_answers.proofs.PlainReasons.{none_in_reason}
use Rattle.assembly_answers.proofs.PlainTexts.{none_in_printed}
use Rattle.assembly_reports.specs.CheckText.{NotAnalysed, outcome_finding, outcome_shown, verdict_text}
use Rattle.assembly_reports.specs.Findings.{finding_in}
use Rattle.assembly_reports.specs.InferredUnits.{entry_by}
use Rattle.assembly_reports.specs.Labels.{added_mark, ensures_told, labels_of, without_clauses}
use Rattle.assembly_reports.specs.ReportText.{callee_of, obligation_text}
use Rattle.assembly_reports.specs.declared.finding.Finding.{Finding as Found}
use Rattle.assembly_reports.specs.declared.finding.Finding.TheVariants as founds
use Rattle.assembly_reports.specs.declared.labels.Labels.{Labels}
use Rattle.assembly_reports.proofs.LinesOf.{lines_one_line}
use Rattle.assembly_reports.proofs.Reported.{added_said, entry_said, inferred_said, method_said, outcome_said, shown_said, verdict_said, verdicts_said}
use Rattle.unit_verdicts.specs.Picks.{Manner, Pick, verdicts_under}

-- ---- what is found of a method

none_in_skipped : (reason : List ℕ) → line_count reason ≡ 0 → line_count (verdict_text (NotAnalysed reason)) ≡ 0
unfolding line_count
none_in_skipped reason none = none_behind (codes "not analysed: ") reason refl none

none_in_outcome : (pick : Pick) (outcome : Outcome) → line_count (verdict_text (outcome_finding pick outcome)) ≡ 0
none_in_outcome pick (Analysed unit) = none_in_verdict (all_proved (verdicts_under pick unit))
none_in_outcome pick (Skipped reason) = none_in_skipped (reason_text reason) (none_in_reason reason)

pub none_in_finding : (found : Found) → line_count (verdict_text (finding_in found)) ≡ 0
none_in_finding (founds.Judged unit) = none_in_verdict (all_proved unit.found.verdicts.items)
none_in_finding (founds.Skipped reason) = none_in_skipped (reason_text reason) (none_in_reason reason)

-- ---- obligations

none_in_mark : (told : ℕ) (kind : FaultKind) → line_count (added_mark told kind) ≡ 0
unfolding line_count
none_in_mark told (faults.Ensures k) = none_in_either (nat_lt told k) (codes " (inferred)") [] refl refl
none_in_mark told kind = refl

pub none_in_told : (labels : Labels) (o : Obligation) → AllByRecursion IsCallee labels.callees → line_count (obligation_text labels o) ≡ 0
none_in_told labels o are =
    none_behind (kind_text (callee_of labels.callees o.callee) o.kind) (added_mark labels.told o.kind)
    (none_in_kind (callee_of labels.callees o.callee) o.kind (none_in_callee labels.callees o.callee are)) (none_in_mark labels.told o.kind)

-- What is told of callees without their clauses is what may be told of callees.
pub bare_callees : (callees : List CalleeInfo) → AllByRecursion IsCallee callees → AllByRecursion IsCallee (map without_clauses callees)
bare_callees [] are = tt
bare_callees (callee ∷ callees) are = (bare callee are.0, bare_callees callees are.1)
  where
    bare : (callee : CalleeInfo) → IsCallee callee → IsCallee (without_clauses callee)
    bare callee is = record {
      args = is.args;
      few_args = is.few_args;
      name = is.name;
      clauses = record { count = omega arith; nodes = tt; conditions = tt; old_values = omega arith };
      ints = tt;
      numbers = tt;
    }

-- ---- Ensures that were added

none_in_argument : (tree : Term) → line_count (argument_text tree) ≡ 0
unfolding line_count
none_in_argument (terms.Arg i) = none_behind (codes "arg ") (decimal i) refl (none_in_number i)
none_in_argument tree = refl

none_in_operand : (tree : Term) → line_count (operand_text tree) ≡ 0
unfolding line_count
none_in_operand (terms.Const n) = none_in_signed n
none_in_operand terms.Null = refl
none_in_operand (terms.Len array) = none_behind (codes "length of ") (argument_text array) refl (none_in_argument array)
none_in_operand tree = none_in_argument tree

none_in_relation : (so : Bool) (op : BinOp) → line_count (relation_text so op) ≡ 0
unfolding line_count
none_in_relation true operators.Clt = refl
none_in_relation true operators.CgtUn = refl
none_in_relation false operators.Clt = refl
none_in_relation false operators.Cgt = refl
none_in_relation so op = refl

none_in_comparison : (so : Bool) (tree : Term) → line_count (comparison_text so tree) ≡ 0
unfolding line_count
none_in_comparison so (terms.Bin op first other) =
    none_behind (codes "result" ++ relation_text so op) (operand_text other)
    (none_behind (codes "result") (relation_text so op) refl (none_in_relation so op)) (none_in_operand other)
none_in_comparison so tree = refl

none_in_tree : (tree : Term) → line_count (tree_text tree) ≡ 0
none_in_tree (terms.Bin operators.Ceq denied other) = none_in_comparison false denied
none_in_tree tree = none_in_comparison true tree

none_in_added : (k : ℕ) (clause : Clause) → line_count (added_said k clause) ≡ 0
unfolding added_said line_count
none_in_added k clause =
    let numbered = codes "  inferred ensures " ++ decimal k in
    none_behind (numbered ++ codes ": ") (inferred_text clause)
    (none_behind numbered (codes ": ") (none_behind (codes "  inferred ensures ") (decimal k) refl (none_in_number k)) refl) (none_in_tree clause.tree)

-- ---- lines

pub all_behind : (P : List ℕ → Type 0) (a b : List (List ℕ)) → AllByRecursion P a → AllByRecursion P b → AllByRecursion P (a ++ b)
all_behind P [] b all others = others
all_behind P (x ∷ a) b all others = (all.0, all_behind P a b all.1 others)

inferred_one_line : (k : ℕ) (clauses : List Clause) → AllByRecursion IsOneLine (inferred_said k clauses)
inferred_one_line k [] = tt
inferred_one_line k (clause ∷ clauses) = (one_line (added_said k clause) (none_in_added k clause), inferred_one_line (k + 1) clauses)

verdict_one_line : (labels : Labels) (v : Verdict) → AllByRecursion IsCallee labels.callees → IsOneLine (verdict_said labels v)
unfolding verdict_said
verdict_one_line labels v are =
    one_line (verdict_said labels v) (none_in_obligation v.obligation.at (obligation_text labels v.obligation) v.proved (none_in_told labels v.obligation are))

verdicts_one_line : (labels : Labels) (found : List Verdict) → AllByRecursion IsCallee labels.callees
    → AllByRecursion IsOneLine (map (verdict_said labels) found)
verdicts_one_line labels [] are = tt
verdicts_one_line labels (v ∷ found) are = (verdict_one_line labels v are, verdicts_one_line labels found are)

said_one_line : (pick : Pick) (outcome : Outcome) → IfAnalysed outcome IsUnit → AllByRecursion IsOneLine (verdicts_said pick outcome)
unfolding verdicts_said labels_of
said_one_line pick (Analysed unit) is =
    all_behind IsOneLine (inferred_said (ensures_told unit + 1) (added_clauses unit)) (map (verdict_said (labels_of unit)) (verdicts_under pick unit))
    (inferred_one_line (ensures_told unit + 1) (added_clauses unit))
    (verdicts_one_line (labels_of unit) (verdicts_under pick unit) (bare_callees unit.callees is.well_formed.callees))
said_one_line pick (Skipped reason) is = tt

pub none_in_method : (token : ℕ) (name text : List ℕ) → line_count name ≡ 0 → line_count text ≡ 0 → line_count (method_said token name text) ≡ 0
unfolding method_said line_count
none_in_method token name text none other =
    let digits = codes "method " ++ hex 8 token in
    none_behind (digits ++ codes " " ++ name ++ codes ": ") text
    (none_behind (digits ++ codes " " ++ name) (codes ": ")
    (none_behind (digits ++ codes " ") name
    (none_behind digits (codes " ") (none_behind (codes "method ") (hex 8 token) refl (none_in_hex 8 token)) refl) none) refl) other

-- The lines of the methods of some rows, where this comes of methods.
pub rows_one_line : (asm : List ℕ) (of : MethodRow → Outcome) (manner : Manner) (rows : List ℕ)
    → AllByRecursion (λ entry. IfAnalysed entry.outcome IsUnit) (map (entry_by of) (map (method_row (metadata asm)) rows))
    → AllByRecursion IsOneLine (flat_map (entry_said manner) (map (entry_by of) (map (method_row (metadata asm)) rows)))
unfolding entry_said outcome_said shown_said method_row
rows_one_line asm of manner [] runnable = tt
rows_one_line asm of manner (row ∷ rows) runnable =
    let method = method_row (metadata asm) row in
    let outcome = of method in
    let text = verdict_text (outcome_finding manner.pick outcome) in
    let first = one_line (method_said method.token.0 method.name text) (none_in_method method.token.0 method.name text (none_in_printed (metadata asm) row) (none_in_outcome manner.pick outcome)) in
    let own = all_behind IsOneLine (method_said method.token.0 method.name text ∷ verdicts_said manner.pick outcome) (shown_said manner outcome)
    (first, said_one_line manner.pick outcome runnable.0) (lines_one_line (outcome_shown manner outcome)) in
    all_behind IsOneLine (entry_said manner (entry_by of method)) (flat_map (entry_said manner) (map (entry_by of) (map (method_row (metadata asm)) rows))) own (rows_one_line asm of manner rows runnable.1)

pub summary_one_line : (n : Counts) → IsOneLine (summary_said n)
summary_one_line n = one_line (summary_said n) (none_in_summary n)

pub none_in_assembly : (name : List ℕ) → line_count (codes "assembly " ++ escaped name) ≡ 0
unfolding line_count
none_in_assembly name = none_behind (codes "assembly ") (escaped name) refl (none_in_name name)

pub assembly_one_line : (name : List ℕ) → IsOneLine (codes "assembly " ++ escaped name)
assembly_one_line name = one_line (codes "assembly " ++ escaped name) (none_in_assembly name)

-- ---- the first bytes of lines

-- The line begins with a space.
abbrev pub IsSpaced : List ℕ → Type 0
IsSpaced line = get_or line 0 0 ≡ 32

inferred_spaced : (k : ℕ) (clauses : List Clause) → AllByRecursion IsSpaced (inferred_said k clauses)
unfolding added_said
inferred_spaced k [] = tt
inferred_spaced k (clause ∷ clauses) = (refl, inferred_spaced (k + 1) clauses)

all_verdicts_spaced : (labels : Labels) (found : List Verdict) → AllByRecursion IsSpaced (map (verdict_said labels) found)
unfolding verdict_said
all_verdicts_spaced labels [] = tt
all_verdicts_spaced labels (v ∷ found) = (refl, all_verdicts_spaced labels found)

pub verdicts_spaced : (pick : Pick) (outcome : Outcome) → AllByRecursion IsSpaced (verdicts_said pick outcome)
unfolding verdicts_said
verdicts_spaced pick (Analysed unit) =
    all_behind IsSpaced (inferred_said (ensures_told unit + 1) (added_clauses unit)) (map (verdict_said (labels_of unit)) (verdicts_under pick unit))
    (inferred_spaced (ensures_told unit + 1) (added_clauses unit)) (all_verdicts_spaced (labels_of unit) (verdicts_under pick unit))
verdicts_spaced pick (Skipped reason) = tt
