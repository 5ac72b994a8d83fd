-- What a report tells of a unit beside its verdicts: the methods that it calls, and the Ensures that were added to it.
use Rattle.std.specs.Prelude.{ℕ, ◌+◌, Bool, true, false, nat_lt, List, [], ◌∷◌, ◌++◌, take, map, count_by, codes, decimal, if◌then◌else◌}
use Rattle.cil_model.specs.declared.clause.Clause.{Clause}
use Rattle.cil_model.specs.declared.clause.ClauseKind.{ClauseKind}
use Rattle.cil_model.specs.declared.clause.ClauseKind.TheVariants as kinds
use Rattle.cil_model.specs.declared.machine.FaultKind.{FaultKind}
use Rattle.cil_model.specs.declared.machine.FaultKind.TheVariants as faults
use Rattle.cil_model.specs.declared.unit.CalleeInfo.{CalleeInfo}
use Rattle.cil_model.specs.declared.unit.Unit.{Unit as MethodUnit}
use Rattle.ensures_infer.specs.Texts.{inferred_text}
use Rattle.unit_form.specs.AddedClauses.{added_clauses, closed_count}
use Rattle.assembly_reports.specs.declared.labels.Labels.{Labels}

-- ---- Ensures

abbrev pub is_ensures : ClauseKind → Bool
is_ensures kinds.Requires = false
is_ensures kinds.Ensures = true

-- How many Ensures the code of a unit tells. The numbers of those that were added go on from there.
abbrev pub ensures_told : MethodUnit → ℕ
ensures_told unit = count_by (λ clause. is_ensures clause.kind) (take (closed_count unit.instrs) unit.clauses)

-- What stands after the words for an obligation's kind, where the code tells so many Ensures.
abbrev pub added_mark : ℕ → FaultKind → List ℕ
added_mark told (faults.Ensures k) = if nat_lt told k then codes " (inferred)" else []
added_mark told _ = []

-- The line of an Ensures that was added, which has this number among the Ensures.
abbrev pub inferred_line : ℕ → Clause → List ℕ
inferred_line k clause = codes "  inferred ensures " ++ decimal k ++ codes ": " ++ inferred_text clause ++ codes "\n"

-- The lines of these, of which the first has this number.
abbrev pub inferred_lines : ℕ → List Clause → List ℕ
inferred_lines k [] = []
inferred_lines k (clause ∷ clauses) = inferred_line k clause ++ inferred_lines (k + 1) clauses

-- ---- labels

abbrev pub without_clauses : CalleeInfo → CalleeInfo
without_clauses callee = record callee { clauses = [] }

unfoldable pub labels_of : MethodUnit → Labels
labels_of unit = record {
  callees = map without_clauses unit.callees;
  told = ensures_told unit;
  inferred = inferred_lines (ensures_told unit + 1) (added_clauses unit);
}
