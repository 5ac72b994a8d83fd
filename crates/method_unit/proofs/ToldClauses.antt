-- The clauses that code tells, and those that were added to them.
use Rattle.std.proofs.Common.{◌≡◌, ℕ, ◌≤◌, Bool, true, false, List, [], ◌∷◌, ◌++◌, length, map, filter_map, refl, sym, ap, ◌∙◌}
use Rattle.std.specs.Prelude.{nat_le, ◌&&◌}
use Rattle.std.proofs.lemmas.Bool.{and_from, le-leb, leb-true}
use Rattle.cil_model.specs.ClauseTrees.{clauses_in}
use Rattle.cil_model.specs.Limits.{MAX_CLAUSES, MAX_OLD_VALUES}
use Rattle.cil_model.specs.WellFormed.{ClausesWithinLimits, IsWellFormed, told_by_code}
use Rattle.cil_model.specs.declared.clause.Clause.{Clause}
use Rattle.cil_model.specs.declared.instruction.Instr.{Instr}
use Rattle.cil_model.specs.declared.unit.Unit.{Unit as MethodUnit}
use Rattle.contract_extract.specs.Extracting.{AreContracts}
use Rattle.unit_form.specs.AddedClauses.{added_clauses}
use Rattle.unit_form.specs.Callees.{olds_in}
use Rattle.unit_form.proofs.AddedClauses.{all_clauses}
use Rattle.method_unit.specs.UnitFile.{clause_told, fit_together, told_clauses}

-- ---- the clauses that code tells

told_again : (clauses : List Clause) → filter_map clause_told (map told_by_code clauses) ≡ clauses
told_again [] = refl
told_again (clause ∷ clauses) = ap (λ (others : List Clause). clause ∷ others) (told_again clauses)

pub are_told : (is : List Instr) (written : List Clause) → clauses_in is ≡ map told_by_code written → written ≡ told_clauses is
are_told is written told = sym (ap (filter_map clause_told) told ∙ told_again written)

pub contracts_told : (is : List Instr) (clauses : List Clause) (body : ℕ) → AreContracts is clauses body → clauses ≡ told_clauses is
contracts_told is clauses body are = are_told is clauses are.told

-- Together with those that were added they are all of a unit.
pub all_together : (unit : MethodUnit) → IsWellFormed unit → told_clauses unit.instrs ++ added_clauses unit ≡ unit.clauses
all_together unit well =
    ap (λ (told : List Clause). told ++ added_clauses unit) (sym (are_told unit.instrs well.clauses.written well.clauses.told))
    ∙ sym (all_clauses unit well)

-- ---- limits

both_are : (a b : Bool) → (a && b) ≡ true → (a ≡ true) × (b ≡ true)
both_are true b e = (refl, e)
both_are false b e = absurd cc

pub limits_kept : (clauses : List Clause) → fit_together clauses ≡ true → (length clauses ≤ MAX_CLAUSES) × (olds_in clauses ≤ MAX_OLD_VALUES)
limits_kept clauses fit =
    let both = both_are (nat_le (length clauses) MAX_CLAUSES) _ fit in (leb-true _ _ both.0, leb-true _ _ both.1)

pub fit_within : (clauses : List Clause) → ClausesWithinLimits clauses → fit_together clauses ≡ true
fit_within clauses within =
    and_from (nat_le (length clauses) MAX_CLAUSES) _ (le-leb _ _ within.count) (le-leb _ _ within.old_values)
