-- The clauses of a unit that were added stand after those that its code tells.
use Rattle.std.proofs.Common.{◌≡◌, ℕ, ◌+◌, ◌≤◌, Bool, false, cond, List, [], ◌∷◌, ◌++◌, length, map, drop, is_some, Option, Some, None, refl, sym, ap, ap₂, subst, ◌∙◌, arith, length-append}
use Rattle.std.specs.List.{AllByRecursion}
use Rattle.std.proofs.lemmas.Bool.{cond_both}
use Rattle.std.proofs.lemmas.List.{drop_at, length-map}
use Rattle.std.proofs.lemmas.List.Sums.{sum_by-append, sum_by-cons}
use Rattle.cil_model.specs.Blocks.{closes, is_closing_call}
use Rattle.cil_model.specs.ClauseTrees.{clause_before, clauses_from, clauses_in, closed_by, closing}
use Rattle.cil_model.specs.Terms.{Term, old_count}
use Rattle.cil_model.specs.UnitCalls.{unit_call}
use Rattle.cil_model.specs.WellFormed.{ClausesWithinLimits, HasClauses, IsAdded, IsWellFormed, told_by_code}
use Rattle.cil_model.specs.declared.clause.Clause.{Clause}
use Rattle.cil_model.specs.declared.clause.ClauseKind.{ClauseKind}
use Rattle.cil_model.specs.declared.instruction.Instr.{Instr}
use Rattle.cil_model.specs.declared.instruction.Op.{Op}
use Rattle.cil_model.specs.declared.instruction.Op.TheVariants as ops
use Rattle.cil_model.specs.declared.unit.Unit.{Unit as MethodUnit}
use Rattle.cil_model.specs.declared.unit_numbers.UnitCall.{UnitCall}
use Rattle.cil_model.specs.declared.unit_numbers.UnitCall.TheVariants as calls
use Rattle.cil_model.proofs.Lists.{all_split}
use Rattle.unit_form.specs.AddedClauses.{MayBeAdded, added_clauses, closed_count}
use Rattle.unit_form.specs.Callees.{olds_in}

-- ---- how many clauses code tells

length_before : (is : List Instr) (start : ℕ) (closed : Option (ClauseKind × Bool))
    → length (clause_before is start closed) ≡ cond (is_some closed) 1 0
length_before is start None = refl
length_before is start (Some (kind, message)) = refl

none_closed_by : (call : Option UnitCall) → is_closing_call call ≡ false → closed_by call ≡ None
none_closed_by (Some (calls.Requires message)) e = absurd cc
none_closed_by (Some (calls.Ensures message)) e = absurd cc
none_closed_by _ e = refl

none_closed : (op : Op) → closes op ≡ false → closing op ≡ None
none_closed (ops.Call number) e = none_closed_by (unit_call number) e
none_closed _ e = refl

closed_by_next : (i : Instr) (rest : List Instr) → closed_count (i ∷ rest) ≡ cond (is_some (closing i.op)) 1 0 + closed_count rest
closed_by_next i rest = sum_by-cons (λ (j : Instr). cond (is_some (closing j.op)) 1 0) i rest

length_from : (is : List Instr) (start : ℕ) (rest : List Instr) → length (clauses_from is start rest) ≡ closed_count rest
length_from is start [] = refl
length_from is start (i ∷ rest) =
    let before = clause_before is start (closing i.op) in
    let later = clauses_from is (i.at + i.size) rest in
    let next = closed_by_next i rest in
    cond_both (closes i.op) _ _ (λ (told : List (ClauseKind × Option Term)). length told ≡ closed_count (i ∷ rest))
    (λ e. length-append before later
    ∙ ap₂ (λ (a b : ℕ). a + b) (length_before is start (closing i.op)) (length_from is (i.at + i.size) rest) ∙ sym next)
    (λ e. let none : cond (is_some (closing i.op)) 1 0 ≡ 0 = ap (λ (closed : Option (ClauseKind × Bool)). cond (is_some closed) 1 0) (none_closed i.op e) in
    let same : closed_count rest ≡ 0 + closed_count rest = omega arith in
    length_from is start rest ∙ same ∙ ap (λ (n : ℕ). n + closed_count rest) (sym none) ∙ sym next)

module _ (is : List Instr) (written added : List Clause) (told : clauses_in is ≡ map told_by_code written) where
  written_counted : length written ≡ closed_count is
  written_counted = sym (length-map written told_by_code) ∙ ap length (sym told) ∙ length_from is 0 is

  -- What stands after the clauses that the code tells was added.
  pub added_behind : drop (closed_count is) (written ++ added) ≡ added
  added_behind = drop_at written added (closed_count is) written_counted

-- ---- limits

pub olds_together : (clauses added : List Clause) → olds_in (clauses ++ added) ≡ olds_in clauses + olds_in added
olds_together clauses added = sum_by-append (λ (clause : Clause). old_count clause.tree) clauses added

within_behind : (clauses added : List Clause) → ClausesWithinLimits (clauses ++ added) → ClausesWithinLimits added
within_behind clauses added within = record {
  count = omega (arith, length-append clauses added, within.count);
  nodes = (all_split _ clauses added within.nodes).1;
  conditions = (all_split _ clauses added within.conditions).1;
  old_values = omega (arith, olds_together clauses added, within.old_values);
}

-- ---- well formed units

module _ (unit : MethodUnit) (well : IsWellFormed unit) where
  -- The clauses that the code tells.
  abbrev pub written : List Clause
  written = well.clauses.written

  pub added_are : added_clauses unit ≡ well.clauses.added
  added_are =
      ap (drop (closed_count unit.instrs)) well.clauses.all
      ∙ added_behind unit.instrs written well.clauses.added well.clauses.told

  pub all_clauses : unit.clauses ≡ written ++ added_clauses unit
  all_clauses = well.clauses.all ∙ ap (λ (added : List Clause). written ++ added) (sym added_are)

  -- They may be added to those of such a method.
  pub may_be_added : MayBeAdded unit.args unit.result (added_clauses unit)
  may_be_added =
      let added = added_clauses unit in
      record {
        ensures = subst (AllByRecursion IsAdded) (sym added_are) well.clauses.ensures;
        limits = within_behind written added (subst ClausesWithinLimits all_clauses well.limits.clauses);
        numbers = (all_split _ written added (subst (AllByRecursion _) all_clauses well.numbers)).1;
      }
