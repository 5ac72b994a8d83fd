-- The first fault of clauses stands no further than the instructions do.
use Rattle.std.proofs.Common.{◌≡◌, ℕ, zero, suc, ◌+◌, ◌≤◌, ◌==◌, not, List, [], ◌∷◌, ◌++◌, length, Option, Some, None, refl, arith, inl, inr, if◌then◌else◌}
use Rattle.std.specs.Prelude.{nat_lt, nat_le}
use Rattle.std.specs.List.{AllByRecursion, flat_map}
use Rattle.std.specs.Option.{option_map_or}
use Rattle.std.proofs.lemmas.Bool.{and_parts, cases_lt, cond_both, leb-true, ltb-true}
use Rattle.cil_model.specs.Blocks.{closes, start_of_body}
use Rattle.cil_model.specs.ClauseTrees.{closing}
use Rattle.cil_model.specs.Kinds.{operand_count}
use Rattle.cil_model.specs.Runs.{instr_at}
use Rattle.cil_model.specs.Terms.{Term}
use Rattle.cil_model.specs.UnitCalls.{unit_call}
use Rattle.cil_model.specs.declared.clause.ClauseKind.{ClauseKind}
use Rattle.cil_model.specs.declared.instruction.Instr.{Instr}
use Rattle.cil_model.specs.declared.instruction.Op.{Op}
use Rattle.cil_model.specs.declared.instruction.Op.TheVariants as ops
use Rattle.cil_model.specs.declared.shape.Shape.{Shape}
use Rattle.cil_model.specs.declared.unit_numbers.UnitCall.{UnitCall}
use Rattle.cil_model.specs.declared.unit_numbers.UnitCall.TheVariants as calls
use Rattle.cil_model.proofs.Lists.{all_append, of_found}
use Rattle.clause_faults.specs.ClauseCodes.{closing_of, goes_forward, start_behind}
use Rattle.clause_faults.specs.Faults.{body_faults, closed_faults, fault_at, faults_in, faults_of, first_clause_fault, limit_faults, with_clause}
use Rattle.clause_faults.specs.PureCode.{is_pure}
use Rattle.clause_faults.specs.Ways.{Told, faults_at, faults_from, faults_here, old_faults_of, stack_behind, way_faults, ways_behind}
use Rattle.clause_faults.specs.declared.clause_fault.ClauseFault.{ClauseFault}
use Rattle.clause_faults.specs.declared.clause_fault.ClauseFault.TheVariants.{StackLeft}
use Rattle.clause_faults.proofs.FaultLemmas.FaultRanges.{Between, body_faults_at, faults_of_at, first_has, limit_faults_at, way_faults_between}

module _ (most : ℕ) where
  -- None of these faults stands further than here.
  abbrev Within : List ClauseFault → Type 0
  Within faults = AllByRecursion (λ f. fault_at f ≤ most) faults

  within_at : (at : ℕ) (faults : List ClauseFault) → at ≤ most → AllByRecursion (λ f. fault_at f ≡ at) faults → Within faults
  within_at at [] le all = tt
  within_at at (f ∷ faults) le all = (omega (arith, le, all.0), within_at at faults le all.1)

  within_between : (low high : ℕ) (faults : List ClauseFault) → high ≤ most → AllByRecursion (λ f. Between low high (fault_at f)) faults → Within faults
  within_between low high [] le all = tt
  within_between low high (f ∷ faults) le all = (omega (arith, le, all.0.1), within_between low high faults le all.1)

  -- ---- the ways of a clause whose code begins after its closing call: they end where they begin

  no_ways : (f : ℕ → List ClauseFault) (ats : List ℕ) → ((at : ℕ) → Within (f at)) → Within (flat_map f ats)
  no_ways f [] each = tt
  no_ways f (at ∷ ats) each = all_append (λ fault. fault_at fault ≤ most) (f at) (flat_map f ats) (each at) (no_ways f ats each)

  nothing_old : (i : Instr) (call : Option UnitCall) → Within (old_faults_of i call [])
  nothing_old i (Some (calls.OldValue place)) = tt
  nothing_old i _ = tt

  nothing_here : (i : Instr) (op : Op) → Within (faults_here i op [])
  nothing_here i (ops.Call number) = nothing_old i (unit_call number)
  nothing_here i _ = tt

  alone_within : (from : ℕ → List Told → List ClauseFault) (is : List Instr) (shape : Shape) (i : Instr) → i.at ≤ most
      → ((later : ℕ) (stack : List Told) → Within (from later stack)) → Within (faults_at from is shape i [])
  alone_within from is shape i le later =
      cond_both (closes i.op) _ _ Within (λ t. cond_both (operand_count shape i.op == 0) [] (StackLeft i.at ∷ []) Within (λ u. tt) (λ u. (le, tt)))
      (λ t. cond_both (not (is_pure is i)) _ _ Within (λ u. tt)
      (λ u. cond_both (nat_lt 0 (operand_count shape i.op)) _ _ Within (λ v. (le, tt))
      (λ v. all_append (λ fault. fault_at fault ≤ most) (faults_here i i.op []) _ (nothing_here i i.op)
      (no_ways (λ at. from at (stack_behind shape i i.op [])) (ways_behind i.op (i.at + i.size)) (λ at. later at (stack_behind shape i i.op []))))))

  module _ (is : List Instr) (shape : Shape) (all : AllByRecursion (λ i. i.at ≤ most) is) where
    backward_within : (times start : ℕ) (call : Instr) → suc call.at ≤ start → Within (faults_from times is shape call start [])
    backward_within zero start call behind = tt
    backward_within (suc times) start call behind = by_found (instr_at is start) (λ i e. of_found (λ i. i.at ≤ most) is start i all e)
      where
        later_none : (later : ℕ) (rest : List Told) → Within (if goes_forward start later call then faults_from times is shape call later rest else [])
        later_none later rest =
            cond_both (goes_forward start later call) (faults_from times is shape call later rest) [] Within
            (λ t. let parts = and_parts (nat_lt start later) (nat_le later call.at) t in
            absurd (omega (arith, behind, ltb-true start later parts.0, leb-true later call.at parts.1)))
            (λ t. tt)

        by_found : (found : Option Instr) → ((i : Instr) → found ≡ Some i → i.at ≤ most)
            → Within (option_map_or (λ i. faults_at (λ later rest. if goes_forward start later call then faults_from times is shape call later rest else []) is shape i []) found [])
        by_found None place = tt
        by_found (Some i) place = alone_within _ is shape i (place i refl) later_none

    way_faults_within : (start : ℕ) (call : Instr) → call.at ≤ most → Within (way_faults is shape start call)
    way_faults_within start call le =
        elim (cases_lt call.at start) [
          | inl behind ↦ backward_within (length is) start call behind
          | inr inside ↦ within_between start call.at (way_faults is shape start call) le (way_faults_between is shape start call inside)
        ]

    -- ---- the whole block

    by_closing : (start : ℕ) (i : Instr) (call : Option Instr) → i.at ≤ most → Within (option_map_or (λ call. faults_of is shape start call i) call (body_faults (start_of_body is) i))
    by_closing start i (Some call) le = within_at i.at _ le (faults_of_at is shape start call i)
    by_closing start i None le = within_at i.at _ le (body_faults_at (start_of_body is) i)

    all_within : (start : ℕ) (clauses : List (ClauseKind × Option Term)) (rest : List Instr) → AllByRecursion (λ i. i.at ≤ most) rest → Within (faults_in is shape start clauses rest)
    all_within start clauses [] places = tt
    all_within start clauses (i ∷ rest) places =
        let P : ClauseFault → Type 0 = λ f. fault_at f ≤ most in
        let closed : Within (closed_faults is shape start clauses i) =
        cond_both (closes i.op) (way_faults is shape start i ++ limit_faults is start clauses i) [] Within
        (λ t. all_append P (way_faults is shape start i) (limit_faults is start clauses i) (way_faults_within start i places.0)
        (within_at i.at _ places.0 (limit_faults_at is start clauses i)))
        (λ t. tt) in
        let later = all_within (start_behind start i) (if closes i.op then with_clause is start clauses (closing i.op) else clauses) rest places.1 in
        all_append P (option_map_or (λ call. faults_of is shape start call i) (closing_of (i ∷ rest)) (body_faults (start_of_body is) i) ++ closed_faults is shape start clauses i) _
        (all_append P _ (closed_faults is shape start clauses i) (by_closing start i (closing_of (i ∷ rest)) places.0) closed) later

-- Where no instruction stands further than here, the first fault of clauses does not.
pub clause_fault_place : (most : ℕ) (is : List Instr) (shape : Shape) (fault : ClauseFault) → AllByRecursion (λ i. i.at ≤ most) is → first_clause_fault is shape ≡ Some fault → fault_at fault ≤ most
clause_fault_place most is shape fault all first = first_has (λ f. fault_at f ≤ most) (faults_in is shape 0 [] is) (all_within most is shape all 0 [] is all) fault first
