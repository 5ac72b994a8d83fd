-- The body of code that has kinds and no fault can be run.
use Rattle.std.proofs.Common.{◌≡◌, ℕ, ◌≤◌, true, false, nat_lt, List, [], ◌∷◌, Option, Some, None, refl}
use Rattle.std.specs.List.{AllByRecursion, list_any}
use Rattle.std.specs.Option.{option_map_or}
use Rattle.std.proofs.lemmas.Bool.{ltb-false, or_parts}
use Rattle.cil_model.specs.Blocks.{branch_targets, closes, is_closing_call, start_of_body}
use Rattle.cil_model.specs.Bodies.{HasBody, is_executed, is_executed_call}
use Rattle.cil_model.specs.FitKinds.{AreDecoded}
use Rattle.cil_model.specs.Passes.{KindsOf, Stacks}
use Rattle.cil_model.specs.ShortCode.{AreOfShortCode}
use Rattle.cil_model.specs.UnitCalls.{unit_call}
use Rattle.cil_model.specs.declared.instruction.Instr.{Instr}
use Rattle.cil_model.specs.declared.instruction.Op.{Op}
use Rattle.cil_model.specs.declared.instruction.Op.TheVariants as ops
use Rattle.cil_model.specs.declared.shape.Shape.{Shape}
use Rattle.cil_model.specs.declared.unit_numbers.UnitCall.{UnitCall}
use Rattle.cil_model.specs.declared.unit_numbers.UnitCall.TheVariants as calls
use Rattle.clause_faults.specs.Faults.{body_faults, fault_if, first_clause_fault}
use Rattle.clause_faults.specs.Ways.{asked, asked_by}
use Rattle.clause_faults.specs.declared.clause_fault.ClauseFault.TheVariants.{IntoBlock, OldForm}
use Rattle.clause_faults.proofs.FaultLemmas.NoFaults.{no_fault_if, none_in_both, none_of_each}
use Rattle.contract_extract.proofs.BlockLemmas.BodyLeft.{body_is_left}
use Rattle.contract_extract.proofs.BlockLemmas.CodeFrom.{all_found, of_rest, whole}

-- ---- one instruction

-- What closes nothing and asks for nothing is executed.
call_executed : (call : Option UnitCall) → is_closing_call call ≡ false → option_map_or (λ place. true) (asked call) false ≡ false → is_executed_call call ≡ true
call_executed (Some (calls.Requires message)) stays asks = absurd cc
call_executed (Some (calls.Ensures message)) stays asks = absurd cc
call_executed (Some calls.EndContractBlock) stays asks = absurd cc
call_executed (Some (calls.Result place)) stays asks = absurd cc
call_executed (Some (calls.OldValue place)) stays asks = absurd cc
call_executed _ stays asks = refl

op_executed : (op : Op) → closes op ≡ false → option_map_or (λ place. true) (asked_by op) false ≡ false → is_executed op ≡ true
op_executed (ops.Call number) stays asks = call_executed (unit_call number) stays asks
op_executed _ stays asks = refl

none_lower : (start : ℕ) (targets : List ℕ) → list_any (λ target. nat_lt target start) targets ≡ false → AllByRecursion (λ at. start ≤ at) targets
none_lower start [] none = tt
none_lower start (target ∷ targets) none =
    let apart = or_parts (nat_lt target start) (list_any (λ target. nat_lt target start) targets) none in (ltb-false target start apart.0, none_lower start targets apart.1)

-- What no fault of an instruction of the body tells.
module _ (start : ℕ) (i : Instr) (none : body_faults start i ≡ []) where
  parts : (fault_if (list_any (λ target. nat_lt target start) (branch_targets i.op)) (IntoBlock i.at) ≡ [])
      × (fault_if (option_map_or (λ place. true) (asked_by i.op) false) (OldForm i.at) ≡ [])
  parts = none_in_both (fault_if (list_any (λ target. nat_lt target start) (branch_targets i.op)) (IntoBlock i.at)) _ none

  right_inside : AllByRecursion (λ at. start ≤ at) (branch_targets i.op)
  right_inside = none_lower start (branch_targets i.op) (no_fault_if _ (IntoBlock i.at) parts.0)

  right_executed : closes i.op ≡ false → is_executed i.op ≡ true
  right_executed stays = op_executed i.op stays (no_fault_if _ (OldForm i.at) parts.1)

-- ---- all of the body

-- Code with no fault has a body that begins with an empty stack and can be run from there, where the code has kinds.
pub body_runs : (is : List Instr) (shape : Shape) (stacks : Stacks) → AreOfShortCode is → AreDecoded is → KindsOf shape is stacks
    → first_clause_fault is shape ≡ None → HasBody is stacks (start_of_body is)
body_runs is shape stacks short decoded kinds none =
    let start = start_of_body is in
    let left = body_is_left is shape stacks short decoded kinds none in
    let right = none_of_each (body_faults start) left.body left.right in
    record {
      empty = left.empty;
      executed = all_found is short (λ i. start ≤ i.at → is_executed i.op ≡ true) 0 is (whole is short) (λ i found above.
          right_executed start i (of_rest (λ j. body_faults start j ≡ []) is start left.body left.all_of right i found above)
          (of_rest (λ j. closes j.op ≡ false) is start left.body left.all_of left.none i found above));
      inside = all_found is short (λ i. start ≤ i.at → AllByRecursion (λ at. start ≤ at) (branch_targets i.op)) 0 is (whole is short) (λ i found above.
          right_inside start i (of_rest (λ j. body_faults start j ≡ []) is start left.body left.all_of right i found above));
    }
