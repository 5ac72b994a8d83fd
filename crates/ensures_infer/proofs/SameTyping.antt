-- The kinds of code do not depend on the clauses of the methods that it calls.
use Rattle.std.proofs.Common.{◌≡◌, ℕ, zero, suc, Bool, nat_lt, List, [], ◌∷◌, length, reverse, take, drop, slice_get, Option, Some, None, Result, Ok, Err, if◌then◌else◌, refl, sym, ap, ◌∙◌}
use Rattle.cil_model.specs.Kinds.{behind, behind_call, behind_callee, call_operands, kind_of, operand_count, param_count, pushed_kind, take_each, typed, when, within_size}
use Rattle.cil_model.specs.Passes.{KindsOf, Stacks, after_pass, after_passes, follow, pass, pass_over, stack_at, visited}
use Rattle.cil_model.specs.UnitCalls.{unit_call}
use Rattle.cil_model.specs.declared.clause.Clause.{Clause}
use Rattle.cil_model.specs.declared.instruction.Instr.{Instr}
use Rattle.cil_model.specs.declared.instruction.Op.{Op}
use Rattle.cil_model.specs.declared.instruction.Op.TheVariants as ops
use Rattle.cil_model.specs.declared.place.Kind.{Kind}
use Rattle.cil_model.specs.declared.place.Place.{Place}
use Rattle.cil_model.specs.declared.shape.Shape.{Shape}
use Rattle.cil_model.specs.declared.type_fault.TypeFault.{TypeFault}
use Rattle.cil_model.specs.declared.type_fault.TypeFault.TheVariants.{Underflow}
use Rattle.cil_model.specs.declared.unit.CalleeInfo.{CalleeInfo}
use Rattle.cil_model.specs.declared.unit_numbers.UnitCall.{UnitCall}
use Rattle.cil_model.specs.declared.unit_numbers.UnitCall.TheVariants as calls
use Rattle.safe_worlds.specs.Strengthened.{with_each}

-- ---- callees

-- Two callees take the same and give the same, or there is none.
abbrev AreCalledAlike : Option CalleeInfo → Option CalleeInfo → Type 0
AreCalledAlike None None = Unit {0}
AreCalledAlike (Some a) (Some b) = (a.args ≡ b.args) × (a.result ≡ b.result)
AreCalledAlike None (Some b) = ⊥
AreCalledAlike (Some a) None = ⊥

alike_itself : (o : Option CalleeInfo) → AreCalledAlike o o
alike_itself None = tt
alike_itself (Some callee) = (refl, refl)

called_alike : (callees : List CalleeInfo) (added : List (List Clause)) (n : ℕ)
    → AreCalledAlike (slice_get callees n) (slice_get (with_each callees added) n)
called_alike [] added n = alike_itself (slice_get [] n)
called_alike (callee ∷ callees) [] n = alike_itself (slice_get (callee ∷ callees) n)
called_alike (callee ∷ callees) (clauses ∷ added) zero = (refl, refl)
called_alike (callee ∷ callees) (clauses ∷ added) (suc n) = called_alike callees added n

same_params : (o p : Option CalleeInfo) → AreCalledAlike o p → param_count o ≡ param_count p
same_params None None alike = refl
same_params (Some a) (Some b) alike = ap (λ (args : List Place). length args) alike.0
same_params None (Some b) alike = absurd alike
same_params (Some a) None alike = absurd alike

-- The stack behind a call of a method of these arguments and this result.
abbrev behind_such : List Kind → List Place → Place → Option (List Kind)
behind_such stack args result =
    when (take_each args (reverse (take (length args) stack))) (pushed_kind (kind_of result) (drop (length args) stack))

same_behind : (o p : Option CalleeInfo) (stack : List Kind) → AreCalledAlike o p
    → behind_callee o stack ≡ behind_callee p stack
same_behind None None stack alike = refl
same_behind (Some a) (Some b) stack alike =
    ap (λ (args : List Place). behind_such stack args a.result) alike.0
    ∙ ap (λ (result : Place). behind_such stack b.args result) alike.1
same_behind None (Some b) stack alike = absurd alike
same_behind (Some a) None stack alike = absurd alike

-- ---- typing

module _ (s : Shape) (others : List CalleeInfo)
    (alike : (n : ℕ) → AreCalledAlike (slice_get s.callees n) (slice_get others n)) where
  abbrev t : Shape
  t = record s { callees = others }

  same_call_operands : (call : Option UnitCall) → call_operands s call ≡ call_operands t call
  same_call_operands (Some (calls.Callee n)) =
      same_params (slice_get s.callees n) (slice_get others n) (alike n)
  same_call_operands (Some (calls.Requires message)) = refl
  same_call_operands (Some (calls.Ensures message)) = refl
  same_call_operands (Some (calls.Assert message)) = refl
  same_call_operands (Some (calls.Assume message)) = refl
  same_call_operands (Some calls.EndContractBlock) = refl
  same_call_operands (Some (calls.Result place)) = refl
  same_call_operands (Some (calls.OldValue place)) = refl
  same_call_operands None = refl

  same_operands : (op : Op) → operand_count s op ≡ operand_count t op
  same_operands (ops.Call number) = same_call_operands (unit_call number)
  same_operands _ = refl

  same_behind_call : (call : Option UnitCall) (stack : List Kind) → behind_call s call stack ≡ behind_call t call stack
  same_behind_call (Some (calls.Callee n)) stack =
      same_behind (slice_get s.callees n) (slice_get others n) stack (alike n)
  same_behind_call (Some (calls.Requires message)) stack = refl
  same_behind_call (Some (calls.Ensures message)) stack = refl
  same_behind_call (Some (calls.Assert message)) stack = refl
  same_behind_call (Some (calls.Assume message)) stack = refl
  same_behind_call (Some calls.EndContractBlock) stack = refl
  same_behind_call (Some (calls.Result place)) stack = refl
  same_behind_call (Some (calls.OldValue place)) stack = refl
  same_behind_call None stack = refl

  same_behind_op : (op : Op) (stack : List Kind) → behind s op stack ≡ behind t op stack
  same_behind_op (ops.Call number) stack = same_behind_call (unit_call number) stack
  same_behind_op _ stack = refl

  same_within : (at : ℕ) (stack : Option (List Kind)) → within_size s at stack ≡ within_size t at stack
  same_within at None = refl
  same_within at (Some stack) = refl

  same_typed : (i : Instr) (stack : List Kind) → typed s i stack ≡ typed t i stack
  same_typed i stack =
      let short : Result (List Kind) TypeFault = Err (Underflow i.at) in
      ap (λ (n : ℕ). if nat_lt (length stack) n then short else within_size s i.at (behind s i.op stack))
      (same_operands i.op)
      ∙ ap (λ (r : Result (List Kind) TypeFault). if nat_lt (length stack) (operand_count t i.op) then short else r)
      (same_within i.at (behind s i.op stack) ∙ ap (within_size t i.at) (same_behind_op i.op stack))

  same_visited : (is : List Instr) (stacks : Stacks) (i : Instr) (stack : Option (List Kind))
      → visited s is stacks i stack ≡ visited t is stacks i stack
  same_visited is stacks i None = refl
  same_visited is stacks i (Some stack) = ap (follow is stacks i) (same_typed i stack)

  same_pass_over : (is rest : List Instr) (stacks : Result Stacks TypeFault)
      → pass_over s is rest stacks ≡ pass_over t is rest stacks
  same_pass_over is [] stacks = refl
  same_pass_over is (i ∷ rest) (Err fault) = refl
  same_pass_over is (i ∷ rest) (Ok stacks) =
      ap (pass_over s is rest) (same_visited is stacks i (stack_at is stacks i.at))
      ∙ same_pass_over is rest (visited t is stacks i (stack_at is stacks i.at))

  same_after : (is : List Instr) (stacks : Result Stacks TypeFault) → after_pass s is stacks ≡ after_pass t is stacks
  same_after is (Err fault) = refl
  same_after is (Ok stacks) = same_pass_over is is (Ok stacks)

  same_passes : (is : List Instr) (n : ℕ) → after_passes s is n ≡ after_passes t is n
  same_passes is zero = refl
  same_passes is (suc n) = ap (after_pass s is) (same_passes is n) ∙ same_after is (after_passes t is n)

  same_kinds : (is : List Instr) (stacks : Stacks) → KindsOf s is stacks → KindsOf t is stacks
  same_kinds is stacks kinds = record {
    passes = kinds.passes;
    brought = sym (same_passes is kinds.passes) ∙ kinds.brought;
    settled = sym (same_pass_over is is (Ok stacks)) ∙ kinds.settled;
  }

pub kinds_again : (s : Shape) (added : List (List Clause)) (is : List Instr) (stacks : Stacks) → KindsOf s is stacks
    → KindsOf (record s { callees = with_each s.callees added }) is stacks
kinds_again s added is stacks kinds =
    same_kinds s (with_each s.callees added) (called_alike s.callees added) is stacks kinds
