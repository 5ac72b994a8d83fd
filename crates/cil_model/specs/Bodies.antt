-- What a method's body has to be so that the machine can run it.
use Rattle.std.specs.Prelude.{◌≡◌, ℕ, ◌≤◌, Bool, true, false, List, [], Option, Some, None}
use Rattle.std.specs.List.{AllByRecursion}
use Rattle.cil_model.specs.Blocks.{branch_targets}
use Rattle.cil_model.specs.Passes.{KindsOf, Stacks, stack_at}
use Rattle.cil_model.specs.Shapes.{shape_of}
use Rattle.cil_model.specs.UnitCalls.{unit_call}
use Rattle.cil_model.specs.declared.instruction.Instr.{Instr}
use Rattle.cil_model.specs.declared.instruction.Op.{Op}
use Rattle.cil_model.specs.declared.instruction.Op.TheVariants as ops
use Rattle.cil_model.specs.declared.unit.Unit.{Unit as MethodUnit}
use Rattle.cil_model.specs.declared.unit_numbers.UnitCall.{UnitCall}
use Rattle.cil_model.specs.declared.unit_numbers.UnitCall.TheVariants as calls

-- The machine executes the call: it is none of those that a contract block alone has.
abbrev pub is_executed_call : Option UnitCall → Bool
is_executed_call (Some (calls.Requires message)) = false
is_executed_call (Some (calls.Ensures message)) = false
is_executed_call (Some calls.EndContractBlock) = false
is_executed_call (Some (calls.Result place)) = false
is_executed_call (Some (calls.OldValue place)) = false
is_executed_call (Some (calls.Assert message)) = true
is_executed_call (Some (calls.Assume message)) = true
is_executed_call (Some (calls.Callee number)) = true
is_executed_call None = true

abbrev pub is_executed : Op → Bool
is_executed (ops.Call number) = is_executed_call (unit_call number)
is_executed ops.Nop = true
is_executed (ops.LoadArg n) = true
is_executed (ops.StoreArg n) = true
is_executed (ops.LoadLocal n) = true
is_executed (ops.StoreLocal n) = true
is_executed ops.Null = true
is_executed (ops.Const n) = true
is_executed ops.Dup = true
is_executed ops.Pop = true
is_executed ops.Return = true
is_executed (ops.Branch test target) = true
is_executed (ops.Switch targets) = true
is_executed (ops.Bin operator) = true
is_executed ops.Neg = true
is_executed ops.Not = true
is_executed ops.ConvI4 = true
is_executed (ops.Text token) = true
is_executed (ops.NewArray number) = true
is_executed ops.Length = true
is_executed (ops.LoadElem place) = true
is_executed (ops.StoreElem place) = true
is_executed (ops.LoadAddr number) = true
is_executed (ops.LoadInd place) = true
is_executed (ops.StoreInd place) = true

-- The body can be run: it begins with an empty stack, and what stands from its start on is executed, and branches
-- no further back.
pub record HasBody (is : List Instr) (stacks : Stacks) (start : ℕ) : Type 0 where
  pub empty : stack_at is stacks start ≡ Some []
  pub executed : AllByRecursion (λ i. start ≤ i.at → is_executed i.op ≡ true) is
  pub inside : AllByRecursion (λ i. start ≤ i.at → AllByRecursion (λ at. start ≤ at) (branch_targets i.op)) is

-- The code has kinds by which its body can be run from its start.
pub record CanRun (unit : MethodUnit) : Type 0 where
  pub stacks : Stacks
  pub kinds : KindsOf (shape_of unit) unit.instrs stacks
  pub body : HasBody unit.instrs stacks unit.body_start
