-- The conditions of operations, in the order in which the machine tests (ECMA-335 III.3 and III.4).
use Rattle.std.specs.Prelude.{Bool, true, false, List, [], ◌∷◌, Option, Some, None, if◌then◌else◌}
use Rattle.std.specs.List.{AllByRecursion}
use Rattle.cil_model.specs.declared.instruction.BinOp.{BinOp}
use Rattle.cil_model.specs.declared.instruction.BinOp.TheVariants as operators
use Rattle.cil_model.specs.declared.machine.FaultKind.{FaultKind}
use Rattle.cil_model.specs.declared.machine.FaultKind.TheVariants as faults
use Rattle.domain_api.specs.declared.expr.Expr.{Expr}
use Rattle.state_facts.specs.Forms.{HasNumber, HasReference}
use Rattle.state_facts.specs.StateFacts.{StateFacts}
use Rattle.state_obligations.specs.declared.condition.Condition.{Condition}
use Rattle.state_obligations.specs.declared.condition.Condition.TheVariants as conditions
use Rattle.state_obligations.specs.declared.condition.Operation.{Operation}
use Rattle.state_obligations.specs.declared.condition.Operation.TheVariants as operations

-- Those of an operator of two numbers.
abbrev pub operator_conditions : BinOp → Expr → Expr → List Condition
operator_conditions operators.Div a b = conditions.DivZero b ∷ conditions.DivOverflow a b ∷ []
operator_conditions operators.Rem a b = conditions.DivZero b ∷ conditions.DivOverflow a b ∷ []
operator_conditions operators.DivUn a b = conditions.DivZero b ∷ []
operator_conditions operators.RemUn a b = conditions.DivZero b ∷ []
operator_conditions operators.Shl a b = conditions.Shift b ∷ []
operator_conditions operators.Shr a b = conditions.Shift b ∷ []
operator_conditions operators.ShrUn a b = conditions.Shift b ∷ []
operator_conditions operators.AddOvf a b = conditions.Overflow operators.AddOvf a b ∷ []
operator_conditions operators.MulOvf a b = conditions.Overflow operators.MulOvf a b ∷ []
operator_conditions operators.SubOvf a b = conditions.Overflow operators.SubOvf a b ∷ []
operator_conditions _ a b = []

-- Those of an operation.
abbrev pub conditions_of : Operation → List Condition
conditions_of (operations.Length r) = conditions.NullUse r ∷ []
conditions_of (operations.Element r i) = conditions.NullUse r ∷ conditions.Lower i ∷ conditions.Upper r i ∷ []
conditions_of (operations.NewArray n) = conditions.ArraySize n ∷ []
conditions_of (operations.Binary op a b) = operator_conditions op a b
conditions_of (operations.Assert e) = conditions.Assert e ∷ []

-- The fault that comes where a condition is not met.
abbrev pub fault_of : Condition → FaultKind
fault_of (conditions.NullUse r) = faults.NullUse
fault_of (conditions.Lower i) = faults.Lower
fault_of (conditions.Upper r i) = faults.Upper
fault_of (conditions.ArraySize n) = faults.ArraySize
fault_of (conditions.Shift n) = faults.Shift
fault_of (conditions.DivZero b) = faults.DivZero
fault_of (conditions.DivOverflow a b) = faults.DivOverflow
fault_of (conditions.Overflow op a b) = faults.Overflow
fault_of (conditions.Assert e) = faults.Assert

-- It is the condition of this fault.
abbrev pub is_of : FaultKind → Condition → Bool
is_of faults.NullUse (conditions.NullUse r) = true
is_of faults.Lower (conditions.Lower i) = true
is_of faults.Upper (conditions.Upper r i) = true
is_of faults.ArraySize (conditions.ArraySize n) = true
is_of faults.Shift (conditions.Shift n) = true
is_of faults.DivZero (conditions.DivZero b) = true
is_of faults.DivOverflow (conditions.DivOverflow a b) = true
is_of faults.Overflow (conditions.Overflow op a b) = true
is_of faults.Assert (conditions.Assert e) = true
is_of fault condition = false

-- The condition among some that is of a fault.
abbrev pub with_fault : FaultKind → List Condition → Option Condition
with_fault fault [] = None
with_fault fault (c ∷ cs) = if is_of fault c then Some c else with_fault fault cs

-- What a condition names is there.
abbrev pub IsThere : StateFacts → Condition → Type 0
IsThere known (conditions.NullUse r) = HasReference known r
IsThere known (conditions.Lower i) = HasNumber known i
IsThere known (conditions.Upper r i) = HasReference known r × HasNumber known i
IsThere known (conditions.ArraySize n) = HasNumber known n
IsThere known (conditions.Shift n) = HasNumber known n
IsThere known (conditions.DivZero b) = HasNumber known b
IsThere known (conditions.DivOverflow a b) = HasNumber known a × HasNumber known b
IsThere known (conditions.Overflow op a b) = HasNumber known a × HasNumber known b
IsThere known (conditions.Assert e) = HasNumber known e

abbrev pub AreThere : StateFacts → List Condition → Type 0
AreThere known cs = AllByRecursion (IsThere known) cs
