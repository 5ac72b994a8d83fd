-- The faults in which an instruction of a unit may end, in the order in which the machine tests (ECMA-335 III.3 and
-- III.4). Those of clauses are not among them: specs/ClausesTested has these.
use Rattle.std.specs.Prelude.{◌≡◌, ◌⊎◌, Bool, true, false, List, [], ◌∷◌, Option, Some, None}
use Rattle.cil_model.specs.UnitCalls.{unit_call}
use Rattle.cil_model.specs.declared.instruction.BinOp.{BinOp}
use Rattle.cil_model.specs.declared.instruction.BinOp.TheVariants as operators
use Rattle.cil_model.specs.declared.instruction.Op.{Op}
use Rattle.cil_model.specs.declared.instruction.Op.TheVariants as ops
use Rattle.cil_model.specs.declared.machine.FaultKind.{FaultKind}
use Rattle.cil_model.specs.declared.machine.FaultKind.TheVariants as faults
use Rattle.cil_model.specs.declared.unit.Unit.{Unit as MethodUnit}
use Rattle.cil_model.specs.declared.unit_numbers.UnitCall.{UnitCall}
use Rattle.cil_model.specs.declared.unit_numbers.UnitCall.TheVariants as calls

-- Those of an operator.
abbrev pub operator_faults : BinOp → List FaultKind
operator_faults operators.Div = faults.DivZero ∷ faults.DivOverflow ∷ []
operator_faults operators.Rem = faults.DivZero ∷ faults.DivOverflow ∷ []
operator_faults operators.DivUn = faults.DivZero ∷ []
operator_faults operators.RemUn = faults.DivZero ∷ []
operator_faults operators.Shl = faults.Shift ∷ []
operator_faults operators.Shr = faults.Shift ∷ []
operator_faults operators.ShrUn = faults.Shift ∷ []
operator_faults operators.AddOvf = faults.Overflow ∷ []
operator_faults operators.MulOvf = faults.Overflow ∷ []
operator_faults operators.SubOvf = faults.Overflow ∷ []
operator_faults operators.Add = []
operator_faults operators.Sub = []
operator_faults operators.Mul = []
operator_faults operators.And = []
operator_faults operators.Or = []
operator_faults operators.Xor = []
operator_faults operators.Ceq = []
operator_faults operators.Cgt = []
operator_faults operators.CgtUn = []
operator_faults operators.Clt = []
operator_faults operators.CltUn = []

abbrev pub call_faults : Option UnitCall → List FaultKind
call_faults (Some (calls.Assert message)) = faults.Assert ∷ []
call_faults (Some (calls.Requires message)) = []
call_faults (Some (calls.Ensures message)) = []
call_faults (Some (calls.Assume message)) = []
call_faults (Some calls.EndContractBlock) = []
call_faults (Some (calls.Result place)) = []
call_faults (Some (calls.OldValue place)) = []
call_faults (Some (calls.Callee number)) = []
call_faults None = []

-- Those of an item that is loaded or stored, or of which the address is taken.
abbrev pub element_faults : List FaultKind
element_faults = faults.NullUse ∷ faults.Lower ∷ faults.Upper ∷ []

-- Those of an instruction of the unit with this operation.
abbrev pub faults_of : MethodUnit → Op → List FaultKind
faults_of unit (ops.Bin operator) = operator_faults operator
faults_of unit (ops.Call number) = call_faults (unit_call number)
faults_of unit (ops.NewArray number) = faults.ArraySize ∷ []
faults_of unit ops.Length = faults.NullUse ∷ []
faults_of unit (ops.LoadElem place) = element_faults
faults_of unit (ops.StoreElem place) = element_faults
faults_of unit (ops.LoadAddr number) = element_faults
faults_of unit ops.Nop = []
faults_of unit (ops.LoadArg n) = []
faults_of unit (ops.StoreArg n) = []
faults_of unit (ops.LoadLocal n) = []
faults_of unit (ops.StoreLocal n) = []
faults_of unit ops.Null = []
faults_of unit (ops.Const n) = []
faults_of unit ops.Dup = []
faults_of unit ops.Pop = []
faults_of unit ops.Return = []
faults_of unit (ops.Branch test target) = []
faults_of unit (ops.Switch targets) = []
faults_of unit ops.Neg = []
faults_of unit ops.Not = []
faults_of unit ops.ConvI4 = []
faults_of unit (ops.Text token) = []
faults_of unit (ops.LoadInd place) = []
faults_of unit (ops.StoreInd place) = []

-- The fault is one of these.
abbrev pub IsAmong : List FaultKind → FaultKind → Type 0
IsAmong [] kind = ⊥
IsAmong (fault ∷ others) kind = (kind ≡ fault) ⊎ IsAmong others kind

-- The fault is that a clause is not true.
abbrev pub is_of_clause : FaultKind → Bool
is_of_clause (faults.Requires number) = true
is_of_clause (faults.Ensures number) = true
is_of_clause faults.Assert = false
is_of_clause faults.NullUse = false
is_of_clause faults.Lower = false
is_of_clause faults.Upper = false
is_of_clause faults.DivZero = false
is_of_clause faults.DivOverflow = false
is_of_clause faults.Overflow = false
is_of_clause faults.Shift = false
is_of_clause faults.ArraySize = false
