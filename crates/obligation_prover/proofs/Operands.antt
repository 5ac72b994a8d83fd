-- What is so of each variable is so of the operands of an operation, and what follows from that is so of its
-- conditions.
use Rattle.std.proofs.Common.{ℕ, zero, suc, ℤ, Option, Some, None, List, [], ◌∷◌}
use Rattle.std.specs.Prelude.{reverse, slice_get}
use Rattle.std.specs.List.{AllByRecursion}
use Rattle.std.specs.Option.{option_map_or}
use Rattle.cil_model.proofs.Lists.{all_reverse}
use Rattle.cil_model.specs.UnitCalls.{unit_call}
use Rattle.cil_model.specs.declared.instruction.BinOp.{BinOp}
use Rattle.cil_model.specs.declared.instruction.BinOp.TheVariants as operators
use Rattle.cil_model.specs.declared.instruction.Op.{Op}
use Rattle.cil_model.specs.declared.instruction.Op.TheVariants as ops
use Rattle.cil_model.specs.declared.unit_numbers.UnitCall.{UnitCall}
use Rattle.cil_model.specs.declared.unit_numbers.UnitCall.TheVariants as calls
use Rattle.domain_api.specs.declared.expr.Expr.{Expr}
use Rattle.frame_names.specs.declared.var.Var.{Var}
use Rattle.frame_names.specs.declared.var.Var.TheVariants as vars
use Rattle.state_facts.specs.Forms.{HasForm, HasVar}
use Rattle.state_facts.specs.StateFacts.{StateFacts}
use Rattle.state_obligations.specs.Conditions.{AreThere, IsThere, conditions_of, operator_conditions}
use Rattle.state_obligations.specs.Meaning.{AreOfInt32, IsOfInt32}
use Rattle.state_obligations.specs.declared.condition.Condition.{Condition}
use Rattle.state_obligations.specs.declared.condition.Condition.TheVariants as conditions
use Rattle.state_obligations.specs.declared.condition.Operation.{Operation}
use Rattle.state_obligations.specs.declared.condition.Operation.TheVariants as operations
use Rattle.obligation_prover.specs.Operations.{array_of, assertion_of, assumed_operation, binary_of, call_operation, condition_depth, conditions_after, conditions_at, element_of, from_top, item_of, length_of, operation_of}
use Rattle.obligation_prover.proofs.PointValues.{FitsVar}

-- ---- operands

-- If there is one, it is so.
abbrev pub IfThere : {X : Type 0} → (X → Type 0) → Option X → Type 0
IfThere P None = Unit {0}
IfThere P (Some x) = P x

-- Each operand is so.
abbrev pub OperandsAre : (Var → Type 0) → Operation → Type 0
OperandsAre P (operations.Length r) = P (vars.Reference r)
OperandsAre P (operations.Element r i) = P (vars.Reference r) × P (vars.Number i)
OperandsAre P (operations.NewArray n) = P (vars.Number n)
OperandsAre P (operations.Binary op a b) = P (vars.Number a) × P (vars.Number b)
OperandsAre P (operations.Assert e) = P (vars.Number e)

pub at_depth : {X : Type 0} (P : X → Type 0) (xs : List X) (k : ℕ) → AllByRecursion P xs → IfThere P (slice_get xs k)
at_depth P [] k all = tt
at_depth P (x ∷ xs) zero all = all.0
at_depth P (x ∷ xs) (suc k) all = at_depth P xs k all.1

module _ (P : Var → Type 0) where
  length_operand : (v : Option Var) → IfThere P v → IfThere (OperandsAre P) (length_of v)
  length_operand None is = tt
  length_operand (Some (vars.Reference r)) is = is
  length_operand (Some (vars.Number e)) is = tt
  length_operand (Some vars.Text) is = tt
  length_operand (Some (vars.Address r e)) is = tt

  element_operands : (v w : Option Var) → IfThere P v → IfThere P w → IfThere (OperandsAre P) (element_of v w)
  element_operands (Some (vars.Reference r)) (Some (vars.Number i)) is also = (is, also)
  element_operands None w is also = tt
  element_operands (Some v) None is also = by v
    where
      by : (v : Var) → IfThere (OperandsAre P) (element_of (Some v) None)
      by (vars.Reference r) = tt
      by (vars.Number e) = tt
      by vars.Text = tt
      by (vars.Address r e) = tt
  element_operands (Some (vars.Reference r)) (Some (vars.Reference q)) is also = tt
  element_operands (Some (vars.Reference r)) (Some vars.Text) is also = tt
  element_operands (Some (vars.Reference r)) (Some (vars.Address q e)) is also = tt
  element_operands (Some (vars.Number e)) (Some w) is also = tt
  element_operands (Some vars.Text) (Some w) is also = tt
  element_operands (Some (vars.Address r e)) (Some w) is also = tt

  array_operand : (v : Option Var) → IfThere P v → IfThere (OperandsAre P) (array_of v)
  array_operand None is = tt
  array_operand (Some (vars.Number n)) is = is
  array_operand (Some (vars.Reference r)) is = tt
  array_operand (Some vars.Text) is = tt
  array_operand (Some (vars.Address r e)) is = tt

  binary_operands : (op : BinOp) (v w : Option Var) → IfThere P v → IfThere P w → IfThere (OperandsAre P) (binary_of op v w)
  binary_operands op (Some (vars.Number a)) (Some (vars.Number b)) is also = (is, also)
  binary_operands op None w is also = tt
  binary_operands op (Some v) None is also = by v
    where
      by : (v : Var) → IfThere (OperandsAre P) (binary_of op (Some v) None)
      by (vars.Number e) = tt
      by (vars.Reference r) = tt
      by vars.Text = tt
      by (vars.Address r e) = tt
  binary_operands op (Some (vars.Number a)) (Some (vars.Reference q)) is also = tt
  binary_operands op (Some (vars.Number a)) (Some vars.Text) is also = tt
  binary_operands op (Some (vars.Number a)) (Some (vars.Address q e)) is also = tt
  binary_operands op (Some (vars.Reference r)) (Some w) is also = tt
  binary_operands op (Some vars.Text) (Some w) is also = tt
  binary_operands op (Some (vars.Address r e)) (Some w) is also = tt

  assertion_operand : (v : Option Var) → IfThere P v → IfThere (OperandsAre P) (assertion_of v)
  assertion_operand None is = tt
  assertion_operand (Some (vars.Number e)) is = is
  assertion_operand (Some (vars.Reference r)) is = tt
  assertion_operand (Some vars.Text) is = tt
  assertion_operand (Some (vars.Address r e)) is = tt

  -- What is so of an address is so of its reference and of its index.
  abbrev IsOfBoth : Type 0
  IsOfBoth = (r : ℕ) (e : Expr) → P (vars.Address r e) → P (vars.Reference r) × P (vars.Number e)

  item_operands : IsOfBoth → (v : Option Var) → IfThere P v → IfThere (OperandsAre P) (item_of v)
  item_operands both None is = tt
  item_operands both (Some (vars.Address r e)) is = both r e is
  item_operands both (Some (vars.Number e)) is = tt
  item_operands both (Some (vars.Reference r)) is = tt
  item_operands both (Some vars.Text) is = tt

  module _ (known : StateFacts) (all : AllByRecursion P known.variables) where
    on_stack : (above : ℕ) → IfThere P (from_top above known)
    on_stack above = at_depth P (reverse known.variables) above (all_reverse P known.variables all)

    call_operands : (call : Option UnitCall) → IfThere (OperandsAre P) (call_operation call known)
    call_operands (Some (calls.Assert message)) = assertion_operand (from_top (condition_depth message) known) (on_stack (condition_depth message))
    call_operands None = tt
    call_operands (Some _) = tt

    pub operands_are : (op : Op) → IfThere (OperandsAre P) (operation_of op known)
    unfolding operation_of
    operands_are ops.Length = length_operand (from_top 0 known) (on_stack 0)
    operands_are (ops.LoadElem place) = element_operands (from_top 1 known) (from_top 0 known) (on_stack 1) (on_stack 0)
    operands_are (ops.StoreElem place) = element_operands (from_top 2 known) (from_top 1 known) (on_stack 2) (on_stack 1)
    operands_are (ops.LoadAddr number) =
        element_operands (from_top 1 known) (from_top 0 known) (on_stack 1) (on_stack 0)
    operands_are (ops.NewArray number) = array_operand (from_top 0 known) (on_stack 0)
    operands_are (ops.Bin op) = binary_operands op (from_top 1 known) (from_top 0 known) (on_stack 1) (on_stack 0)
    operands_are (ops.Call number) = call_operands (unit_call number)
    operands_are _ = tt

    assumed_are : IsOfBoth → (op : Op) → IfThere (OperandsAre P) (assumed_operation op known)
    assumed_are both (ops.LoadInd place) = item_operands both (from_top 0 known) (on_stack 0)
    assumed_are both (ops.StoreInd place) = item_operands both (from_top 1 known) (on_stack 1)
    assumed_are both op = operands_are op

-- ---- conditions

-- What is so of each condition of some operands.
each_operator : (Q : Condition → Type 0) (op : BinOp) (a b : Expr) → Q (conditions.DivZero b) → Q (conditions.DivOverflow a b) → Q (conditions.Shift b)
    → ((op : BinOp) → Q (conditions.Overflow op a b)) → AllByRecursion Q (operator_conditions op a b)
each_operator Q operators.Div a b nonzero over shift exact = (nonzero, (over, tt))
each_operator Q operators.Rem a b nonzero over shift exact = (nonzero, (over, tt))
each_operator Q operators.DivUn a b nonzero over shift exact = (nonzero, tt)
each_operator Q operators.RemUn a b nonzero over shift exact = (nonzero, tt)
each_operator Q operators.Shl a b nonzero over shift exact = (shift, tt)
each_operator Q operators.Shr a b nonzero over shift exact = (shift, tt)
each_operator Q operators.ShrUn a b nonzero over shift exact = (shift, tt)
each_operator Q operators.AddOvf a b nonzero over shift exact = (exact operators.AddOvf, tt)
each_operator Q operators.MulOvf a b nonzero over shift exact = (exact operators.MulOvf, tt)
each_operator Q operators.SubOvf a b nonzero over shift exact = (exact operators.SubOvf, tt)
each_operator Q _ a b nonzero over shift exact = tt

operation_there : (known : StateFacts) (o : Operation) → OperandsAre (HasVar known) o → AreThere known (conditions_of o)
operation_there known (operations.Length r) is = (is, tt)
operation_there known (operations.Element r i) is = (is.0, (is.1, ((is.0, is.1), tt)))
operation_there known (operations.NewArray n) is = (is, tt)
operation_there known (operations.Binary op a b) is = each_operator (IsThere known) op a b is.1 (is.0, is.1) is.1 (λ op. (is.0, is.1))
operation_there known (operations.Assert e) is = (is, tt)

operation_fits : (number : ℕ → ℤ) (o : Operation) → OperandsAre (FitsVar number) o → AreOfInt32 (conditions_of o) number
operation_fits number (operations.Length r) is = (tt, tt)
operation_fits number (operations.Element r i) is = (tt, (is.1, (is.1, tt)))
operation_fits number (operations.NewArray n) is = (is, tt)
operation_fits number (operations.Binary op a b) is = each_operator (λ c. IsOfInt32 c number) op a b is.1 (is.0, is.1) is.1 (λ op. (is.0, is.1))
operation_fits number (operations.Assert e) is = (is, tt)

all_of : (P : Operation → Type 0) (Q : Condition → Type 0) (o : Option Operation) → ((o : Operation) → P o → AllByRecursion Q (conditions_of o)) → IfThere P o
    → AllByRecursion Q (option_map_or conditions_of o [])
all_of P Q None next is = tt
all_of P Q (Some o) next is = next o is

-- What the conditions of an instruction name is there.
pub conditions_there : (op : Op) (known : StateFacts) → HasForm known → AreThere known (conditions_at op known)
conditions_there op known form =
    all_of (OperandsAre (HasVar known)) (IsThere known) (operation_of op known) (λ o is. operation_there known o is)
    (operands_are (HasVar known) known form.variables op)

-- Their operands are int32, where the variables are.
pub conditions_fit : (op : Op) (known : StateFacts) (number : ℕ → ℤ) → AllByRecursion (FitsVar number) known.variables → AreOfInt32 (conditions_at op known) number
conditions_fit op known number fit =
    all_of (OperandsAre (FitsVar number)) (λ c. IsOfInt32 c number) (operation_of op known) (λ o is. operation_fits number o is)
    (operands_are (FitsVar number) known fit op)

-- So for those that are assumed once it went on.
pub assumed_there : (op : Op) (known : StateFacts) → HasForm known → AreThere known (conditions_after op known)
assumed_there op known form =
    all_of (OperandsAre (HasVar known)) (IsThere known) (assumed_operation op known)
    (λ o is. operation_there known o is) (assumed_are (HasVar known) known form.variables (λ r e is. is) op)

pub assumed_fit : (op : Op) (known : StateFacts) (number : ℕ → ℤ) → AllByRecursion (FitsVar number) known.variables
    → AreOfInt32 (conditions_after op known) number
assumed_fit op known number fit =
    all_of (OperandsAre (FitsVar number)) (λ c. IsOfInt32 c number) (assumed_operation op known)
    (λ o is. operation_fits number o is) (assumed_are (FitsVar number) known fit (λ r e is. (tt, is)) op)
