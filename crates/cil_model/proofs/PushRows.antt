-- What the instructions leave that move or make one value, and the operators on the stack.
use Rattle.std.proofs.Common.{◌≡◌, pos, negsuc, List, [], ◌∷◌, refl}
use Rattle.std.specs.Int.{int_wrap}
use Rattle.cil_model.specs.Effects.{Effect, GoesOn, Faults, effects}
use Rattle.cil_model.specs.declared.instruction.BinOp.TheVariants as operators
use Rattle.cil_model.specs.declared.instruction.Op.{Op}
use Rattle.cil_model.specs.declared.instruction.Op.TheVariants as ops
use Rattle.cil_model.specs.declared.machine.FaultKind.TheVariants as faults
use Rattle.cil_model.specs.declared.machine.Frame.{Frame}
use Rattle.cil_model.specs.declared.machine.Value.{Value}
use Rattle.cil_model.specs.declared.machine.Value.TheVariants.{Int, Native, Null, Array, Text}
use Rattle.cil_model.specs.declared.place.Place.TheVariants.{Void}
use Rattle.cil_model.proofs.SmallRuns.{small}

-- A frame whose arguments are 1 and 2 and whose locals are 3 and 4.
abbrev frame : List Value → Frame
frame stack = record {
  unit = 0;
  at = 4;
  stack = stack;
  locals = Int (pos 3) ∷ Int (pos 4) ∷ [];
  args = Int (pos 1) ∷ Int (pos 2) ∷ [];
  entry_args = [];
  entry_heap = [];
}

-- The operation at offset 4, of 2 bytes, with this stack may do this, and nothing else.
abbrev Does : Op → List Value → List Effect → Type 0
Does op stack done = effects (small Void [] [] []) (record { at = 4; size = 2; op = op }) (frame stack) [] ≡ done

-- It goes on with this stack.
abbrev on : List Value → List Effect
on stack = GoesOn (record (frame stack) { at = 6 }) [] ∷ []

-- ---- one value

nop : Does ops.Nop (Int (pos 5) ∷ []) (on (Int (pos 5) ∷ []))
nop = refl

argument : Does (ops.LoadArg 1) (Int (pos 5) ∷ []) (on (Int (pos 2) ∷ Int (pos 5) ∷ []))
argument = refl

no_argument : Does (ops.LoadArg 2) [] []
no_argument = refl

local : Does (ops.LoadLocal 0) [] (on (Int (pos 3) ∷ []))
local = refl

no_local : Does (ops.LoadLocal 2) [] []
no_local = refl

null : Does ops.Null [] (on (Null ∷ []))
null = refl

constant : Does (ops.Const (negsuc 6)) [] (on (Int (negsuc 6) ∷ []))
constant = refl

text : Does (ops.Text 0) (Int (pos 5) ∷ []) (on (Text ∷ Int (pos 5) ∷ []))
text = refl

-- ---- operators: the first operand lies below the second

difference : Does (ops.Bin operators.Sub) (Int (pos 2) ∷ Int (pos 9) ∷ Int (pos 5) ∷ []) (on (Int (pos 7) ∷ Int (pos 5) ∷ []))
unfolding int_wrap
difference = refl

division_by_zero : Does (ops.Bin operators.Div) (Int (pos 0) ∷ Int (pos 9) ∷ []) (Faults faults.DivZero ∷ [])
division_by_zero = refl

length_is_not_added : Does (ops.Bin operators.Add) (Native 1 ∷ Int (pos 9) ∷ []) []
length_is_not_added = refl

negative : Does ops.Neg (Int (pos 9) ∷ []) (on (Int (negsuc 8) ∷ []))
unfolding int_wrap
negative = refl

turned : Does ops.Not (Int (pos 9) ∷ []) (on (Int (negsuc 9) ∷ []))
turned = refl

-- ---- comparisons

less : Does (ops.Bin operators.Clt) (Int (pos 0) ∷ Int (negsuc 0) ∷ Int (pos 5) ∷ []) (on (Int (pos 1) ∷ Int (pos 5) ∷ []))
less = refl

less_without_sign : Does (ops.Bin operators.CltUn) (Int (pos 0) ∷ Int (negsuc 0) ∷ []) (on (Int (pos 0) ∷ []))
less_without_sign = refl

greater : Does (ops.Bin operators.Cgt) (Int (pos 0) ∷ Int (negsuc 0) ∷ []) (on (Int (pos 0) ∷ []))
greater = refl

greater_without_sign : Does (ops.Bin operators.CgtUn) (Int (pos 0) ∷ Int (negsuc 0) ∷ []) (on (Int (pos 1) ∷ []))
greater_without_sign = refl

equal : Does (ops.Bin operators.Ceq) (Native 3 ∷ Int (pos 3) ∷ []) (on (Int (pos 1) ∷ []))
equal = refl

-- The array is the first operand.
above_null : Does (ops.Bin operators.CgtUn) (Null ∷ Array 0 ∷ []) (on (Int (pos 1) ∷ []))
above_null = refl
