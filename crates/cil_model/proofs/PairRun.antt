-- A run that calls a method of two parameters: the last argument is taken from the top, and each is put into its
-- parameter's place.
use Rattle.std.proofs.Common.{true, pos, [], ◌∷◌, Some, codes, refl}
use Rattle.std.specs.Int.{int_wrap}
use Rattle.cil_model.specs.Runs.{Step, StepsTo, entry_config}
use Rattle.cil_model.specs.UnitCalls.{unit_call}
use Rattle.cil_model.specs.declared.instruction.BinOp.TheVariants as operators
use Rattle.cil_model.specs.declared.instruction.Op.TheVariants as ops
use Rattle.cil_model.specs.declared.machine.Config.TheVariants.{Returned}
use Rattle.cil_model.specs.declared.machine.Value.TheVariants.{Int}
use Rattle.cil_model.specs.declared.machine.World.{World}
use Rattle.cil_model.specs.declared.place.Place.TheVariants as places
use Rattle.cil_model.specs.declared.unit.CalleeInfo.{CalleeInfo}
use Rattle.cil_model.specs.declared.unit.Unit.{Unit as MethodUnit}
use Rattle.cil_model.proofs.Laid.{method}
use Rattle.cil_model.proofs.Running.{steps_to}
use Rattle.cil_model.proofs.SmallRuns.{small}

-- int M(int a, bool b) { return a - b; }
abbrev minus : MethodUnit
minus =
    small places.Int (places.Int ∷ places.Bool ∷ []) [] ((1, ops.LoadArg 0) ∷ (1, ops.LoadArg 1) ∷ (1, ops.Bin operators.Sub) ∷ (1, ops.Return) ∷ [])

abbrev minus_info : CalleeInfo
minus_info = record { name = codes "Demo.Calc::M"; result = places.Int; args = places.Int ∷ places.Bool ∷ []; clauses = [] }

-- int Calls() { return 100 + M(7, 258); }
abbrev calls : MethodUnit
calls =
    method (codes "Demo.Calc::Calls") places.Int [] (minus_info ∷ []) [] 0 []
    ((2, ops.Const (pos 100)) ∷ (1, ops.Const (pos 7)) ∷ (5, ops.Const (pos 258)) ∷ (5, ops.Call 100) ∷ (1, ops.Bin operators.Add) ∷ (1, ops.Return) ∷ [])

abbrev world : World
world = record { units = calls ∷ minus ∷ []; callee = (1 ∷ []) ∷ [] ∷ [] }

-- 100 + (7 - 2)
pub last_argument_is_the_top : StepsTo (Step world) (entry_config calls 0 [] []) 10 (Returned (Some (Int (pos 105))))
unfolding unit_call int_wrap
last_argument_is_the_top = steps_to world true (entry_config calls 0 [] []) 10 (Returned (Some (Int (pos 105)))) refl
