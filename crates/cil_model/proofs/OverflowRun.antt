-- A run that overflows: the greatest int32 and 1 are added, and the sum may not wrap.
use Rattle.std.proofs.Common.{true, pos, FitsSigned, List, [], ◌∷◌, codes, refl, w32, arith}
use Rattle.std.proofs.lemmas.Int.{ints}
use Rattle.cil_model.specs.Runs.{Runs, Safe, entry_config}
use Rattle.cil_model.specs.declared.instruction.BinOp.TheVariants as operators
use Rattle.cil_model.specs.declared.instruction.Op.TheVariants as ops
use Rattle.cil_model.specs.declared.machine.Config.TheVariants as configs
use Rattle.cil_model.specs.declared.machine.FaultKind.TheVariants as faults
use Rattle.cil_model.specs.declared.machine.Value.{Value}
use Rattle.cil_model.specs.declared.machine.Value.TheVariants as values
use Rattle.cil_model.specs.declared.place.Place.TheVariants as places
use Rattle.cil_model.specs.declared.unit.Unit.{Unit as MethodUnit}
use Rattle.cil_model.proofs.Laid.{method, alone}
use Rattle.cil_model.proofs.Running.{steps_to}

-- int Ov(int n) { return checked(n + 1); }
abbrev ov : MethodUnit
ov =
    method (codes "Demo.Calc::Ov") places.Int (places.Int ∷ []) [] [] 0 (0x02 ∷ 0x17 ∷ 0xd6 ∷ 0x2a ∷ [])
    ((1, ops.LoadArg 0) ∷ (1, ops.Const (pos 1)) ∷ (1, ops.Bin operators.AddOvf) ∷ (1, ops.Return) ∷ [])

abbrev args : List Value
args = values.Int (pos 2147483647) ∷ []

fits : FitsSigned w32 (pos 2147483647)
fits = omega (arith, ints)

-- The sum overflows at the third instruction.
overflows : Runs (alone ov) 0 args [] 3 (configs.Fault faults.Overflow 0 2)
overflows = record {
  unit = ov;
  unit_is = refl;
  begins = record { heap_is = tt; fit = (fits, tt); required = refl };
  steps = steps_to (alone ov) true (entry_config ov 0 args []) 3 (configs.Fault faults.Overflow 0 2) refl;
}

pub ov_is_not_safe : Safe (alone ov) 0 → ⊥
ov_is_not_safe safe = (safe args [] 3 (configs.Fault faults.Overflow 0 2) overflows).0
