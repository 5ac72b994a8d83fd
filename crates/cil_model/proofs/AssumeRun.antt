-- A run that ends at an assumption that is false.
use Rattle.std.proofs.Common.{true, pos, [], ◌∷◌, List, codes, refl, arith}
use Rattle.std.proofs.lemmas.Int.{ints}
use Rattle.cil_model.specs.Runs.{Runs, entry_config}
use Rattle.cil_model.specs.UnitCalls.{unit_call}
use Rattle.cil_model.specs.Values.{IsByte}
use Rattle.cil_model.specs.declared.instruction.Op.TheVariants as ops
use Rattle.cil_model.specs.declared.machine.Config.TheVariants as configs
use Rattle.cil_model.specs.declared.machine.Value.{Value}
use Rattle.cil_model.specs.declared.machine.Value.TheVariants as values
use Rattle.cil_model.specs.declared.place.Place.TheVariants as places
use Rattle.cil_model.specs.declared.unit.Unit.{Unit as MethodUnit}
use Rattle.cil_model.proofs.Laid.{method, alone}
use Rattle.cil_model.proofs.Running.{steps_to}

-- void As(bool b) { Contract.Assume(b); Contract.Assert(b); }
abbrev assumes : MethodUnit
assumes =
    method (codes "Demo.Calc::As") places.Void (places.Bool ∷ []) [] [] 0
    (0x02 ∷ 0x28 ∷ 0x07 ∷ 0x00 ∷ 0x00 ∷ 0x00 ∷ 0x02 ∷ 0x28 ∷ 0x05 ∷ 0x00 ∷ 0x00 ∷ 0x00 ∷ 0x2a ∷ [])
    ((1, ops.LoadArg 0) ∷ (5, ops.Call 7) ∷ (1, ops.LoadArg 0) ∷ (5, ops.Call 5) ∷ (1, ops.Return) ∷ [])

abbrev args : List Value
args = values.Int (pos 0) ∷ []

zero_fits : IsByte (pos 0)
zero_fits = (omega (arith, ints), omega (arith, ints))

pub assumption_is_false : Runs (alone assumes) 0 args [] 2 (configs.Assumed 0 1)
unfolding unit_call
assumption_is_false = record {
  unit = assumes;
  unit_is = refl;
  begins = record { heap_is = tt; fit = (zero_fits, tt); required = refl };
  steps = steps_to (alone assumes) true (entry_config assumes 0 args []) 2 (configs.Assumed 0 1) refl;
}
