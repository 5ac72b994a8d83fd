-- A run through six frames, and one that calls with an argument that is not taken.
use Rattle.std.proofs.Common.{true, pos, FitsSigned, List, [], ◌∷◌, Some, refl, w32, arith}
use Rattle.std.proofs.lemmas.Int.{ints}
use Rattle.cil_model.specs.Clauses.{value_of}
use Rattle.cil_model.specs.Runs.{Runs, entry_config}
use Rattle.cil_model.specs.UnitCalls.{unit_call}
use Rattle.cil_model.specs.declared.machine.Config.TheVariants as configs
use Rattle.cil_model.specs.declared.machine.FaultKind.TheVariants as faults
use Rattle.cil_model.specs.declared.machine.Value.{Value}
use Rattle.cil_model.specs.declared.machine.Value.TheVariants as values
use Rattle.cil_model.proofs.Running.{steps_to}
use Rattle.cil_model.proofs.SumUnit.{sum, calls, world}
use Rattle.std.specs.Int.{int_wrap}

abbrev args : List Value
args = values.Int (pos 5) ∷ []

five_fits : FitsSigned w32 (pos 5)
five_fits = omega (arith, ints)

-- Five frames of nine steps, and one of four.
pub sum_of_5_is_15 : Runs world 0 args [] 49 (configs.Returned (Some (values.Int (pos 15))))
unfolding unit_call value_of int_wrap
sum_of_5_is_15 = record {
  unit = sum;
  unit_is = refl;
  begins = record { heap_is = tt; fit = (five_fits, tt); required = refl };
  steps = steps_to world true (entry_config sum 0 args []) 49 (configs.Returned (Some (values.Int (pos 15)))) refl;
}

pub negative_is_refused : Runs world 1 [] [] 2 (configs.Fault (faults.Requires 1) 1 1)
unfolding unit_call value_of
negative_is_refused = record {
  unit = calls;
  unit_is = refl;
  begins = record { heap_is = tt; fit = tt; required = refl };
  steps = steps_to world true (entry_config calls 1 [] []) 2 (configs.Fault (faults.Requires 1) 1 1) refl;
}
