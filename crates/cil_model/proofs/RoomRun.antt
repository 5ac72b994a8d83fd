-- Runs of a method that makes an empty array and loads its first item: the array finds no room, or the load is
-- beyond the array's length.
use Rattle.std.proofs.Common.{true, false, pos, [], ◌∷◌, codes, refl}
use Rattle.cil_model.specs.Runs.{Runs, MayBegin, entry_config}
use Rattle.cil_model.specs.declared.instruction.Op.TheVariants as ops
use Rattle.cil_model.specs.declared.machine.Config.TheVariants as configs
use Rattle.cil_model.specs.declared.machine.FaultKind.TheVariants as faults
use Rattle.cil_model.specs.declared.place.Place.TheVariants as places
use Rattle.cil_model.specs.declared.unit.Unit.{Unit as MethodUnit}
use Rattle.cil_model.proofs.Laid.{method, alone}
use Rattle.cil_model.proofs.Running.{steps_to}

-- int E() { return new int[0][0]; }
abbrev e : MethodUnit
e =
    method (codes "Demo.Calc::E") places.Int [] [] [] 0 (0x16 ∷ 0x8d ∷ 0x02 ∷ 0x00 ∷ 0x00 ∷ 0x00 ∷ 0x16 ∷ 0x94 ∷ 0x2a ∷ [])
    ((1, ops.Const (pos 0)) ∷ (5, ops.NewArray 2) ∷ (1, ops.Const (pos 0)) ∷ (1, ops.LoadElem places.Ints) ∷ (1, ops.Return) ∷ [])

begins : MayBegin e [] []
begins = record { heap_is = tt; fit = tt; required = refl }

pub finds_no_room : Runs (alone e) 0 [] [] 2 configs.NoRoom
finds_no_room = record {
  unit = e;
  unit_is = refl;
  begins = begins;
  steps = steps_to (alone e) false (entry_config e 0 [] []) 2 configs.NoRoom refl;
}

pub loads_beyond : Runs (alone e) 0 [] [] 4 (configs.Fault faults.Upper 0 7)
loads_beyond = record {
  unit = e;
  unit_is = refl;
  begins = begins;
  steps = steps_to (alone e) true (entry_config e 0 [] []) 4 (configs.Fault faults.Upper 0 7) refl;
}
