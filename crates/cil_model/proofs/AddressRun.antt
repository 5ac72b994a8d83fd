-- A run that adds to an item through its address, and finds the sum by another name of the array.
use Rattle.std.proofs.Common.{true, pos, FitsSigned, List, [], ◌∷◌, Some, codes, refl, w32, arith, lit<}
use Rattle.std.specs.Int.{int_wrap}
use Rattle.std.proofs.lemmas.Int.{ints}
use Rattle.cil_model.specs.Runs.{Runs, entry_config}
use Rattle.cil_model.specs.Values.{Heap, IsHeap}
use Rattle.cil_model.specs.declared.instruction.BinOp.TheVariants as operators
use Rattle.cil_model.specs.declared.instruction.Op.TheVariants as ops
use Rattle.cil_model.specs.declared.machine.Config.TheVariants as configs
use Rattle.cil_model.specs.declared.machine.Value.{Value}
use Rattle.cil_model.specs.declared.machine.Value.TheVariants as values
use Rattle.cil_model.specs.declared.place.Place.TheVariants as places
use Rattle.cil_model.specs.declared.unit.Unit.{Unit as MethodUnit}
use Rattle.cil_model.proofs.Laid.{method, alone}
use Rattle.cil_model.proofs.Running.{steps_to}

-- int Adds(int[] a, int[] b) { a[1] += 3; return b[1]; }
abbrev adds : MethodUnit
adds =
    method (codes "Demo.Calc::Adds") places.Int (places.Ints ∷ places.Ints ∷ []) [] [] 0
    (0x02 ∷ 0x17 ∷ 0x8f ∷ 2 ∷ 0 ∷ 0 ∷ 0 ∷ 0x25 ∷ 0x4a ∷ 0x19 ∷ 0x58 ∷ 0x54 ∷ 0x03 ∷ 0x17 ∷ 0x94 ∷ 0x2a ∷ [])
    ((1, ops.LoadArg 0) ∷ (1, ops.Const (pos 1)) ∷ (5, ops.LoadAddr 2) ∷ (1, ops.Dup) ∷ (1, ops.LoadInd places.Ints) ∷ (1, ops.Const (pos 3))
    ∷ (1, ops.Bin operators.Add) ∷ (1, ops.StoreInd places.Ints)
    ∷ (1, ops.LoadArg 1) ∷ (1, ops.Const (pos 1)) ∷ (1, ops.LoadElem places.Ints) ∷ (1, ops.Return) ∷ [])

abbrev args : List Value
args = values.Array 0 ∷ values.Array 0 ∷ []

-- [5, 7]
abbrev heap : Heap
heap = record { place = places.Ints; items = pos 5 ∷ pos 7 ∷ [] } ∷ []

five_fits : FitsSigned w32 (pos 5)
five_fits = omega (arith, ints)

seven_fits : FitsSigned w32 (pos 7)
seven_fits = omega (arith, ints)

heap_is : IsHeap heap
heap_is = (((five_fits, (seven_fits, tt)), lit< tt), tt)

pub adds_returns_10 : Runs (alone adds) 0 args heap 12 (configs.Returned (Some (values.Int (pos 10))))
unfolding int_wrap
adds_returns_10 = record {
  unit = adds;
  unit_is = refl;
  begins = record { heap_is = heap_is; fit = (refl, (refl, tt)); required = refl };
  steps = steps_to (alone adds) true (entry_config adds 0 args heap) 12 (configs.Returned (Some (values.Int (pos 10)))) refl;
}
