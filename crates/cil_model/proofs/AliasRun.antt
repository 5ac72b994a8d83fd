-- A run in which one array is passed twice: what is stored by the one name is loaded by the other.
use Rattle.std.proofs.Common.{true, pos, FitsSigned, List, [], ◌∷◌, Some, codes, refl, w32, arith, lit<}
use Rattle.std.proofs.lemmas.Int.{ints}
use Rattle.cil_model.specs.Runs.{Runs, entry_config}
use Rattle.cil_model.specs.Values.{Heap, IsHeap}
use Rattle.cil_model.specs.declared.instruction.Op.TheVariants as ops
use Rattle.cil_model.specs.declared.machine.Config.TheVariants as configs
use Rattle.cil_model.specs.declared.machine.Value.{Value}
use Rattle.cil_model.specs.declared.machine.Value.TheVariants as values
use Rattle.cil_model.specs.declared.place.Place.TheVariants as places
use Rattle.cil_model.specs.declared.unit.Unit.{Unit as MethodUnit}
use Rattle.cil_model.proofs.Laid.{method, alone}
use Rattle.cil_model.proofs.Running.{steps_to}

-- int Alias(int[] a, int[] b) { b[0] = 9; return a[0]; }
abbrev alias : MethodUnit
alias =
    method (codes "Demo.Calc::Alias") places.Int (places.Ints ∷ places.Ints ∷ []) [] [] 0
    (0x03 ∷ 0x16 ∷ 0x1f ∷ 0x09 ∷ 0x9e ∷ 0x02 ∷ 0x16 ∷ 0x94 ∷ 0x2a ∷ [])
    ((1, ops.LoadArg 1) ∷ (1, ops.Const (pos 0)) ∷ (2, ops.Const (pos 9)) ∷ (1, ops.StoreElem places.Ints)
    ∷ (1, ops.LoadArg 0) ∷ (1, ops.Const (pos 0)) ∷ (1, ops.LoadElem places.Ints) ∷ (1, ops.Return) ∷ [])

abbrev args : List Value
args = values.Array 0 ∷ values.Array 0 ∷ []

-- [1, 2]
abbrev heap : Heap
heap = record { place = places.Ints; items = pos 1 ∷ pos 2 ∷ [] } ∷ []

one_fits : FitsSigned w32 (pos 1)
one_fits = omega (arith, ints)

two_fits : FitsSigned w32 (pos 2)
two_fits = omega (arith, ints)

heap_is : IsHeap heap
heap_is = (((one_fits, (two_fits, tt)), lit< tt), tt)

pub alias_returns_9 : Runs (alone alias) 0 args heap 8 (configs.Returned (Some (values.Int (pos 9))))
alias_returns_9 = record {
  unit = alias;
  unit_is = refl;
  begins = record { heap_is = heap_is; fit = (refl, (refl, tt)); required = refl };
  steps = steps_to (alone alias) true (entry_config alias 0 args heap) 8 (configs.Returned (Some (values.Int (pos 9)))) refl;
}
