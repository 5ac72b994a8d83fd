-- A run that returns what its Ensures denies: an old value is read in the heap at entry.
use Rattle.std.proofs.Common.{true, pos, FitsSigned, List, [], ◌∷◌, codes, refl, w32, arith, lit<}
use Rattle.std.proofs.lemmas.Int.{ints}
use Rattle.std.specs.Int.{int_wrap}
use Rattle.cil_model.specs.Clauses.{value_of}
use Rattle.cil_model.specs.Runs.{Runs, entry_config}
use Rattle.cil_model.specs.Terms as terms
use Rattle.cil_model.specs.Terms.{Term}
use Rattle.cil_model.specs.Values.{Heap, IsHeap}
use Rattle.cil_model.specs.declared.clause.Clause.{Clause}
use Rattle.cil_model.specs.declared.clause.ClauseKind.TheVariants as kinds
use Rattle.cil_model.specs.declared.instruction.BinOp.TheVariants as operators
use Rattle.cil_model.specs.declared.instruction.Op.TheVariants as ops
use Rattle.cil_model.specs.declared.machine.Config.TheVariants as configs
use Rattle.cil_model.specs.declared.machine.FaultKind.TheVariants as faults
use Rattle.cil_model.specs.declared.machine.Value.{Value}
use Rattle.cil_model.specs.declared.machine.Value.TheVariants as values
use Rattle.cil_model.specs.declared.place.Place.TheVariants as places
use Rattle.cil_model.specs.declared.unit.Unit.{Unit as MethodUnit}
use Rattle.cil_model.proofs.Laid.{method, alone}
use Rattle.cil_model.proofs.Running.{steps_to}

-- a[0]
abbrev first_item : Term
first_item = terms.Elem places.Ints (terms.Arg 0) (terms.Const (pos 0))

-- a != null, a.Length > 0, and a[0] == OldValue(a[0])
abbrev clauses : List Clause
clauses =
    record { kind = kinds.Requires; tree = terms.Bin operators.CgtUn (terms.Arg 0) terms.Null }
    ∷ record { kind = kinds.Requires; tree = terms.Bin operators.Cgt (terms.Len (terms.Arg 0)) (terms.Const (pos 0)) }
    ∷ record { kind = kinds.Ensures; tree = terms.Bin operators.Ceq first_item (terms.Old first_item) } ∷ []

-- void Inc(int[] a) with these clauses { a[0] = a[0] + 1; }
abbrev inc : MethodUnit
inc =
    method (codes "Demo.Calc::Inc") places.Void (places.Ints ∷ []) [] clauses 38
    (0x02 ∷ 0x14 ∷ 0xfe ∷ 0x03 ∷ 0x28 ∷ 0x01 ∷ 0x00 ∷ 0x00 ∷ 0x00 ∷ 0x02 ∷ 0x8e ∷ 0x69 ∷ 0x16 ∷ 0xfe ∷ 0x02 ∷ 0x28 ∷ 0x01 ∷ 0x00 ∷ 0x00 ∷ 0x00
    ∷ 0x02 ∷ 0x16 ∷ 0x94 ∷ 0x02 ∷ 0x16 ∷ 0x94 ∷ 0x28 ∷ 0x16 ∷ 0x00 ∷ 0x00 ∷ 0x00 ∷ 0xfe ∷ 0x01 ∷ 0x28 ∷ 0x03 ∷ 0x00 ∷ 0x00 ∷ 0x00
    ∷ 0x02 ∷ 0x16 ∷ 0x02 ∷ 0x16 ∷ 0x94 ∷ 0x17 ∷ 0x58 ∷ 0x9e ∷ 0x2a ∷ [])
    ((1, ops.LoadArg 0) ∷ (1, ops.Null) ∷ (2, ops.Bin operators.CgtUn) ∷ (5, ops.Call 1)
    ∷ (1, ops.LoadArg 0) ∷ (1, ops.Length) ∷ (1, ops.ConvI4) ∷ (1, ops.Const (pos 0)) ∷ (2, ops.Bin operators.Cgt) ∷ (5, ops.Call 1)
    ∷ (1, ops.LoadArg 0) ∷ (1, ops.Const (pos 0)) ∷ (1, ops.LoadElem places.Ints) ∷ (1, ops.LoadArg 0) ∷ (1, ops.Const (pos 0)) ∷ (1, ops.LoadElem places.Ints)
    ∷ (5, ops.Call 22) ∷ (2, ops.Bin operators.Ceq) ∷ (5, ops.Call 3)
    ∷ (1, ops.LoadArg 0) ∷ (1, ops.Const (pos 0)) ∷ (1, ops.LoadArg 0) ∷ (1, ops.Const (pos 0)) ∷ (1, ops.LoadElem places.Ints) ∷ (1, ops.Const (pos 1))
    ∷ (1, ops.Bin operators.Add) ∷ (1, ops.StoreElem places.Ints) ∷ (1, ops.Return) ∷ [])

abbrev args : List Value
args = values.Array 0 ∷ []

-- [5]
abbrev heap : Heap
heap = record { place = places.Ints; items = pos 5 ∷ [] } ∷ []

five_fits : FitsSigned w32 (pos 5)
five_fits = omega (arith, ints)

heap_is : IsHeap heap
heap_is = (((five_fits, tt), lit< tt), tt)

pub inc_breaks_its_ensures : Runs (alone inc) 0 args heap 9 (configs.Fault (faults.Ensures 1) 0 46)
unfolding value_of int_wrap
inc_breaks_its_ensures = record {
  unit = inc;
  unit_is = refl;
  begins = record { heap_is = heap_is; fit = (refl, tt); required = refl };
  steps = steps_to (alone inc) true (entry_config inc 0 args heap) 9 (configs.Fault (faults.Ensures 1) 0 46) refl;
}
