-- The ends of runs that are computed.
use Rattle.std.proofs.Common.{◌≡◌, ℕ, pos, negsuc, List, [], ◌∷◌, Option, Some, codes, refl}
use Rattle.std.specs.Int.{int_wrap}
use Rattle.cil_model.specs.Clauses.{value_of}
use Rattle.cil_model.specs.UnitCalls.{unit_call}
use Rattle.cil_model.specs.Values.{Heap}
use Rattle.cil_model.specs.declared.instruction.BinOp.TheVariants as operators
use Rattle.cil_model.specs.declared.instruction.Op.TheVariants as ops
use Rattle.cil_model.specs.declared.machine.FaultKind.TheVariants as faults
use Rattle.cil_model.specs.declared.machine.Value.{Value}
use Rattle.cil_model.specs.declared.machine.Value.TheVariants as values
use Rattle.cil_model.specs.declared.machine.World.{World}
use Rattle.cil_model.specs.declared.place.Place.TheVariants as places
use Rattle.cil_model.specs.declared.unit.Unit.{Unit as MethodUnit}
use Rattle.cil_model.proofs.Laid.{method, alone}
use Rattle.cil_model.proofs.SumUnit.{sum, calls, world}
use Rattle.cil_eval.specs.Outcome.{last_state, outcome, entry_state}
use Rattle.cil_eval.specs.declared.limits.Limits.{Limits}
use Rattle.cil_eval.specs.declared.stop.Stop.{Stop}
use Rattle.cil_eval.specs.declared.stop.Stop.TheVariants as stops

abbrev wide : Limits
wide = record { steps = 1000; cells = 100; depth = 10 }

abbrev ends : World → Limits → MethodUnit → List Value → Heap → Option Stop
ends w limits unit args heap = outcome w limits limits.steps (entry_state unit 0 args heap)

-- int Ov(int n) { return checked(n + 1); }
abbrev ov : MethodUnit
ov =
    method (codes "Demo.Calc::Ov") places.Int (places.Int ∷ []) [] [] 0 (0x02 ∷ 0x17 ∷ 0xd6 ∷ 0x2a ∷ [])
    ((1, ops.LoadArg 0) ∷ (1, ops.Const (pos 1)) ∷ (1, ops.Bin operators.AddOvf) ∷ (1, ops.Return) ∷ [])

ov_overflows : ends (alone ov) wide ov (values.Int (pos 2147483647) ∷ []) [] ≡ Some (stops.Fault faults.Overflow 0 2)
unfolding outcome int_wrap
ov_overflows = refl

-- A run that returns with its last step returns, and one step less does not.
ov_returns : ends (alone ov) (record { steps = 4; cells = 0; depth = 1 }) ov (values.Int (pos 5) ∷ []) [] ≡ Some (stops.Returned (Some (values.Int (pos 6))))
unfolding outcome int_wrap
ov_returns = refl

ov_lacks_a_step : ends (alone ov) (record { steps = 3; cells = 0; depth = 1 }) ov (values.Int (pos 5) ∷ []) [] ≡ Some stops.Steps
unfolding outcome int_wrap
ov_lacks_a_step = refl

-- int Alias(int[] a, int[] b) { b[0] = 9; return a[0]; }
abbrev alias : MethodUnit
alias =
    method (codes "Demo.Calc::Alias") places.Int (places.Ints ∷ places.Ints ∷ []) [] [] 0
    (0x03 ∷ 0x16 ∷ 0x1f ∷ 0x09 ∷ 0x9e ∷ 0x02 ∷ 0x16 ∷ 0x94 ∷ 0x2a ∷ [])
    ((1, ops.LoadArg 1) ∷ (1, ops.Const (pos 0)) ∷ (2, ops.Const (pos 9)) ∷ (1, ops.StoreElem places.Ints)
    ∷ (1, ops.LoadArg 0) ∷ (1, ops.Const (pos 0)) ∷ (1, ops.LoadElem places.Ints) ∷ (1, ops.Return) ∷ [])

alias_returns_9 : ends (alone alias) wide alias (values.Array 0 ∷ values.Array 0 ∷ []) (record { place = places.Ints; items = pos 1 ∷ pos 2 ∷ [] } ∷ [])
    ≡ Some (stops.Returned (Some (values.Int (pos 9))))
unfolding outcome int_wrap
alias_returns_9 = refl

-- At the end the heap has what was stored, and before the store what was given.
abbrev heap_of_alias : ℕ → Heap
heap_of_alias n =
    (last_state (alone alias) wide n (entry_state alias 0 (values.Array 0 ∷ values.Array 0 ∷ []) (record { place = places.Ints; items = pos 1 ∷ pos 2 ∷ [] } ∷ []))).heap

stored_then : heap_of_alias 1000 ≡ record { place = places.Ints; items = pos 9 ∷ pos 2 ∷ [] } ∷ []
unfolding last_state int_wrap
stored_then = refl

given_before : heap_of_alias 3 ≡ record { place = places.Ints; items = pos 1 ∷ pos 2 ∷ [] } ∷ []
unfolding last_state int_wrap
given_before = refl

sum_of_5 : ends world wide sum (values.Int (pos 5) ∷ []) [] ≡ Some (stops.Returned (Some (values.Int (pos 15))))
unfolding outcome unit_call value_of int_wrap
sum_of_5 = refl

-- The frames of 5 to 0 are six.
six_frames : ends world (record { steps = 1000; cells = 0; depth = 6 }) sum (values.Int (pos 5) ∷ []) [] ≡ Some (stops.Returned (Some (values.Int (pos 15))))
unfolding outcome unit_call value_of int_wrap
six_frames = refl

five_frames : ends world (record { steps = 1000; cells = 0; depth = 5 }) sum (values.Int (pos 5) ∷ []) [] ≡ Some stops.Depth
unfolding outcome unit_call value_of int_wrap
five_frames = refl

-- What is required is tested before the depth.
requires_first : outcome world (record { steps = 1000; cells = 0; depth = 1 }) 1000 (entry_state calls 1 [] []) ≡ Some (stops.Fault (faults.Requires 1) 1 1)
unfolding outcome unit_call value_of int_wrap
requires_first = refl

-- int New(int n) { return new int[n].Length; }
abbrev new : MethodUnit
new =
    method (codes "Demo.Calc::New") places.Int (places.Int ∷ []) [] [] 0 (0x02 ∷ 0x8d ∷ 0x02 ∷ 0x00 ∷ 0x00 ∷ 0x00 ∷ 0x8e ∷ 0x69 ∷ 0x2a ∷ [])
    ((1, ops.LoadArg 0) ∷ (5, ops.NewArray 2) ∷ (1, ops.Length) ∷ (1, ops.ConvI4) ∷ (1, ops.Return) ∷ [])

-- An array of three items takes four cells, and those of the arguments count.
abbrev with_cells : ℕ → Limits
with_cells cells = record { steps = 1000; cells = cells; depth = 1 }

four_cells : ends (alone new) (with_cells 4) new (values.Int (pos 3) ∷ []) [] ≡ Some (stops.Returned (Some (values.Int (pos 3))))
unfolding outcome int_wrap
four_cells = refl

three_cells : ends (alone new) (with_cells 3) new (values.Int (pos 3) ∷ []) [] ≡ Some stops.Cells
unfolding outcome int_wrap
three_cells = refl

arguments_count : ends (alone new) (with_cells 5) new (values.Int (pos 3) ∷ []) (record { place = places.Ints; items = pos 7 ∷ [] } ∷ []) ≡ Some stops.Cells
unfolding outcome int_wrap
arguments_count = refl

negative_size : ends (alone new) (with_cells 0) new (values.Int (negsuc 0) ∷ []) [] ≡ Some (stops.Fault faults.ArraySize 0 1)
unfolding outcome int_wrap
negative_size = refl
