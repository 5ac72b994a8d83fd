-- Values that move: dup and pop, and what places of bool and of int32 give back of 258, whose low eight bits are 2.
use Rattle.std.proofs.Common.{◌≡◌, pos, List, [], ◌∷◌, Some, refl}
use Rattle.cil_model.specs.Clauses.{value_of}
use Rattle.cil_model.specs.Effects.{GoesOn, effects}
use Rattle.cil_model.specs.Terms as terms
use Rattle.cil_model.specs.declared.clause.Clause.{Clause}
use Rattle.cil_model.specs.declared.clause.ClauseKind.TheVariants as kinds
use Rattle.cil_model.specs.declared.instruction.BinOp.TheVariants as operators
use Rattle.cil_model.specs.declared.instruction.Op.{Op}
use Rattle.cil_model.specs.declared.instruction.Op.TheVariants as ops
use Rattle.cil_model.specs.declared.machine.Config.TheVariants.{Returned, Fault}
use Rattle.cil_model.specs.declared.machine.FaultKind.TheVariants as faults
use Rattle.cil_model.specs.declared.machine.Frame.{Frame}
use Rattle.cil_model.specs.declared.machine.Value.{Value}
use Rattle.cil_model.specs.declared.machine.Value.TheVariants.{Int}
use Rattle.cil_model.specs.declared.place.Place.TheVariants as places
use Rattle.cil_model.specs.declared.unit.Unit.{Unit as MethodUnit}
use Rattle.cil_model.proofs.SmallRuns.{Comes, computed, small}

-- ---- dup and pop

abbrev frame : List Value → Frame
frame stack = record { unit = 0; at = 4; stack = stack; locals = []; args = []; entry_args = []; entry_heap = [] }

-- The operation with the first stack goes on after itself with the second.
abbrev Leaves : Op → List Value → List Value → Type 0
Leaves op before after =
    effects (small places.Void [] [] []) (record { at = 4; size = 1; op = op }) (frame before) [] ≡ GoesOn (record (frame after) { at = 5 }) [] ∷ []

dup_doubles_the_top : Leaves ops.Dup (Int (pos 1) ∷ Int (pos 2) ∷ []) (Int (pos 1) ∷ Int (pos 1) ∷ Int (pos 2) ∷ [])
dup_doubles_the_top = refl

pop_drops_the_top : Leaves ops.Pop (Int (pos 1) ∷ Int (pos 2) ∷ []) (Int (pos 2) ∷ [])
pop_drops_the_top = refl

-- ---- places

-- int M(int a, bool b) { b = 258; return b; }
abbrev to_argument : MethodUnit
to_argument =
    small places.Int (places.Int ∷ places.Bool ∷ []) [] ((5, ops.Const (pos 258)) ∷ (2, ops.StoreArg 1) ∷ (1, ops.LoadArg 1) ∷ (1, ops.Return) ∷ [])

bool_argument : Comes to_argument (Int (pos 7) ∷ Int (pos 1) ∷ []) [] 4 (Returned (Some (Int (pos 2))))
bool_argument = computed to_argument (Int (pos 7) ∷ Int (pos 1) ∷ []) [] 4 (Returned (Some (Int (pos 2)))) refl

-- int M(bool b, int a) { a = 258; return a; }
abbrev to_number : MethodUnit
to_number =
    small places.Int (places.Bool ∷ places.Int ∷ []) [] ((5, ops.Const (pos 258)) ∷ (2, ops.StoreArg 1) ∷ (1, ops.LoadArg 1) ∷ (1, ops.Return) ∷ [])

int_argument : Comes to_number (Int (pos 1) ∷ Int (pos 7) ∷ []) [] 4 (Returned (Some (Int (pos 258))))
int_argument = computed to_number (Int (pos 1) ∷ Int (pos 7) ∷ []) [] 4 (Returned (Some (Int (pos 258)))) refl

-- int M() { int a; bool b = 258; return b; }
abbrev to_local : MethodUnit
to_local =
    record (small places.Int [] [] ((5, ops.Const (pos 258)) ∷ (1, ops.StoreLocal 1) ∷ (1, ops.LoadLocal 1) ∷ (1, ops.Return) ∷ [])) { locals = places.Int ∷ places.Bool ∷ [] }

bool_local : Comes to_local [] [] 4 (Returned (Some (Int (pos 2))))
bool_local = computed to_local [] [] 4 (Returned (Some (Int (pos 2)))) refl

-- int M() { bool[] a = new bool[2]; a[1] = 258; return a[1]; }
abbrev to_item : MethodUnit
to_item =
    small places.Int [] []
    ((1, ops.Const (pos 2)) ∷ (5, ops.NewArray 1) ∷ (1, ops.Dup) ∷ (1, ops.Const (pos 1)) ∷ (5, ops.Const (pos 258)) ∷ (1, ops.StoreElem places.Bools)
    ∷ (1, ops.Const (pos 1)) ∷ (1, ops.LoadElem places.Bools) ∷ (1, ops.Return) ∷ [])

bool_item : Comes to_item [] [] 9 (Returned (Some (Int (pos 2))))
bool_item = computed to_item [] [] 9 (Returned (Some (Int (pos 2)))) refl

-- bool M() { return 258; }
abbrev to_result : MethodUnit
to_result = small places.Bool [] [] ((5, ops.Const (pos 258)) ∷ (1, ops.Return) ∷ [])

bool_result : Comes to_result [] [] 2 (Returned (Some (Int (pos 2))))
bool_result = computed to_result [] [] 2 (Returned (Some (Int (pos 2)))) refl

-- ---- parameters in clauses

-- Result == n
abbrev same : Clause
same = record { kind = kinds.Ensures; tree = terms.Bin operators.Ceq terms.Result (terms.Arg 0) }

-- int M(int n) with this Ensures { n = 9; return n; }
abbrev stores_first : MethodUnit
stores_first =
    small places.Int (places.Int ∷ []) (same ∷ []) ((2, ops.Const (pos 9)) ∷ (2, ops.StoreArg 0) ∷ (1, ops.LoadArg 0) ∷ (1, ops.Return) ∷ [])

-- In the clause n is 5, as at entry.
result_is_not_n : Comes stores_first (Int (pos 5) ∷ []) [] 4 (Fault (faults.Ensures 1) 0 5)
unfolding value_of
result_is_not_n = computed stores_first (Int (pos 5) ∷ []) [] 4 (Fault (faults.Ensures 1) 0 5) refl

-- int M(int n) with this Ensures { int r = n; n = 9; return r; }
abbrev loads_first : MethodUnit
loads_first =
    small places.Int (places.Int ∷ []) (same ∷ []) ((1, ops.LoadArg 0) ∷ (2, ops.Const (pos 9)) ∷ (2, ops.StoreArg 0) ∷ (1, ops.Return) ∷ [])

result_is_n : Comes loads_first (Int (pos 5) ∷ []) [] 4 (Returned (Some (Int (pos 5))))
unfolding value_of
result_is_n = computed loads_first (Int (pos 5) ∷ []) [] 4 (Returned (Some (Int (pos 5)))) refl
