-- Small units with their blocks and edges, and runs along them: a constant that is tested, an array that may be null,
-- and a call of a method.
use Rattle.std.proofs.Common.{◌≡◌, ℕ, ℤ, pos, FitsSigned, w32, List, [], ◌∷◌, Some, refl, inl, inr, codes, arith}
use Rattle.std.specs.List.{AllByRecursion}
use Rattle.std.proofs.lemmas.Int.{ints}
use Rattle.cil_model.specs.UnitCalls.{unit_call}
use Rattle.cil_model.specs.Values.{FitPlaces, Heap, IsByte, IsValue}
use Rattle.cil_model.specs.declared.instruction.CmpOp.TheVariants as comparisons
use Rattle.cil_model.specs.declared.instruction.Instr.{Instr}
use Rattle.cil_model.specs.declared.instruction.Op.{Op}
use Rattle.cil_model.specs.declared.instruction.Op.TheVariants as ops
use Rattle.cil_model.specs.declared.instruction.Test.TheVariants as tests
use Rattle.cil_model.specs.declared.machine.Value.{Value}
use Rattle.cil_model.specs.declared.machine.Value.TheVariants as values
use Rattle.cil_model.specs.declared.place.Kind.TheVariants.{Int, Ints}
use Rattle.cil_model.specs.declared.place.Place.TheVariants as places
use Rattle.cil_model.specs.declared.unit.CalleeInfo.{CalleeInfo}
use Rattle.cil_model.specs.declared.unit.Unit.{Unit as MethodUnit}
use Rattle.cil_model.proofs.Laid.{method}
use Rattle.flow_graph.specs.GraphOf.{graph_of}
use Rattle.machine_points.specs.Points.{IsPointOf}
use Rattle.machine_points.specs.declared.point.Point.{Point}
use Rattle.unit_flow.specs.Flow.{GoesAlong, Steps, block_instrs, edge_at, kinds_at}
use Rattle.unit_flow.specs.FlowOf.{flow_of, kinds_of}
use Rattle.unit_flow.specs.Ways.{way_of}
use Rattle.unit_flow.specs.declared.unit_flow.UnitFlow.{UnitFlow}

abbrev instr : ℕ → ℕ → Op → Instr
instr at size op = record { at = at; size = size; op = op }

-- A point of a method without locals, with this argument.
abbrev at_offset : ℕ → List Value → Value → Heap → Point
at_offset at stack arg heap = record {
  frame = record {
    unit = 0;
    at = at;
    stack = stack;
    locals = [];
    args = arg ∷ [];
    entry_args = arg ∷ [];
    entry_heap = heap;
  };
  heap = heap;
}

-- It is a point of the unit, where its argument and its stack fit.
stands : (unit : MethodUnit) (at : ℕ) (stack : List Value) (arg : Value) → FitPlaces [] unit.args (arg ∷ [])
    → FitPlaces [] unit.locals [] → AllByRecursion (IsValue []) stack → IsPointOf unit (at_offset at stack arg [])
stands unit at stack arg fits none values = record {
  heap = tt;
  frame = record {
    args = fits;
    locals = none;
    stack = values;
    entry_heap_is = tt;
    entry_args = fits;
    kept = tt;
  };
}

-- ---- a constant that is tested

-- 1 goes to 4, where the constant is not 0, and else on to 3.
abbrev tested : MethodUnit
tested =
    method [] places.Void (places.Bool ∷ []) [] [] 0 []
    ((1, ops.Const (pos 1)) ∷ (2, ops.Branch tests.True 4) ∷ (1, ops.Return) ∷ (1, ops.Return) ∷ [])

abbrev tested_code : UnitFlow
tested_code =
    record { unit = tested; graph = graph_of tested; kinds = Some [] ∷ Some (Int ∷ []) ∷ Some [] ∷ Some [] ∷ [] }

-- the passes bring these kinds
kinds_found : flow_of tested ≡ tested_code
unfolding kinds_of
kinds_found = refl

first_block : block_instrs tested_code 0 ≡ instr 0 1 (ops.Const (pos 1)) ∷ instr 1 2 (ops.Branch tests.True 4) ∷ []
first_block = refl

last_block : block_instrs tested_code 2 ≡ instr 4 1 ops.Return ∷ []
last_block = refl

-- the branch to its target comes before the edge to the next instruction
target_first : (edge_at tested_code 0).to ≡ 2
target_first = refl

one_byte : IsByte (pos 1)
one_byte = (omega (arith, ints), omega (arith, ints))

goes_to_target : GoesAlong tested_code 0 (at_offset 0 [] (values.Int (pos 1)) [])
    (at_offset 4 [] (values.Int (pos 1)) [])
goes_to_target = (
  at_offset 1 (values.Int (pos 1) ∷ []) (values.Int (pos 1)) [],
  record {
    of = stands tested 0 [] (values.Int (pos 1)) (one_byte, tt) tt tt;
    to = refl;
    goes = (instr 0 1 (ops.Const (pos 1)), refl, (_, inl refl, refl));
  },
  (
    record {
      of = stands tested 1 (values.Int (pos 1) ∷ []) (values.Int (pos 1)) (one_byte, tt) tt (omega (arith, ints), tt);
      to = refl;
      goes = (instr 1 2 (ops.Branch tests.True 4), refl, (_, inl refl, refl));
    },
    refl,
  ),
)

-- ---- an array that may be null

-- 1 goes to 4, where the array is not null, and else on to 3.
abbrev given : MethodUnit
given =
    method [] places.Void (places.Ints ∷ []) [] [] 0 []
    ((1, ops.LoadArg 0) ∷ (2, ops.Branch tests.True 4) ∷ (1, ops.Return) ∷ (1, ops.Return) ∷ [])

abbrev given_code : UnitFlow
given_code =
    record { unit = given; graph = graph_of given; kinds = Some [] ∷ Some (Ints ∷ []) ∷ Some [] ∷ Some [] ∷ [] }

array_kinds : flow_of given ≡ given_code
unfolding kinds_of
array_kinds = refl

nothing_at_target : kinds_at given_code 2 ≡ Some []
nothing_at_target = refl

-- null goes on to the next instruction
null_goes_on : GoesAlong given_code 1 (at_offset 0 [] values.Null []) (at_offset 3 [] values.Null [])
null_goes_on = (
  at_offset 1 (values.Null ∷ []) values.Null [],
  record {
    of = stands given 0 [] values.Null (tt, tt) tt tt;
    to = refl;
    goes = (instr 0 1 (ops.LoadArg 0), refl, (_, inl refl, refl));
  },
  (
    record {
      of = stands given 1 (values.Null ∷ []) values.Null (tt, tt) tt (tt, tt);
      to = refl;
      goes = (instr 1 2 (ops.Branch tests.True 4), refl, (_, inl refl, refl));
    },
    refl,
  ),
)

-- an array goes to the target, and is equal to itself alone
array_way : way_of (ops.Branch tests.True 4) (values.Array 0 ∷ []) ≡ 0
array_way = refl

same_way : way_of (ops.Branch (tests.Cmp comparisons.Eq) 4) (values.Array 3 ∷ values.Array 3 ∷ []) ≡ 0
same_way = refl

other_way : way_of (ops.Branch (tests.Cmp comparisons.Eq) 4) (values.Null ∷ values.Array 3 ∷ []) ≡ 1
other_way = refl

-- a length is compared as a number
length_way : way_of (ops.Branch (tests.Cmp comparisons.Lt) 4) (values.Native 5 ∷ values.Int (pos 4) ∷ []) ≡ 0
length_way = refl

-- the last way of a switch is the one after it
behind_switch : way_of (ops.Switch (7 ∷ 9 ∷ [])) (values.Int (pos 5) ∷ []) ≡ 2
behind_switch = refl

-- ---- a call of a method

-- int F(), of which nothing is said.
abbrev callee : CalleeInfo
callee = record { name = codes "Demo.Calc::F"; result = places.Int; args = []; clauses = [] }

abbrev calling : MethodUnit
calling = method [] places.Int (places.Bool ∷ []) (callee ∷ []) [] 0 [] ((5, ops.Call 100) ∷ (1, ops.Return) ∷ [])

call_is_in_block : block_instrs (flow_of calling) 0 ≡ instr 0 5 (ops.Call 100) ∷ instr 5 1 ops.Return ∷ []
call_is_in_block = refl

-- it may give any int32
any_is_given : (n : ℤ) → FitsSigned w32 n
    → Steps calling (instr 0 5 (ops.Call 100)) (at_offset 0 [] (values.Int (pos 1)) [])
    (at_offset 5 (values.Int n ∷ []) (values.Int (pos 1)) [])
unfolding unit_call
any_is_given n fits = record {
  of = stands calling 0 [] (values.Int (pos 1)) (one_byte, tt) tt tt;
  to = refl;
  goes = (
    instr 0 5 (ops.Call 100),
    refl,
    record {
      callee = callee;
      args = [];
      callee_is = refl;
      args_are = refl;
      freely = inr (
        [],
        Some (values.Int n),
        record {
          heap_is = tt;
          keeps = record {
            forms = tt;
            items = λ a below apart. refl;
          };
          fits = fits;
          passed_or_new = tt;
          ensured = refl;
        },
        refl,
      );
    },
  );
}
