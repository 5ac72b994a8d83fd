-- Answers to runs that are computed.
use Rattle.std.proofs.Common.{◌≡◌, ℕ, pos, [], ◌∷◌, codes, refl}
use Rattle.std.specs.Fmt.{digits}
use Rattle.std.specs.Int.{int_wrap}
use Rattle.cc_base.specs.Digits.{hex}
use Rattle.cil_model.specs.Clauses.{value_of}
use Rattle.cil_model.specs.Terms as terms
use Rattle.cil_model.specs.UnitCalls.{unit_call}
use Rattle.cil_model.specs.declared.clause.Clause.{Clause}
use Rattle.cil_model.specs.declared.clause.ClauseKind.TheVariants as kinds
use Rattle.cil_model.specs.declared.instruction.BinOp.TheVariants as operators
use Rattle.cil_model.specs.declared.instruction.Op.TheVariants as ops
use Rattle.cil_model.specs.declared.machine.FaultKind.TheVariants as faults
use Rattle.cil_model.specs.declared.machine.World.{World}
use Rattle.cil_model.specs.declared.place.Place.{Place}
use Rattle.cil_model.specs.declared.place.Place.TheVariants as places
use Rattle.cil_model.specs.declared.unit.CalleeInfo.{CalleeInfo}
use Rattle.cil_model.specs.declared.unit.Unit.{Unit as MethodUnit}
use Rattle.cil_model.proofs.Laid.{method, alone}
use Rattle.cil_eval.specs.Outcome.{last_state, outcome}
use Rattle.cil_eval.specs.declared.start_refusal.StartRefusal.TheVariants as refusals
use Rattle.cil_eval.specs.declared.stop.Stop.TheVariants as stops
use Rattle.il_decoder.specs.Labels.{label}
use Rattle.run_arguments.specs.Arguments.{argument_of}
use Rattle.run_arguments.specs.Numbers.{int_of_word}
use Rattle.answer_lines.specs.Signatures.{signature_text}
use Rattle.method_run.specs.EndTexts.{end_text}
use Rattle.method_run.specs.RunAnswers.{refusal_answer, run_answer, run_limits}
use Rattle.method_run.specs.declared.answer.RunAnswer.TheVariants.{Line, Misfit}

-- ---- numbers

-- int Ov(int n) { return checked(n + 1); }
abbrev ov : MethodUnit
ov =
    method (codes "Demo.Calc::Ov") places.Int (places.Int ∷ []) [] [] 0 (0x02 ∷ 0x17 ∷ 0xd6 ∷ 0x2a ∷ [])
    ((1, ops.LoadArg 0) ∷ (1, ops.Const (pos 1)) ∷ (1, ops.Bin operators.AddOvf) ∷ (1, ops.Return) ∷ [])

returned_6 : run_answer (alone ov) (codes "5" ∷ []) 1000 ≡ Line 0 (codes "returned 6\n")
unfolding digits argument_of int_of_word run_answer outcome last_state int_wrap
returned_6 = refl

overflow : run_answer (alone ov) (codes "2147483647" ∷ []) 4 ≡ Line 8 (codes "fault overflow at IL_0002 in Demo.Calc::Ov(int32)\n")
unfolding digits argument_of int_of_word run_answer outcome last_state int_wrap label hex signature_text
overflow = refl

-- The number is the limit, as it was given.
three_steps : run_answer (alone ov) (codes "-7" ∷ []) 3 ≡ Line 9 (codes "stopped: steps 3\n")
unfolding digits argument_of int_of_word run_answer outcome last_state int_wrap
three_steps = refl

no_bool : run_answer (alone ov) (codes "true" ∷ []) 1000 ≡ Misfit (codes "arguments")
unfolding digits argument_of int_of_word run_answer
no_bool = refl

one_word_more : run_answer (alone ov) (codes "5" ∷ codes "null" ∷ []) 1000 ≡ Misfit (codes "arguments")
unfolding digits argument_of int_of_word run_answer
one_word_more = refl

-- ---- bools

-- A method that returns its argument.
abbrev given_back : Place → Place → MethodUnit
given_back result place = method (codes "Demo.Calc::Id") result (place ∷ []) [] [] 0 (0x02 ∷ 0x2a ∷ []) ((1, ops.LoadArg 0) ∷ (1, ops.Return) ∷ [])

returned_true : run_answer (alone (given_back places.Bool places.Bool)) (codes "true" ∷ []) 2 ≡ Line 0 (codes "returned true\n")
unfolding digits argument_of int_of_word run_answer outcome last_state
returned_true = refl

returned_false : run_answer (alone (given_back places.Bool places.Int)) (codes "256" ∷ []) 2 ≡ Line 0 (codes "returned false\n")
unfolding digits argument_of int_of_word run_answer outcome last_state
returned_false = refl

-- A bool may be another number than 0 and 1.
returned_2 : run_answer (alone (given_back places.Bool places.Int)) (codes "2" ∷ []) 2 ≡ Line 0 (codes "returned 2\n")
unfolding digits argument_of int_of_word run_answer outcome last_state
returned_2 = refl

returned_1 : run_answer (alone (given_back places.Int places.Bool)) (codes "true" ∷ []) 2 ≡ Line 0 (codes "returned 1\n")
unfolding digits argument_of int_of_word run_answer outcome last_state
returned_1 = refl

-- ---- arrays

returned_ints : run_answer (alone (given_back places.Ints places.Ints)) (codes "[1,-2,0]" ∷ []) 2 ≡ Line 0 (codes "returned [1,-2,0]\n")
unfolding digits argument_of int_of_word run_answer outcome last_state
returned_ints = refl

returned_null : run_answer (alone (given_back places.Bools places.Bools)) (codes "null" ∷ []) 2 ≡ Line 0 (codes "returned null\n")
unfolding digits argument_of int_of_word run_answer outcome last_state
returned_null = refl

returned_none : run_answer (alone (given_back places.Bools places.Bools)) (codes "[]" ∷ []) 2 ≡ Line 0 (codes "returned []\n")
unfolding digits argument_of int_of_word run_answer outcome last_state
returned_none = refl

-- bool[] Set(bool[] a) { a[0] = 2; return a; }, as the runtime has it.
abbrev stores_2 : MethodUnit
stores_2 =
    method (codes "Demo.Calc::Set") places.Bools (places.Bools ∷ []) [] [] 0 (0x02 ∷ 0x16 ∷ 0x18 ∷ 0x9c ∷ 0x02 ∷ 0x2a ∷ [])
    ((1, ops.LoadArg 0) ∷ (1, ops.Const (pos 0)) ∷ (1, ops.Const (pos 2)) ∷ (1, ops.StoreElem places.Bools) ∷ (1, ops.LoadArg 0) ∷ (1, ops.Return) ∷ [])

-- The items are those of the end.
returned_bools : run_answer (alone stores_2) (codes "[false,true,false]" ∷ []) 9 ≡ Line 0 (codes "returned [2,true,false]\n")
unfolding digits argument_of int_of_word run_answer outcome last_state int_wrap
returned_bools = refl

null_used : run_answer (alone stores_2) (codes "null" ∷ []) 9 ≡ Line 8 (codes "fault null at IL_0003 in Demo.Calc::Set(bool[])\n")
unfolding digits argument_of int_of_word run_answer outcome last_state int_wrap label hex signature_text
null_used = refl

-- ---- addresses

-- int AddTo(int[] a, int i, int x) { a[i] += x; return a[i]; }
abbrev add_to : MethodUnit
add_to =
    method (codes "Demo.Calc::AddTo") places.Int (places.Ints ∷ places.Int ∷ places.Int ∷ []) [] [] 0
    (0x02 ∷ 0x03 ∷ 0x8f ∷ 0x02 ∷ 0x00 ∷ 0x00 ∷ 0x00 ∷ 0x25 ∷ 0x4a ∷ 0x04 ∷ 0x58 ∷ 0x54 ∷ 0x02 ∷ 0x03 ∷ 0x94 ∷ 0x2a ∷ [])
    ((1, ops.LoadArg 0) ∷ (1, ops.LoadArg 1) ∷ (5, ops.LoadAddr 2) ∷ (1, ops.Dup) ∷ (1, ops.LoadInd places.Ints) ∷ (1, ops.LoadArg 2)
    ∷ (1, ops.Bin operators.Add) ∷ (1, ops.StoreInd places.Ints)
    ∷ (1, ops.LoadArg 0) ∷ (1, ops.LoadArg 1) ∷ (1, ops.LoadElem places.Ints) ∷ (1, ops.Return) ∷ [])

returned_sum : run_answer (alone add_to) (codes "[5,7]" ∷ codes "1" ∷ codes "3" ∷ []) 12 ≡ Line 0 (codes "returned 10\n")
unfolding digits argument_of int_of_word run_answer outcome last_state int_wrap
returned_sum = refl

-- Null comes before the index.
address_in_null : run_answer (alone add_to) (codes "null" ∷ codes "-1" ∷ codes "3" ∷ []) 9 ≡ Line 8 (codes "fault null at IL_0002 in Demo.Calc::AddTo(int32[],int32,int32)\n")
unfolding digits argument_of int_of_word run_answer outcome last_state int_wrap label hex signature_text
address_in_null = refl

address_below : run_answer (alone add_to) (codes "[5,7]" ∷ codes "-1" ∷ codes "3" ∷ []) 9 ≡ Line 8 (codes "fault lower bound at IL_0002 in Demo.Calc::AddTo(int32[],int32,int32)\n")
unfolding digits argument_of int_of_word run_answer outcome last_state int_wrap label hex signature_text
address_below = refl

address_beyond : run_answer (alone add_to) (codes "[5,7]" ∷ codes "2" ∷ codes "3" ∷ []) 9 ≡ Line 8 (codes "fault upper bound at IL_0002 in Demo.Calc::AddTo(int32[],int32,int32)\n")
unfolding digits argument_of int_of_word run_answer outcome last_state int_wrap label hex signature_text
address_beyond = refl

-- bool[] Toggle(bool[] a) { a[0] ^= true; return a; }, as the runtime has it.
abbrev toggles : MethodUnit
toggles =
    method (codes "Demo.Calc::Toggle") places.Bools (places.Bools ∷ []) [] [] 0
    (0x02 ∷ 0x16 ∷ 0x8f ∷ 0x01 ∷ 0x00 ∷ 0x00 ∷ 0x00 ∷ 0x25 ∷ 0x47 ∷ 0x17 ∷ 0x61 ∷ 0x52 ∷ 0x02 ∷ 0x2a ∷ [])
    ((1, ops.LoadArg 0) ∷ (1, ops.Const (pos 0)) ∷ (5, ops.LoadAddr 1) ∷ (1, ops.Dup) ∷ (1, ops.LoadInd places.Bools) ∷ (1, ops.Const (pos 1))
    ∷ (1, ops.Bin operators.Xor) ∷ (1, ops.StoreInd places.Bools) ∷ (1, ops.LoadArg 0) ∷ (1, ops.Return) ∷ [])

returned_toggled : run_answer (alone toggles) (codes "[false,true]" ∷ []) 10 ≡ Line 0 (codes "returned [true,true]\n")
unfolding digits argument_of int_of_word run_answer outcome last_state int_wrap
returned_toggled = refl

-- ---- contracts

-- void As(bool b) { Contract.Assume(b); }
abbrev assumes : MethodUnit
assumes =
    method (codes "Demo.Calc::As") places.Void (places.Bool ∷ []) [] [] 0 (0x02 ∷ 0x28 ∷ 0x07 ∷ 0x00 ∷ 0x00 ∷ 0x00 ∷ 0x2a ∷ [])
    ((1, ops.LoadArg 0) ∷ (5, ops.Call 7) ∷ (1, ops.Return) ∷ [])

returned_nothing : run_answer (alone assumes) (codes "true" ∷ []) 9 ≡ Line 0 (codes "returned\n")
unfolding digits argument_of int_of_word run_answer outcome last_state unit_call
returned_nothing = refl

assume_false : run_answer (alone assumes) (codes "false" ∷ []) 9 ≡ Line 10 (codes "assume false at IL_0001 in Demo.Calc::As(bool)\n")
unfolding digits argument_of int_of_word run_answer outcome last_state unit_call label hex signature_text
assume_false = refl

-- n < 5 and n < 3
abbrev below : ℕ → Clause
below n = record { kind = kinds.Requires; tree = terms.Bin operators.Clt (terms.Arg 0) (terms.Const (pos n)) }

abbrev f_info : CalleeInfo
f_info = record { name = codes "A.B::f"; result = places.Void; args = places.Int ∷ []; clauses = below 5 ∷ below 3 ∷ [] }

-- void f(int n) { Contract.Requires(n < 5); Contract.Requires(n < 3); }
abbrev f : MethodUnit
f = method f_info.name f_info.result f_info.args [] f_info.clauses 0 (0x2a ∷ []) ((1, ops.Return) ∷ [])

-- void g(int n, bool[] a) { f(n); }
abbrev g : MethodUnit
g =
    method (codes "A.B::g") places.Void (places.Int ∷ places.Bools ∷ []) (f_info ∷ []) [] 0 (0x02 ∷ 0x28 ∷ 0x64 ∷ 0x00 ∷ 0x00 ∷ 0x00 ∷ 0x2a ∷ [])
    ((1, ops.LoadArg 0) ∷ (5, ops.Call 100) ∷ (1, ops.Return) ∷ [])

-- void h(int n) { g(n, null); }
abbrev h : MethodUnit
h =
    method (codes "A.B::h") places.Void (places.Int ∷ []) (record { name = g.name; result = g.result; args = g.args; clauses = [] } ∷ []) [] 0
    (0x02 ∷ 0x14 ∷ 0x28 ∷ 0x64 ∷ 0x00 ∷ 0x00 ∷ 0x00 ∷ 0x2a ∷ [])
    ((1, ops.LoadArg 0) ∷ (1, ops.Null) ∷ (5, ops.Call 100) ∷ (1, ops.Return) ∷ [])

abbrev calls : World
calls = record { units = h ∷ f ∷ g ∷ []; callee = (2 ∷ []) ∷ [] ∷ (1 ∷ []) ∷ [] }

-- The methods are the one that calls and the one that is called, and not the entry.
requires_2 : run_answer calls (codes "4" ∷ []) 99 ≡ Line 8 (codes "fault requires 2 of A.B::f(int32) at IL_0001 in A.B::g(int32,bool[])\n")
unfolding digits argument_of int_of_word run_answer outcome last_state unit_call value_of int_wrap label hex signature_text
requires_2 = refl

-- Of the entry's own Requires none is a fault.
entry_requires_2 : run_answer (alone f) (codes "4" ∷ []) 99 ≡ Misfit (codes "requires 2")
unfolding digits argument_of int_of_word run_answer value_of
entry_requires_2 = refl

-- ---- what no small run shows

depth : end_text (alone f) (run_limits 5) places.Void [] stops.Depth ≡ codes "stopped: depth 1000"
unfolding digits
depth = refl

cells : end_text (alone f) (run_limits 5) places.Void [] stops.Cells ≡ codes "stopped: cells 16777216"
unfolding digits
cells = refl

given_cells : refusal_answer (run_limits 5) refusals.Cells ≡ Line 9 (codes "stopped: cells 16777216\n")
unfolding digits
given_cells = refl

far_offset : end_text (alone f) (run_limits 5) places.Void [] (stops.Fault faults.Shift 0 65535) ≡ codes "fault shift at IL_ffff in A.B::f(int32)"
unfolding digits label hex signature_text
far_offset = refl
