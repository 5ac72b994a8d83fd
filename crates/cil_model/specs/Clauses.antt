-- What the clauses of contracts are worth. There are two heaps: `Old` reads its operand in the one of the
-- method's entry, and all else reads the one of its end. Arguments are those that the method was called with.
use Rattle.std.specs.Prelude.{ℕ, ◌+◌, ℤ, pos, Bool, true, false, not, ◌&&◌, List, [], ◌∷◌, length, filter, Option, Some, None, option_map, Result, Ok, Err, if◌then◌else◌, int_le, unsigned_abs, slice_get}
use Rattle.std.specs.Ordering.{int_eq}
use Rattle.std.specs.Option.{option_and_then}
use Rattle.cil_model.specs.Arithmetic.{operated, operated_one}
use Rattle.cil_model.specs.Comparisons.{comparison_value, comparison_of, is_true}
use Rattle.cil_model.specs.Values.{Heap, same_place}
use Rattle.cil_model.specs.declared.clause.Clause.{Clause}
use Rattle.cil_model.specs.declared.clause.ClauseKind.{ClauseKind}
use Rattle.cil_model.specs.declared.clause.ClauseKind.TheVariants as kinds
use Rattle.cil_model.specs.Terms as terms
use Rattle.cil_model.specs.Terms.{Term}
use Rattle.cil_model.specs.declared.instruction.UnOp.{UnOp}
use Rattle.cil_model.specs.declared.instruction.BinOp.{BinOp}
use Rattle.cil_model.specs.declared.instruction.CmpOp.{CmpOp}
use Rattle.cil_model.specs.declared.machine.ArrayCell.{ArrayCell}
use Rattle.cil_model.specs.declared.machine.FaultKind.{FaultKind}
use Rattle.cil_model.specs.declared.machine.Value.{Value}
use Rattle.cil_model.specs.declared.machine.Value.TheVariants.{Int, Null, Array}
use Rattle.cil_model.specs.declared.place.Place.{Place}

-- What a clause is read over: the arguments at entry, the heap at entry, the heap at the end and the result,
-- where there is one.
pub record Reading : Type 0 where
  pub args : List Value
  pub entry_heap : Heap
  pub heap : Heap
  pub result : Option Value

-- The same with the heap at entry in both.
abbrev pub at_entry : Reading → Reading
at_entry r = record r { heap = r.entry_heap }

abbrev pub faultless : Result ℤ FaultKind → Option Value
faultless (Ok n) = Some (Int n)
faultless (Err kind) = None

abbrev pub arithmetic_value : BinOp → Value → Value → Option Value
arithmetic_value operator (Int a) (Int b) = faultless (operated operator a b)
arithmetic_value operator _ _ = None

abbrev pub binary_by : BinOp → Option CmpOp → Value → Value → Option Value
binary_by operator None a b = arithmetic_value operator a b
binary_by operator (Some op) a b = comparison_value op a b

-- What an operator gives of two values, where it does not fault.
abbrev pub binary_value : BinOp → Value → Value → Option Value
binary_value operator a b = binary_by operator (comparison_of operator) a b

abbrev pub unary_value : UnOp → Value → Option Value
unary_value operator (Int a) = Some (Int (operated_one operator a))
unary_value operator _ = None

-- The length of an array.
abbrev pub length_value : Heap → Value → Option Value
length_value heap (Array a) = option_map (λ cell. Int (pos (length cell.items))) (slice_get heap a)
length_value heap _ = None

-- The item at an index of an array, where the array is of this type and has the item.
abbrev pub item_in : Place → ℤ → ArrayCell → Option Value
item_in place n cell =
    if same_place cell.place place && int_le (pos 0) n then option_map Int (slice_get cell.items (unsigned_abs n)) else None

abbrev pub element_value : Heap → Place → Value → Value → Option Value
element_value heap place (Array a) (Int n) = option_and_then (item_in place n) (slice_get heap a)
element_value heap place _ _ = None

abbrev pub both : Option Value → Option Value → (Value → Value → Option Value) → Option Value
both (Some a) (Some b) f = f a b
both _ _ f = None

abbrev pub chosen : Option Bool → Option Value → Option Value → Option Value
chosen None a b = None
chosen (Some true) a b = a
chosen (Some false) a b = b

-- The value of a tree: a number, a reference, or none where it faults.
unfoldable pub value_of : Term → Reading → Option Value
value_of (terms.Const n) r = Some (Int n)
value_of (terms.Arg n) r = slice_get r.args n
value_of terms.Null r = Some Null
value_of terms.Result r = r.result
value_of (terms.Len array) r = option_and_then (length_value r.heap) (value_of array r)
value_of (terms.Elem place array index) r = both (value_of array r) (value_of index r) (element_value r.heap place)
value_of (terms.Bin operator a b) r = both (value_of a r) (value_of b r) (binary_value operator)
value_of (terms.Un operator a) r = option_and_then (unary_value operator) (value_of a r)
value_of (terms.Old a) r = value_of a (at_entry r)
value_of (terms.Cond test a b) r = chosen (option_and_then is_true (value_of test r)) (value_of a r) (value_of b r)

-- What makes a clause hold: any number but zero. No value, null and an array do not.
abbrev pub is_number_true : Option Value → Bool
is_number_true (Some (Int n)) = not (int_eq n (pos 0))
is_number_true _ = false

abbrev pub clause_holds : Reading → Clause → Bool
clause_holds r clause = is_number_true (value_of clause.tree r)

abbrev pub is_kind : ClauseKind → ClauseKind → Bool
is_kind kinds.Requires kinds.Requires = true
is_kind kinds.Ensures kinds.Ensures = true
is_kind _ _ = false

-- The clauses of a kind, in order.
abbrev pub clauses_of : ClauseKind → List Clause → List Clause
clauses_of kind clauses = filter (λ clause. is_kind kind clause.kind) clauses

-- The number of the first of some clauses that does not hold, from a number on.
abbrev pub first_false : ℕ → Reading → List Clause → Option ℕ
first_false number r [] = None
first_false number r (clause ∷ clauses) = if clause_holds r clause then first_false (number + 1) r clauses else Some number

-- The first Requires that is not true of arguments over a heap, counted from 1 among the Requires.
abbrev pub false_requires : List Clause → List Value → Heap → Option ℕ
false_requires clauses args heap =
    first_false 1 (record { args = args; entry_heap = heap; heap = heap; result = None }) (clauses_of kinds.Requires clauses)

-- The first Ensures that is not true, counted from 1 among the Ensures.
abbrev pub false_ensures : List Clause → Reading → Option ℕ
false_ensures clauses r = first_false 1 r (clauses_of kinds.Ensures clauses)
