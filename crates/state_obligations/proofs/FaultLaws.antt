-- The machine's operations end in a fault exactly where one of their conditions is not met, and it is that of the
-- first.
use Rattle.std.proofs.Common.{◌≡◌, ◌≢◌, ℕ, ℤ, pos, negsuc, ◌+ℤ◌, ◌-ℤ◌, ◌*ℤ◌, ◌≤ℤ◌, ◌<ℤ◌, true, false, ◌&&◌, int_eq, int_le, int_lt, int_div, int_rem, List, [], ◌∷◌, Option, Some, None, length, inl, inr, refl, sym, ap, subst, ◌∙◌, arith}
use Rattle.std.specs.Prelude.{◌^◌, ◌/◌, ◌%◌, slice_get, Result, Ok, Err, unsigned_abs}
use Rattle.std.specs.Int.{int_shr}
use Rattle.std.specs.Option.{option_map_or}
use Rattle.std.proofs.lemmas.Bool.{and_cases, and_parts, cond_both, false≢true}
use Rattle.std.proofs.lemmas.Bool.Decides.{Decides-int_eq}
use Rattle.std.proofs.lemmas.Int.{ints}
use Rattle.cc_base.specs.Wrap.{wrap32}
use Rattle.cil_model.specs.Arithmetic.{GREATEST, LEAST, divided, divided_unsigned, exact, operated, shifted, signed, unsigned}
use Rattle.cil_model.specs.Comparisons.{number_of, reference_of}
use Rattle.cil_model.specs.Effects.{Effect, Faults, GoesOn, HasEffect, addresses, arithmetic, array_length, at_index, gives, goes_on, item_of, item_value, loads, new_array, of_place, pushes, stores, tests_condition, with_item}
use Rattle.cil_model.specs.Values.{Heap, has_array, same_place}
use Rattle.cil_model.specs.declared.instruction.BinOp.{BinOp}
use Rattle.cil_model.specs.declared.instruction.BinOp.TheVariants as operators
use Rattle.cil_model.specs.declared.instruction.Instr.{Instr}
use Rattle.cil_model.specs.declared.machine.ArrayCell.{ArrayCell}
use Rattle.cil_model.specs.declared.machine.FaultKind.{FaultKind}
use Rattle.cil_model.specs.declared.machine.FaultKind.TheVariants as faults
use Rattle.cil_model.specs.declared.machine.Frame.{Frame}
use Rattle.cil_model.specs.declared.machine.Value.{Value}
use Rattle.cil_model.specs.declared.machine.Value.TheVariants as values
use Rattle.cil_model.specs.declared.place.Place.{Place}
use Rattle.domain_api.specs.declared.expr.Expr.{Expr}
use Rattle.number_facts.specs.Results.{IsExact}
use Rattle.symbolic_values.specs.Worth.{worth}
use Rattle.state_facts.specs.Holds.{FitsArray, length_of_array}
use Rattle.state_obligations.specs.Conditions.{conditions_of, operator_conditions}
use Rattle.state_obligations.specs.Faults.{EffectsFaultWhereUnmet, FaultsWhereUnmet, HasNoFault, IsFirstUnmet}
use Rattle.state_obligations.specs.Meaning.{AreMet}
use Rattle.state_obligations.specs.declared.condition.Condition.{Condition}
use Rattle.state_obligations.specs.declared.condition.Condition.TheVariants as conditions
use Rattle.state_obligations.specs.declared.condition.Operation.TheVariants as operations

-- ---- conditions

-- Not all are met where one is not.
pub unmet_not_met : (fault : FaultKind) (cs : List Condition) (heap : Heap) (number : ℕ → ℤ) (array : ℕ → Option ℕ)
    → IsFirstUnmet fault cs heap number array
    → AreMet cs heap number array → ⊥
unmet_not_met fault [] heap number array unmet met = elim unmet [ ]
unmet_not_met fault (c ∷ cs) heap number array unmet met = elim unmet [
  | inl here ↦ here.0 met.0
  | inr later ↦ unmet_not_met fault cs heap number array later.1 met.1
]

-- ---- operators

le_so : (m n : ℤ) → int_le m n ≡ true → m ≤ℤ n
le_so m n e = omega (arith, ints, e)

not_le : (m n : ℤ) → int_le m n ≡ false → m ≤ℤ n → ⊥
not_le m n e is = omega (arith, ints, e, is)

lt_so : (m n : ℤ) → int_lt m n ≡ true → m <ℤ n
lt_so m n e = omega (arith, ints, e)

not_lt : (m n : ℤ) → int_lt m n ≡ false → m <ℤ n → ⊥
not_lt m n e is = omega (arith, ints, e, is)

eq_so : (m n : ℤ) → int_eq m n ≡ true → m ≡ n
eq_so m n e = (Decides-int_eq m n).0 e

not_eq : (m n : ℤ) → int_eq m n ≡ false → m ≢ n
not_eq m n e is = false≢true (sym e ∙ (Decides-int_eq m n).1 is)

-- a choice that worths are asked of, apart from the operator
division_faults : (a b : Expr) (heap : Heap) (number : ℕ → ℤ) (array : ℕ → Option ℕ) (outcome : ℤ)
    → FaultsWhereUnmet (conditions.DivZero b ∷ conditions.DivOverflow a b ∷ []) heap number array
    (divided (worth number a) (worth number b) outcome)
division_faults a b heap number array outcome =
    let m = worth number a in
    let n = worth number b in
    let cs : List Condition = conditions.DivZero b ∷ conditions.DivOverflow a b ∷ [] in
    cond_both (int_eq n (pos 0)) _ _ (FaultsWhereUnmet cs heap number array)
    (λ e. inl (λ met. met (eq_so n (pos 0) e), refl))
    (λ e. cond_both (int_eq m LEAST && int_eq n (negsuc 0)) _ _ (FaultsWhereUnmet cs heap number array)
    (λ f.
    let parts = and_parts (int_eq m LEAST) _ f in
    inr (not_eq n (pos 0) e, inl (λ met. met (eq_so m LEAST parts.0) (eq_so n (negsuc 0) parts.1), refl)))
    (λ f. (
      not_eq n (pos 0) e,
      (
        (λ is other. elim
            (and_cases (int_eq m LEAST) _ f) [
              | inl one ↦ not_eq m LEAST one is
              | inr two ↦ not_eq n
                  (negsuc 0) two other
            ]),
        tt,
      ),
    )))

unsigned_faults : (b : Expr) (heap : Heap) (number : ℕ → ℤ) (array : ℕ → Option ℕ) (outcome : ℕ)
    → FaultsWhereUnmet (conditions.DivZero b ∷ []) heap number array (divided_unsigned (worth number b) outcome)
unsigned_faults b heap number array outcome =
    cond_both (int_eq (worth number b) (pos 0)) _ _ (FaultsWhereUnmet (conditions.DivZero b ∷ []) heap number array)
    (λ e. inl (λ met. met (eq_so (worth number b) (pos 0) e), refl)) (λ e. (not_eq (worth number b) (pos 0) e, tt))

shift_faults : (b : Expr) (heap : Heap) (number : ℕ → ℤ) (array : ℕ → Option ℕ) (by : ℕ → ℤ)
    → FaultsWhereUnmet (conditions.Shift b ∷ []) heap number array (shifted (worth number b) by)
shift_faults b heap number array by =
    let n = worth number b in
    cond_both (int_le (pos 0) n && int_lt n (pos 32)) _ _ (FaultsWhereUnmet (conditions.Shift b ∷ []) heap number array)
    (λ e. let parts = and_parts (int_le (pos 0) n) _ e in
    ((le_so (pos 0) n parts.0, below n (lt_so n (pos 32) parts.1)), tt))
    (λ e. inl (
      λ met. elim
          (and_cases (int_le (pos 0) n) _ e) [
            | inl low ↦ not_le (pos 0) n low met.0
            | inr high ↦ not_lt n (pos 32) high
                (above n met.1)
          ],
      refl,
    ))
  where
    below : (n : ℤ) → n <ℤ pos 32 → n ≤ℤ pos 31
    below n is = omega (arith, ints, is)

    above : (n : ℤ) → n ≤ℤ pos 31 → n <ℤ pos 32
    above n is = omega (arith, ints, is)

overflow_faults : (op : BinOp) (a b : Expr) (heap : Heap) (number : ℕ → ℤ) (array : ℕ → Option ℕ) (k : ℤ)
    → IsExact op (worth number a) (worth number b) k
    → ((n : ℤ) → IsExact op (worth number a) (worth number b) n → n ≡ k)
    → FaultsWhereUnmet (conditions.Overflow op a b ∷ []) heap number array (exact k)
overflow_faults op a b heap number array k is one =
    cond_both (int_le LEAST k && int_le k GREATEST) _ _
    (FaultsWhereUnmet (conditions.Overflow op a b ∷ []) heap number array)
    (λ e.
    let parts = and_parts (int_le LEAST k) _ e in (
      λ n also. (
        subst (λ (x : ℤ). LEAST ≤ℤ x) (sym (one n also)) (le_so LEAST k parts.0),
        subst (λ (x : ℤ). x ≤ℤ GREATEST)
            (sym (one n also)) (le_so k GREATEST parts.1),
      ),
      tt,
    ))
    (λ e.
    inl (
      λ met. elim
          (and_cases (int_le LEAST k) _ e) [
            | inl low ↦ not_le LEAST k low (met k is).0
            | inr high ↦ not_le k GREATEST high
                (met k is).1
          ],
      refl,
    ))

-- What an operator gives of what two expressions are worth.
pub operator_faults : (op : BinOp) (a b : Expr) (heap : Heap) (number : ℕ → ℤ) (array : ℕ → Option ℕ)
    → FaultsWhereUnmet (operator_conditions op a b) heap number array (operated op (worth number a) (worth number b))
operator_faults operators.Div a b heap number array =
    division_faults a b heap number array (int_div (worth number a) (worth number b))
operator_faults operators.Rem a b heap number array =
    division_faults a b heap number array (int_rem (worth number a) (worth number b))
operator_faults operators.DivUn a b heap number array =
    unsigned_faults b heap number array (unsigned (worth number a) / unsigned (worth number b))
operator_faults operators.RemUn a b heap number array =
    unsigned_faults b heap number array (unsigned (worth number a) % unsigned (worth number b))
operator_faults operators.Shl a b heap number array =
    shift_faults b heap number array (λ n. wrap32 (worth number a *ℤ pos (2 ^ n)))
operator_faults operators.Shr a b heap number array = shift_faults b heap number array (λ n. int_shr (worth number a) n)
operator_faults operators.ShrUn a b heap number array =
    shift_faults b heap number array (λ n. signed (unsigned (worth number a) / 2 ^ n))
operator_faults operators.AddOvf a b heap number array =
    overflow_faults operators.AddOvf a b heap number array (worth number a +ℤ worth number b) refl (λ n is. is)
operator_faults operators.MulOvf a b heap number array =
    overflow_faults operators.MulOvf a b heap number array (worth number a *ℤ worth number b) refl (λ n is. is)
operator_faults operators.SubOvf a b heap number array =
    overflow_faults operators.SubOvf a b heap number array (worth number a -ℤ worth number b) refl (λ n is. is)
operator_faults operators.Add a b heap number array = tt
operator_faults operators.Sub a b heap number array = tt
operator_faults operators.Mul a b heap number array = tt
operator_faults operators.And a b heap number array = tt
operator_faults operators.Or a b heap number array = tt
operator_faults operators.Xor a b heap number array = tt
operator_faults operators.Ceq a b heap number array = tt
operator_faults operators.Cgt a b heap number array = tt
operator_faults operators.CgtUn a b heap number array = tt
operator_faults operators.Clt a b heap number array = tt
operator_faults operators.CltUn a b heap number array = tt

result_where_met : (cs : List Condition) (heap : Heap) (number : ℕ → ℤ) (array : ℕ → Option ℕ) (r : Result ℤ FaultKind)
    → FaultsWhereUnmet cs heap number array r
    → AreMet cs heap number array → (n : ℤ) × (r ≡ Ok n)
result_where_met cs heap number array (Ok n) faults met = (n, refl)
result_where_met cs heap number array (Err fault) faults met =
    absurd (unmet_not_met fault cs heap number array faults met)

-- An operator gives a number where all its conditions are met.
pub operated_where_met : (op : BinOp) (a b : Expr) (heap : Heap) (number : ℕ → ℤ) (array : ℕ → Option ℕ)
    → AreMet (operator_conditions op a b) heap number array
    → (n : ℤ) × (operated op (worth number a) (worth number b) ≡ Ok n)
operated_where_met op a b heap number array met =
    result_where_met (operator_conditions op a b) heap number array (operated op (worth number a) (worth number b))
    (operator_faults op a b heap number array) met

-- Where it gives a number, all are met.
pub met_where_operated : (op : BinOp) (a b : Expr) (heap : Heap) (number : ℕ → ℤ) (array : ℕ → Option ℕ) (n : ℤ)
    → operated op (worth number a) (worth number b) ≡ Ok n → AreMet (operator_conditions op a b) heap number array
met_where_operated op a b heap number array n is =
    subst (FaultsWhereUnmet (operator_conditions op a b) heap number array) is
    (operator_faults op a b heap number array)

-- Where it faults, it is the fault of the first that is not met.
pub unmet_where_faulted : (op : BinOp) (a b : Expr) (heap : Heap) (number : ℕ → ℤ) (array : ℕ → Option ℕ)
    (fault : FaultKind)
    → operated op (worth number a) (worth number b) ≡ Err fault
    → IsFirstUnmet fault (operator_conditions op a b) heap number array
unmet_where_faulted op a b heap number array fault is =
    subst (FaultsWhereUnmet (operator_conditions op a b) heap number array) is
    (operator_faults op a b heap number array)

-- ---- what instructions may do

one_goes_on : (f : Frame) (heap : Heap) → HasNoFault (GoesOn f heap ∷ [])
one_goes_on f heap = λ fault has. elim has [ inl is ↦ absurd cc | inr none ↦ none ]

no_effect : HasNoFault []
no_effect = λ fault has. has

pushes_no_fault : (i : Instr) (f : Frame) (heap : Heap) (rest : List Value) (o : Option Value)
    → HasNoFault (pushes i f heap rest o)
pushes_no_fault i f heap rest None = no_effect
pushes_no_fault i f heap rest (Some value) = one_goes_on _ heap

-- An operator of two int32.
pub operator_effects : (op : BinOp) (a b : Expr) (i : Instr) (f : Frame) (heap : Heap) (number : ℕ → ℤ)
    (array : ℕ → Option ℕ) (rest : List Value)
    → EffectsFaultWhereUnmet (conditions_of (operations.Binary op a b)) heap number array
    (arithmetic op i f heap (values.Int (worth number b) ∷ values.Int (worth number a) ∷ rest))
operator_effects op a b i f heap number array rest =
    given (operator_conditions op a b) (operated op (worth number a) (worth number b))
    (operator_faults op a b heap number array)
  where
    given : (cs : List Condition) (r : Result ℤ FaultKind) → FaultsWhereUnmet cs heap number array r
        → EffectsFaultWhereUnmet cs heap number array (gives i f heap rest r)
    given cs (Ok n) is = inl (is, one_goes_on _ heap)
    given cs (Err fault) is = inr (record { fault = fault; first = is; alone = refl })

some_same : (x y : Option ℕ) → Some x ≡ Some y → x ≡ y
some_same x y e = cc

none_some : (i : ℕ) (a : Option ℕ) → a ≡ None → a ≡ Some i → ⊥
none_some i a none some = absurd (other (sym some ∙ none))
  where
    other : Some i ≡ None → ⊥
    other e = absurd cc

-- The length of a reference.
pub length_effects : (r : ℕ) (i : Instr) (f : Frame) (heap : Heap) (number : ℕ → ℤ) (array : ℕ → Option ℕ)
    (value : Value) (rest : List Value)
    → reference_of value ≡ Some (array r)
    → EffectsFaultWhereUnmet (conditions_of (operations.Length r)) heap number array
    (array_length i f heap (value ∷ rest))
length_effects r i f heap number array values.Null rest is =
    inr (record {
      fault = faults.NullUse;
      first = inl (λ met. met (sym (some_same None (array r) is)), refl);
      alone =
          refl;
    })
length_effects r i f heap number array (values.Array a) rest is =
    inl (
      (
        (λ none. none_some a (array r) none
            (sym (some_same (Some a) (array r) is))),
        tt,
      ),
      pushes_no_fault i f heap rest _,
    )
length_effects r i f heap number array (values.Int n) rest is = absurd cc
length_effects r i f heap number array (values.Native n) rest is = absurd cc
length_effects r i f heap number array (values.Addr a n) rest is = absurd cc
length_effects r i f heap number array values.Text rest is = absurd cc

null_effects : (r : ℕ) (e : Expr) (heap : Heap) (number : ℕ → ℤ) (array : ℕ → Option ℕ) → Some None ≡ Some (array r)
    → EffectsFaultWhereUnmet (conditions_of (operations.Element r e)) heap number array (Faults faults.NullUse ∷ [])
null_effects r e heap number array is =
    inr (record {
      fault = faults.NullUse;
      first = inl (λ met. met (sym (some_same None (array r) is)), refl);
      alone =
          refl;
    })

index_effects : (r : ℕ) (e : Expr) (a : ℕ) (cell : ArrayCell) (done : List Effect) (heap : Heap) (number : ℕ → ℤ)
    (array : ℕ → Option ℕ) → array r ≡ Some a
    → length_of_array heap (array r) ≡ pos (length cell.items) → HasNoFault done
    → EffectsFaultWhereUnmet (conditions_of (operations.Element r e)) heap number array
    (at_index cell (worth number e) done)
index_effects r e a cell done heap number array is long free =
    let n = worth number e in
    let m = pos (length cell.items) in
    let goal = EffectsFaultWhereUnmet (conditions_of (operations.Element r e)) heap number array in
    cond_both (int_lt n (pos 0)) _ _ goal
    (λ low. inr
    (record { fault = faults.Lower; first = inr (some, inl (λ met. not_negative n low met, refl)); alone = refl }))
    (λ low. cond_both (int_le m n) _ _ goal
    (λ high.
    inr (record {
      fault = faults.Upper;
      first = inr (some, inr (above n low, inl (λ met. not_below n m high (subst (λ (x : ℤ). n <ℤ x) long met), refl)));
      alone = refl;
    }))
    (λ high. inl ((some, (above n low, (subst (λ (x : ℤ). n <ℤ x) (sym long) (below n m high), tt))), free)))
  where
    some : array r ≢ None
    some none = none_some a (array r) none is

    not_negative : (n : ℤ) → int_lt n (pos 0) ≡ true → pos 0 ≤ℤ n → ⊥
    not_negative n e at_least = omega (arith, ints, e, at_least)

    above : (n : ℤ) → int_lt n (pos 0) ≡ false → pos 0 ≤ℤ n
    above n e = omega (arith, ints, e)

    not_below : (n m : ℤ) → int_le m n ≡ true → n <ℤ m → ⊥
    not_below n m e less = omega (arith, ints, e, less)

    below : (n m : ℤ) → int_le m n ≡ false → n <ℤ m
    below n m e = omega (arith, ints, e)

-- what is done with an array of this type that is there
found_effects : (place : Place) (r : ℕ) (e : Expr) (a : ℕ) (done : ArrayCell → List Effect) (heap : Heap)
    (number : ℕ → ℤ) (array : ℕ → Option ℕ)
    → array r ≡ Some a → has_array heap place a ≡ true → ((cell : ArrayCell) → HasNoFault (done cell))
    → EffectsFaultWhereUnmet (conditions_of (operations.Element r e)) heap number array
    (of_place place (slice_get heap a) (λ cell. at_index cell (worth number e) (done cell)))
found_effects place r e a done heap number array is fits free =
    each (slice_get heap a) fits (ap (length_of_array heap) is)
  where
    each : (o : Option ArrayCell) → option_map_or (λ cell. same_place cell.place place) o false ≡ true
        → length_of_array heap (array r) ≡ pos (option_map_or (λ cell. length cell.items) o 0)
        → EffectsFaultWhereUnmet (conditions_of (operations.Element r e)) heap number array
        (of_place place o (λ cell. at_index cell (worth number e) (done cell)))
    each None fits long = absurd (false≢true fits)
    each (Some cell) fits long = rw fits (index_effects r e a cell (done cell) heap number array is long (free cell))

array_is : (a : ℕ) (o : Option ℕ) → Some (Some a) ≡ Some o → o ≡ Some a
array_is a o is = sym (some_same (Some a) o is)

-- An item that is loaded, of null or of an array of this type.
pub load_effects : (place : Place) (r : ℕ) (e : Expr) (i : Instr) (f : Frame) (heap : Heap) (number : ℕ → ℤ)
    (array : ℕ → Option ℕ) (value : Value) (rest : List Value)
    → reference_of value ≡ Some (array r) → FitsArray heap place (array r)
    → EffectsFaultWhereUnmet (conditions_of (operations.Element r e)) heap number array
    (loads place i f heap (values.Int (worth number e) ∷ value ∷ rest))
load_effects place r e i f heap number array values.Null rest is fits = null_effects r e heap number array is
load_effects place r e i f heap number array (values.Array a) rest is fits =
    let found = array_is a (array r) is in
    found_effects place r e a (λ cell. pushes i f heap rest (item_value cell (worth number e))) heap number array found
    (subst (FitsArray heap place) found fits)
    (λ cell. pushes_no_fault i f heap rest _)
load_effects place r e i f heap number array (values.Int n) rest is fits = absurd cc
load_effects place r e i f heap number array (values.Native n) rest is fits = absurd cc
load_effects place r e i f heap number array (values.Addr a n) rest is fits = absurd cc
load_effects place r e i f heap number array values.Text rest is fits = absurd cc

-- An item that is stored.
pub store_effects : (place : Place) (r : ℕ) (e : Expr) (v : ℤ) (i : Instr) (f : Frame) (heap : Heap) (number : ℕ → ℤ)
    (array : ℕ → Option ℕ) (value : Value)
    (rest : List Value) → reference_of value ≡ Some (array r) → FitsArray heap place (array r)
    → EffectsFaultWhereUnmet (conditions_of (operations.Element r e)) heap number array
    (stores place i f heap (values.Int v ∷ values.Int (worth number e) ∷ value ∷ rest))
store_effects place r e v i f heap number array values.Null rest is fits = null_effects r e heap number array is
store_effects place r e v i f heap number array (values.Array a) rest is fits =
    let found = array_is a (array r) is in
    found_effects place r e a
    (λ cell. goes_on i f
    (with_item heap a cell (unsigned_abs (worth number e)) (item_of place v)) rest) heap number array found
    (subst (FitsArray heap place) found fits) (λ cell. one_goes_on _ _)
store_effects place r e v i f heap number array (values.Int n) rest is fits = absurd cc
store_effects place r e v i f heap number array (values.Native n) rest is fits = absurd cc
store_effects place r e v i f heap number array (values.Addr a n) rest is fits = absurd cc
store_effects place r e v i f heap number array values.Text rest is fits = absurd cc

-- An item whose address is taken.
pub address_effects : (place : Place) (r : ℕ) (e : Expr) (i : Instr) (f : Frame) (heap : Heap) (number : ℕ → ℤ)
    (array : ℕ → Option ℕ) (value : Value) (rest : List Value)
    → reference_of value ≡ Some (array r) → FitsArray heap place (array r)
    → EffectsFaultWhereUnmet (conditions_of (operations.Element r e)) heap number array
    (addresses place i f heap (values.Int (worth number e) ∷ value ∷ rest))
address_effects place r e i f heap number array values.Null rest is fits = null_effects r e heap number array is
address_effects place r e i f heap number array (values.Array a) rest is fits =
    let found = array_is a (array r) is in
    found_effects place r e a (λ cell. goes_on i f heap (values.Addr a (unsigned_abs (worth number e)) ∷ rest)) heap number
    array found (subst (FitsArray heap place) found fits) (λ cell. one_goes_on _ heap)
address_effects place r e i f heap number array (values.Int n) rest is fits = absurd cc
address_effects place r e i f heap number array (values.Native n) rest is fits = absurd cc
address_effects place r e i f heap number array (values.Addr a n) rest is fits = absurd cc
address_effects place r e i f heap number array values.Text rest is fits = absurd cc

-- A new array.
pub new_array_effects : (place : Place) (e : Expr) (i : Instr) (f : Frame) (heap : Heap) (number : ℕ → ℤ)
    (array : ℕ → Option ℕ) (value : Value) (rest : List Value)
    → number_of value ≡ Some (worth number e)
    → EffectsFaultWhereUnmet (conditions_of (operations.NewArray e)) heap number array
    (new_array (Some place) i f heap (value ∷ rest))
new_array_effects place e i f heap number array value rest is =
    rw is
    (cond_both (int_lt (worth number e) (pos 0)) _ _
    (EffectsFaultWhereUnmet (conditions_of (operations.NewArray e)) heap number array)
    (λ low. inr
    (record {
      fault = faults.ArraySize;
      first = inl (λ met. not_negative (worth number e) low met, refl);
      alone =
          refl;
    }))
    (λ low. inl (
      (
        above
            (worth number e) low,
        tt,
      ),
      λ fault has. elim has [ inl none ↦ absurd cc | inr more ↦ one_goes_on _ _ fault more ],
    )))
  where
    not_negative : (n : ℤ) → int_lt n (pos 0) ≡ true → pos 0 ≤ℤ n → ⊥
    not_negative n e at_least = omega (arith, ints, e, at_least)

    above : (n : ℤ) → int_lt n (pos 0) ≡ false → pos 0 ≤ℤ n
    above n e = omega (arith, ints, e)

-- An assertion.
pub assert_effects : (e : Expr) (i : Instr) (f : Frame) (heap : Heap) (number : ℕ → ℤ) (array : ℕ → Option ℕ)
    (rest : List Value)
    → EffectsFaultWhereUnmet (conditions_of (operations.Assert e)) heap number array
    (tests_condition (Faults faults.Assert) i f heap (Some (values.Int (worth number e) ∷ rest)))
assert_effects e i f heap number array rest =
    cond_both (int_eq (worth number e) (pos 0)) _ _
    (EffectsFaultWhereUnmet (conditions_of (operations.Assert e)) heap number array)
    (λ is. inr
    (record {
      fault = faults.Assert;
      first = inl (λ met. met (eq_so (worth number e) (pos 0) is), refl);
      alone =
          refl;
    }))
    (λ is. inl ((not_eq (worth number e) (pos 0) is, tt), one_goes_on _ heap))

-- ---- what follows from it

-- An instruction goes on only where all conditions are met.
pub met_where_goes_on : (cs : List Condition) (heap : Heap) (number : ℕ → ℤ) (array : ℕ → Option ℕ)
    (effects : List Effect) (after : Frame) (new : Heap)
    → EffectsFaultWhereUnmet cs heap number array effects → HasEffect effects (GoesOn after new)
    → AreMet cs heap number array
met_where_goes_on cs heap number array effects after new (inl is) has = is.0
met_where_goes_on cs heap number array effects after new (inr ends) has =
    absurd (none (subst (λ (es : List Effect). HasEffect es (GoesOn after new)) ends.alone has))
  where
    none : HasEffect (Faults ends.fault ∷ []) (GoesOn after new) → ⊥
    none has = elim has [ inl is ↦ absurd cc | inr more ↦ more ]

-- No fault comes where all conditions are met.
pub no_fault_where_met : (cs : List Condition) (heap : Heap) (number : ℕ → ℤ) (array : ℕ → Option ℕ)
    (effects : List Effect)
    → EffectsFaultWhereUnmet cs heap number array effects → AreMet cs heap number array → HasNoFault effects
no_fault_where_met cs heap number array effects (inl is) met = is.1
no_fault_where_met cs heap number array effects (inr ends) met =
    absurd (unmet_not_met ends.fault cs heap number array ends.first met)
