-- What an instruction does to its own frame keeps values values, and arrays what they are.
use Rattle.std.proofs.Common.{◌≡◌, ℕ, zero, suc, ◌+◌, ◌<◌, ◌==◌, ℤ, pos, int_lt, int_le, int_eq, nat_lt, if◌then◌else◌, unsigned_abs, FitsSigned, Bool, true, false, not, List, [], ◌∷◌, ◌++◌, length, replicate, slice_get, slice_set, Option, Some, None, option_map, Result, Ok, Err, IfOk, refl, sym, subst, w32, arith, inl, inr, length-append}
use Rattle.std.specs.List.{AllByRecursion}
use Rattle.std.specs.Option.{option_and_then}
use Rattle.std.proofs.lemmas.Bool.{cond_both, false≢true}
use Rattle.std.proofs.lemmas.Int.{ints}
use Rattle.std.proofs.lemmas.List.{length-replicate, length-set}
use Rattle.std.proofs.lemmas.Option.{none-some, same_Some}
use Rattle.cil_model.specs.Arithmetic.{operated, operated_one, truth, unsigned}
use Rattle.cil_model.specs.Comparisons.{comparison_of, comparison_value, compares_values, is_true, number_of, pushed_comparison}
use Rattle.cil_model.specs.Effects.{Effect, GoesOn, Faults, Assumes, HasEffect, addresses, arithmetic, array_length, at_index, below_message, binary, branches, branches_by, changes, comparison, contract_call, converts, duplicates, effects, effects_of, gives, goes_to, item_of, item_value, loads, loads_through, makes, makes_number, new_array, of_place, pops, pushes, stored, stores, stores_arg, stores_local, stores_through, switches, switches_to, takes_address, tests_condition, with_args, with_item, with_locals, zeros}
use Rattle.cil_model.specs.FitKinds.{OperandFits}
use Rattle.cil_model.specs.UnitCalls.{array_place, unit_call}
use Rattle.cil_model.specs.Values.{Heap, FitItems, FitPlaces, IsArray, IsByte, IsHeap, IsValue, KeepsForms, put, same_place}
use Rattle.cil_model.specs.declared.instruction.BinOp.{BinOp}
use Rattle.cil_model.specs.declared.instruction.CmpOp.{CmpOp}
use Rattle.cil_model.specs.declared.instruction.Instr.{Instr}
use Rattle.cil_model.specs.declared.instruction.Op.{Op}
use Rattle.cil_model.specs.declared.instruction.Op.TheVariants as ops
use Rattle.cil_model.specs.declared.instruction.Test.{Test}
use Rattle.cil_model.specs.declared.instruction.Test.TheVariants as tests
use Rattle.cil_model.specs.declared.instruction.UnOp.{UnOp}
use Rattle.cil_model.specs.declared.instruction.UnOp.TheVariants as unary
use Rattle.cil_model.specs.declared.machine.ArrayCell.{ArrayCell}
use Rattle.cil_model.specs.declared.machine.FaultKind.{FaultKind}
use Rattle.cil_model.specs.declared.machine.FaultKind.TheVariants as faults
use Rattle.cil_model.specs.declared.machine.Frame.{Frame}
use Rattle.cil_model.specs.declared.machine.Value.{Value}
use Rattle.cil_model.specs.declared.machine.Value.TheVariants.{Int, Native, Null, Array, Addr, Text}
use Rattle.cil_model.specs.declared.place.Place.{Place}
use Rattle.cil_model.specs.declared.place.Place.TheVariants as places
use Rattle.cil_model.specs.declared.unit.Unit.{Unit as MethodUnit}
use Rattle.cil_model.specs.declared.unit_numbers.UnitCall.{UnitCall}
use Rattle.cil_model.specs.declared.unit_numbers.UnitCall.TheVariants as calls
use Rattle.cil_model.proofs.ArithmeticFits.{low_bits_are_byte, operated_fits, operated_one_fits, truth_fits}
use Rattle.cil_model.proofs.HeapsKept.{FitPlaces-kept, AreValues-kept, array_of_heap, heap_and_one, heap_with, item_of_array, keeps_before, keeps_itself, keeps_others, put_fits, variable_is_value, variables_with}
use Rattle.cil_model.proofs.KindValues.{within_length}
use Rattle.cil_model.proofs.Options.{and_then_from, map_from}

-- ---- arrays

-- Arrays are of this type.
abbrev IsOfArrays : Place → Type 0
IsOfArrays places.Bools = Unit {0}
IsOfArrays places.Ints = Unit {0}
IsOfArrays _ = ⊥

array_place_is : (number : ℕ) (place : Place) → array_place number ≡ Some place → IsOfArrays place
array_place_is number place e =
    cond_both (number == 1) _ _ (λ (found : Option Place). found ≡ Some place → IsOfArrays place)
    (λ one f. subst IsOfArrays (same_Some places.Bools place f) tt)
    (λ more. cond_both (number == 2) _ _ (λ (found : Option Place). found ≡ Some place → IsOfArrays place)
    (λ two f. subst IsOfArrays (same_Some places.Ints place f) tt) (λ others f. absurd (none-some place f)))
    e

same_place_is : (a b : Place) → same_place a b ≡ true → a ≡ b
same_place_is places.Void places.Void e = refl
same_place_is places.Bool places.Bool e = refl
same_place_is places.Int places.Int e = refl
same_place_is places.Bools places.Bools e = refl
same_place_is places.Ints places.Ints e = refl
same_place_is _ _ e = absurd (false≢true e)

all_same : (P : ℤ → Type 0) (n : ℕ) (k : ℤ) → P k → AllByRecursion P (replicate n k)
all_same P zero k is = tt
all_same P (suc n) k is = (is, all_same P n k is)

all_with : (P : ℤ → Type 0) (items : List ℤ) (k : ℕ) (n : ℤ) → AllByRecursion P items → P n → AllByRecursion P (slice_set items k n)
all_with P [] k n all is = tt
all_with P (item ∷ items) zero n all is = (is, all.1)
all_with P (item ∷ items) (suc k) n all is = (all.0, all_with P items k n all.1 is)

all_at : (P : ℤ → Type 0) (items : List ℤ) (k : ℕ) (n : ℤ) → AllByRecursion P items → slice_get items k ≡ Some n → P n
all_at P [] k n all e = absurd (none-some n e)
all_at P (item ∷ items) zero n all e = subst P (same_Some item n e) all.0
all_at P (item ∷ items) (suc k) n all e = all_at P items k n all.1 e

byte_fits : (n : ℤ) → IsByte n → FitsSigned w32 n
byte_fits n byte = let low = byte.0 in let high = byte.1 in omega (arith, ints)

zeros_is_array : (place : Place) (n : ℕ) → IsOfArrays place → n < 2147483648 → IsArray (zeros place n)
zeros_is_array places.Bools n is below = (all_same IsByte n (pos 0) (omega (arith, ints), omega (arith, ints)), omega (arith, length-replicate n (pos 0)))
zeros_is_array places.Ints n is below = (all_same (FitsSigned w32) n (pos 0) (omega (arith, ints)), omega (arith, length-replicate n (pos 0)))
zeros_is_array _ n is below = absurd is

item_fits : (place : Place) (items : List ℤ) (k : ℕ) (n : ℤ) → FitItems place items → slice_get items k ≡ Some n → FitsSigned w32 n
item_fits places.Bools items k n fit e = byte_fits n (all_at IsByte items k n fit e)
item_fits places.Ints items k n fit e = all_at (FitsSigned w32) items k n fit e
item_fits _ items k n fit e = absurd fit

items_with : (place : Place) (items : List ℤ) (k : ℕ) (n : ℤ) → FitItems place items → FitsSigned w32 n → FitItems place (slice_set items k (item_of place n))
items_with places.Bools items k n fit fits = all_with IsByte items k _ fit (low_bits_are_byte n)
items_with places.Ints items k n fit fits = all_with (FitsSigned w32) items k n fit fits
items_with _ items k n fit fits = absurd fit

-- ---- what is kept

-- The variables hold values of their types, and the stack has values.
pub record Holds (unit : MethodUnit) (heap : Heap) (args locals stack : List Value) : Type 0 where
  pub heap_is : IsHeap heap
  pub args_fit : FitPlaces heap unit.args args
  pub locals_fit : FitPlaces heap unit.locals locals
  pub values : AllByRecursion (IsValue heap) stack

-- A frame that went on over a heap from one with this stack: it is of the same call, and no array changed its
-- type or its length.
pub record Continues (unit : MethodUnit) (f : Frame) (heap : Heap) (stack : List Value) (new : Frame) (after : Heap) : Type 0 where
  pub unit_is : new.unit ≡ f.unit
  pub entry_args_are : new.entry_args ≡ f.entry_args
  pub entry_heap_is : new.entry_heap ≡ f.entry_heap
  pub kept : KeepsForms heap after
  pub holds : Holds unit heap f.args f.locals stack → Holds unit after new.args new.locals new.stack

abbrev pub EffectKeeps : MethodUnit → Frame → Heap → List Value → Effect → Type 0
EffectKeeps unit f heap stack (GoesOn new after) = Continues unit f heap stack new after
EffectKeeps unit f heap stack _ = Unit {0}

abbrev pub EachKeeps : MethodUnit → Frame → Heap → List Value → List Effect → Type 0
EachKeeps unit f heap stack es = AllByRecursion (EffectKeeps unit f heap stack) es

-- ---- forms of rows

module _ (unit : MethodUnit) (i : Instr) (f : Frame) (heap : Heap) (stack : List Value) where
  -- The values before the row are values.
  abbrev Before : Type 0
  Before = Holds unit heap f.args f.locals stack

  abbrev Keeps : List Effect → Type 0
  Keeps es = EachKeeps unit f heap stack es

  goes_keeps : (at : ℕ) (next : List Value) → (Before → AllByRecursion (IsValue heap) next) → Keeps (goes_to at f heap next)
  goes_keeps at next values = (
    record {
      unit_is = refl;
      entry_args_are = refl;
      entry_heap_is = refl;
      kept = keeps_itself heap;
      holds = λ h. record { heap_is = h.heap_is; args_fit = h.args_fit; locals_fit = h.locals_fit; values = values h };
    },
    tt,
  )

  pushes_keeps : (rest : List Value) (value : Option Value) → (Before → AllByRecursion (IsValue heap) rest)
      → ((v : Value) → value ≡ Some v → Before → IsValue heap v) → Keeps (pushes i f heap rest value)
  pushes_keeps rest None values is = tt
  pushes_keeps rest (Some v) values is = goes_keeps (i.at + i.size) (v ∷ rest) (λ h. (is v refl h, values h))

  branches_keeps : (target : ℕ) (rest : List Value) (test : Option Bool) → (Before → AllByRecursion (IsValue heap) rest) → Keeps (branches target i f heap rest test)
  branches_keeps target rest None values = tt
  branches_keeps target rest (Some true) values = goes_keeps target rest values
  branches_keeps target rest (Some false) values = goes_keeps (i.at + i.size) rest values

  gives_keeps : (rest : List Value) (outcome : Result ℤ FaultKind) → (Before → AllByRecursion (IsValue heap) rest) → (Before → IfOk outcome (FitsSigned w32))
      → Keeps (gives i f heap rest outcome)
  gives_keeps rest (Ok n) values fits = goes_keeps (i.at + i.size) (Int n ∷ rest) (λ h. (fits h, values h))
  gives_keeps rest (Err kind) values fits = (tt, tt)

  args_keep : (rest : List Value) (args : Option (List Value)) → (Before → AllByRecursion (IsValue heap) rest)
      → ((new : List Value) → args ≡ Some new → Before → FitPlaces heap unit.args new) → Keeps (with_args i f heap rest args)
  args_keep rest None values fit = tt
  args_keep rest (Some args) values fit = (
    record {
      unit_is = refl;
      entry_args_are = refl;
      entry_heap_is = refl;
      kept = keeps_itself heap;
      holds = λ h. record { heap_is = h.heap_is; args_fit = fit args refl h; locals_fit = h.locals_fit; values = values h };
    },
    tt,
  )

  locals_keep : (rest : List Value) (locals : Option (List Value)) → (Before → AllByRecursion (IsValue heap) rest)
      → ((new : List Value) → locals ≡ Some new → Before → FitPlaces heap unit.locals new) → Keeps (with_locals i f heap rest locals)
  locals_keep rest None values fit = tt
  locals_keep rest (Some locals) values fit = (
    record {
      unit_is = refl;
      entry_args_are = refl;
      entry_heap_is = refl;
      kept = keeps_itself heap;
      holds = λ h. record { heap_is = h.heap_is; args_fit = h.args_fit; locals_fit = fit locals refl h; values = values h };
    },
    tt,
  )

  switches_to_keeps : (rest : List Value) (target : Option ℕ) → (Before → AllByRecursion (IsValue heap) rest) → Keeps (switches_to i f heap rest target)
  switches_to_keeps rest None values = goes_keeps (i.at + i.size) rest values
  switches_to_keeps rest (Some target) values = goes_keeps target rest values

  tests_keeps : (otherwise : Effect) (below : Option (List Value)) → EffectKeeps unit f heap stack otherwise
      → ((rest : List Value) → below ≡ Some rest → Before → AllByRecursion (IsValue heap) rest) → Keeps (tests_condition otherwise i f heap below)
  tests_keeps otherwise (Some (Int n ∷ rest)) other values =
      cond_both (int_eq n (pos 0)) _ _ Keeps (λ e. (other, tt)) (λ e. goes_keeps (i.at + i.size) rest (λ h. (values (Int n ∷ rest) refl h).1))
  tests_keeps otherwise _ other values = tt

  at_index_keeps : (cell : ArrayCell) (n : ℤ) (done : List Effect) → (unsigned_abs n < length cell.items → Keeps done) → Keeps (at_index cell n done)
  at_index_keeps cell n done keeps =
      cond_both (int_lt n (pos 0)) _ _ Keeps (λ above. (tt, tt))
      (λ above. cond_both (int_le (pos (length cell.items)) n) _ _ Keeps (λ below. (tt, tt)) (λ below. keeps (within_length cell.items n above below)))

  of_place_keeps : (place : Place) (found : Option ArrayCell) (done : ArrayCell → List Effect)
      → ((cell : ArrayCell) → found ≡ Some cell → cell.place ≡ place → Keeps (done cell)) → Keeps (of_place place found done)
  of_place_keeps place None done keeps = tt
  of_place_keeps place (Some cell) done keeps = cond_both (same_place cell.place place) _ _ Keeps (λ e. keeps cell refl (same_place_is cell.place place e)) (λ e. tt)

-- ---- moves

stored_fit : (heap : Heap) (places : List Place) (n : ℕ) (value : Value) (variables new : List Value)
    → FitPlaces heap places variables → IsValue heap value → stored heap places n value variables ≡ Some new → FitPlaces heap places new
stored_fit heap places n value variables new fit is e =
    let (v, found, new_is) = map_from (λ (v : Value). slice_set variables n v) (option_and_then (λ place. put heap place value) (slice_get places n)) new e in
    let place = and_then_from (λ place. put heap place value) (slice_get places n) v found in
    subst (FitPlaces heap places) (sym new_is) (variables_with heap places variables n place.value v fit place.is (put_fits heap place.value value v is place.gave))

module _ (unit : MethodUnit) (i : Instr) (f : Frame) (heap : Heap) where
  abbrev Keep : List Value → List Effect → Type 0
  Keep stack es = EachKeeps unit f heap stack es

  stores_arg_keeps : (n : ℕ) (stack : List Value) → Keep stack (stores_arg unit n i f heap stack)
  stores_arg_keeps n [] = tt
  stores_arg_keeps n (v ∷ rest) =
      args_keep unit i f heap (v ∷ rest) rest (stored heap unit.args n v f.args) (λ h. h.values.1)
      (λ new e h. stored_fit heap unit.args n v f.args new h.args_fit h.values.0 e)

  stores_local_keeps : (n : ℕ) (stack : List Value) → Keep stack (stores_local unit n i f heap stack)
  stores_local_keeps n [] = tt
  stores_local_keeps n (v ∷ rest) =
      locals_keep unit i f heap (v ∷ rest) rest (stored heap unit.locals n v f.locals) (λ h. h.values.1)
      (λ new e h. stored_fit heap unit.locals n v f.locals new h.locals_fit h.values.0 e)

  duplicates_keeps : (stack : List Value) → Keep stack (duplicates i f heap stack)
  duplicates_keeps [] = tt
  duplicates_keeps (v ∷ rest) = goes_keeps unit i f heap (v ∷ rest) (i.at + i.size) (v ∷ v ∷ rest) (λ h. (h.values.0, h.values))

  pops_keeps : (stack : List Value) → Keep stack (pops i f heap stack)
  pops_keeps [] = tt
  pops_keeps (v ∷ rest) = goes_keeps unit i f heap (v ∷ rest) (i.at + i.size) rest (λ h. h.values.1)

  -- ---- numbers

  arithmetic_keeps : (operator : BinOp) (stack : List Value) → Keep stack (arithmetic operator i f heap stack)
  arithmetic_keeps operator (Int b ∷ Int a ∷ rest) =
      gives_keeps unit i f heap (Int b ∷ Int a ∷ rest) rest (operated operator a b) (λ h. h.values.1.1) (λ h. operated_fits operator a b h.values.1.0 h.values.0)
  arithmetic_keeps operator _ = tt

  comparison_is_value : (op : CmpOp) (a b v : Value) → comparison_value op a b ≡ Some v → IsValue heap v
  comparison_is_value op a b v e =
      let (holds, is, same) = map_from (λ (holds : Bool). Int (truth holds)) (pushed_comparison op a b) v e in
      subst (IsValue heap) (sym same) (truth_fits holds)

  comparison_keeps : (op : CmpOp) (stack : List Value) → Keep stack (comparison op i f heap stack)
  comparison_keeps op (b ∷ a ∷ rest) =
      pushes_keeps unit i f heap (b ∷ a ∷ rest) rest (comparison_value op a b) (λ h. h.values.1.1) (λ v e h. comparison_is_value op a b v e)
  comparison_keeps op [] = tt
  comparison_keeps op (b ∷ []) = tt

  binary_keeps : (operator : BinOp) (op : Option CmpOp) (stack : List Value) → Keep stack (binary operator op i f heap stack)
  binary_keeps operator None stack = arithmetic_keeps operator stack
  binary_keeps operator (Some op) stack = comparison_keeps op stack

  changes_keeps : (operator : UnOp) (stack : List Value) → Keep stack (changes operator i f heap stack)
  changes_keeps operator (Int a ∷ rest) =
      goes_keeps unit i f heap (Int a ∷ rest) (i.at + i.size) (Int (operated_one operator a) ∷ rest) (λ h. (operated_one_fits operator a h.values.0, h.values.1))
  changes_keeps operator _ = tt

  converts_keeps : (stack : List Value) → Keep stack (converts i f heap stack)
  converts_keeps (Native n ∷ rest) =
      goes_keeps unit i f heap (Native n ∷ rest) (i.at + i.size) (Int (pos n) ∷ rest) (λ h. (let below : n < 2147483648 = h.values.0 in omega (arith, ints), h.values.1))
  converts_keeps (Int n ∷ rest) = goes_keeps unit i f heap (Int n ∷ rest) (i.at + i.size) (Int n ∷ rest) (λ h. h.values)
  converts_keeps _ = tt

  -- ---- branches

  branches_by_keeps : (test : Test) (target : ℕ) (stack : List Value) → Keep stack (branches_by test target i f heap stack)
  branches_by_keeps tests.Always target stack = goes_keeps unit i f heap stack target stack (λ h. h.values)
  branches_by_keeps tests.True target (v ∷ rest) = branches_keeps unit i f heap (v ∷ rest) target rest (is_true v) (λ h. h.values.1)
  branches_by_keeps tests.False target (v ∷ rest) = branches_keeps unit i f heap (v ∷ rest) target rest (option_map not (is_true v)) (λ h. h.values.1)
  branches_by_keeps (tests.Cmp op) target (b ∷ a ∷ rest) = branches_keeps unit i f heap (b ∷ a ∷ rest) target rest (compares_values op a b) (λ h. h.values.1.1)
  branches_by_keeps tests.True target [] = tt
  branches_by_keeps tests.False target [] = tt
  branches_by_keeps (tests.Cmp op) target [] = tt
  branches_by_keeps (tests.Cmp op) target (b ∷ []) = tt

  switches_keeps : (targets : List ℕ) (stack : List Value) → Keep stack (switches targets i f heap stack)
  switches_keeps targets (Int n ∷ rest) = switches_to_keeps unit i f heap (Int n ∷ rest) rest (slice_get targets (unsigned n)) (λ h. h.values.1)
  switches_keeps targets _ = tt

  -- ---- arrays

  makes_keeps : (place : Place) (n : ℤ) (v : Value) (rest : List Value) → IsOfArrays place
      → (Holds unit heap f.args f.locals (v ∷ rest) → FitsSigned w32 n) → Keep (v ∷ rest) (makes place n i f heap rest)
  makes_keeps place n v rest arrays fits =
      let new = zeros place (unsigned_abs n) in
      let kept = keeps_before heap (new ∷ []) in
      let more : length (heap ++ new ∷ []) ≡ length heap + 1 = length-append heap (new ∷ []) in
      cond_both (int_lt n (pos 0)) _ _ (Keep (v ∷ rest)) (λ e. (tt, tt))
      (λ e. (
        tt,
        (
          record {
            unit_is = refl;
            entry_args_are = refl;
            entry_heap_is = refl;
            kept = kept;
            holds = λ h. record {
              heap_is = heap_and_one heap new h.heap_is (zeros_is_array place (unsigned_abs n) arrays (let below = fits h in omega (arith, ints)));
              args_fit = FitPlaces-kept heap (heap ++ new ∷ []) kept unit.args f.args h.args_fit;
              locals_fit = FitPlaces-kept heap (heap ++ new ∷ []) kept unit.locals f.locals h.locals_fit;
              values = (omega arith, AreValues-kept heap (heap ++ new ∷ []) kept rest h.values.1);
            };
          },
          tt,
        ),
      ))

  makes_number_keeps : (place : Option Place) (n : Option ℤ) (v : Value) (rest : List Value) → ((p : Place) → place ≡ Some p → IsOfArrays p)
      → ((m : ℤ) → n ≡ Some m → Holds unit heap f.args f.locals (v ∷ rest) → FitsSigned w32 m) → Keep (v ∷ rest) (makes_number place n i f heap rest)
  makes_number_keeps (Some place) (Some n) v rest arrays fits = makes_keeps place n v rest (arrays place refl) (fits n refl)
  makes_number_keeps None n v rest arrays fits = tt
  makes_number_keeps (Some place) None v rest arrays fits = tt

  number_fits : (v : Value) (m : ℤ) → number_of v ≡ Some m → IsValue heap v → FitsSigned w32 m
  number_fits (Int n) m e is = subst (FitsSigned w32) (same_Some n m e) is
  number_fits (Native n) m e is = subst (FitsSigned w32) (same_Some (pos n) m e) (let below : n < 2147483648 = is in omega (arith, ints))
  number_fits _ m e is = absurd (none-some m e)

  new_array_keeps : (number : ℕ) (stack : List Value) → Keep stack (new_array (array_place number) i f heap stack)
  new_array_keeps number [] = tt
  new_array_keeps number (v ∷ rest) =
      makes_number_keeps (array_place number) (number_of v) v rest (array_place_is number) (λ m e h. number_fits v m e h.values.0)

  array_length_keeps : (stack : List Value) → Keep stack (array_length i f heap stack)
  array_length_keeps (Null ∷ rest) = (tt, tt)
  array_length_keeps (Array a ∷ rest) =
      pushes_keeps unit i f heap (Array a ∷ rest) rest (option_map (λ (cell : ArrayCell). Native (length cell.items)) (slice_get heap a)) (λ h. h.values.1)
      (λ v e h. let (cell, there, is) = map_from (λ (cell : ArrayCell). Native (length cell.items)) (slice_get heap a) v e in
      subst (IsValue heap) (sym is) (array_of_heap heap a cell h.heap_is there).1)
  array_length_keeps _ = tt

  -- An item of an array is pushed.
  item_keeps : (stack rest : List Value) (a n : ℕ) (cell : ArrayCell) → slice_get heap a ≡ Some cell
      → (Holds unit heap f.args f.locals stack → AllByRecursion (IsValue heap) rest)
      → Keep stack (pushes i f heap rest (option_map Int (slice_get cell.items n)))
  item_keeps stack rest a n cell there values =
      pushes_keeps unit i f heap stack rest (option_map Int (slice_get cell.items n)) values
      (λ v e h. let (item, found, is) = map_from Int (slice_get cell.items n) v e in
      subst (IsValue heap) (sym is) (item_fits cell.place cell.items n item (array_of_heap heap a cell h.heap_is there).0 found))

  loads_keeps : (place : Place) (stack : List Value) → Keep stack (loads place i f heap stack)
  loads_keeps place (Int n ∷ Null ∷ rest) = (tt, tt)
  loads_keeps place (Int n ∷ Array a ∷ rest) =
      of_place_keeps unit i f heap (Int n ∷ Array a ∷ rest) place (slice_get heap a) (λ cell. at_index cell n (pushes i f heap rest (item_value cell n)))
      (λ cell there same. at_index_keeps unit i f heap (Int n ∷ Array a ∷ rest) cell n (pushes i f heap rest (item_value cell n))
      (λ within. item_keeps (Int n ∷ Array a ∷ rest) rest a (unsigned_abs n) cell there (λ h. h.values.1.1)))
  loads_keeps place _ = tt

  -- The array with one item replaced.
  item_stored : (a : ℕ) (cell : ArrayCell) (place : Place) (k : ℕ) (n : ℤ) → slice_get heap a ≡ Some cell → cell.place ≡ place → IsHeap heap → FitsSigned w32 n
      → IsArray (record cell { items = slice_set cell.items k (item_of place n) })
  item_stored a cell place k n there same is fits =
      let array = array_of_heap heap a cell is there in
      let long : length (slice_set cell.items k (item_of place n)) ≡ length cell.items = length-set cell.items k (item_of place n) in (
        subst (λ (p : Place). FitItems p (slice_set cell.items k (item_of place n))) (sym same)
            (items_with place cell.items k n (subst (λ (p : Place). FitItems p cell.items) same array.0) fits),
        subst (λ (m : ℕ). m < 2147483648) (sym long) array.1,
      )

  -- A number is stored as an item of an array.
  stored_keeps : (place : Place) (v : ℤ) (below rest : List Value) (a n : ℕ) (cell : ArrayCell) → slice_get heap a ≡ Some cell → cell.place ≡ place
      → (Holds unit heap f.args f.locals (Int v ∷ below) → AllByRecursion (IsValue heap) rest)
      → Keep (Int v ∷ below) (goes_to (i.at + i.size) f (with_item heap a cell n (item_of place v)) rest)
  stored_keeps place v below rest a n cell there same values =
      let new = record cell { items = slice_set cell.items n (item_of place v) } in
      let after = slice_set heap a new in
      let kept = keeps_others heap a cell new there refl (length-set cell.items n (item_of place v)) in (
        record {
          unit_is = refl;
          entry_args_are = refl;
          entry_heap_is = refl;
          kept = kept;
          holds = λ h. record {
            heap_is = heap_with heap a new h.heap_is (item_stored a cell place n v there same h.heap_is h.values.0);
            args_fit = FitPlaces-kept heap after kept unit.args f.args h.args_fit;
            locals_fit = FitPlaces-kept heap after kept unit.locals f.locals h.locals_fit;
            values = AreValues-kept heap after kept rest (values h);
          };
        },
        tt,
      )

  stores_keeps : (place : Place) (stack : List Value) → Keep stack (stores place i f heap stack)
  stores_keeps place (Int v ∷ Int n ∷ Null ∷ rest) = (tt, tt)
  stores_keeps place (Int v ∷ Int n ∷ Array a ∷ rest) =
      of_place_keeps unit i f heap (Int v ∷ Int n ∷ Array a ∷ rest) place (slice_get heap a)
      (λ cell. at_index cell n (goes_to (i.at + i.size) f (with_item heap a cell (unsigned_abs n) (item_of place v)) rest))
      (λ cell there same. at_index_keeps unit i f heap (Int v ∷ Int n ∷ Array a ∷ rest) cell n
      (goes_to (i.at + i.size) f (with_item heap a cell (unsigned_abs n) (item_of place v)) rest)
      (λ within. stored_keeps place v (Int n ∷ Array a ∷ rest) rest a (unsigned_abs n) cell there same (λ h. h.values.1.1.1)))
  stores_keeps place _ = tt

  -- ---- addresses

  addresses_keep : (place : Place) (stack : List Value) → Keep stack (addresses place i f heap stack)
  addresses_keep place (Int n ∷ Null ∷ rest) = (tt, tt)
  addresses_keep place (Int n ∷ Array a ∷ rest) =
      of_place_keeps unit i f heap (Int n ∷ Array a ∷ rest) place (slice_get heap a)
      (λ cell. at_index cell n (goes_to (i.at + i.size) f heap (Addr a (unsigned_abs n) ∷ rest)))
      (λ cell there same. at_index_keeps unit i f heap (Int n ∷ Array a ∷ rest) cell n (goes_to (i.at + i.size) f heap (Addr a (unsigned_abs n) ∷ rest))
      (λ within. goes_keeps unit i f heap (Int n ∷ Array a ∷ rest) (i.at + i.size) (Addr a (unsigned_abs n) ∷ rest)
      (λ h. (item_of_array heap a (unsigned_abs n) cell there within, h.values.1.1))))
  addresses_keep place _ = tt

  takes_address_keeps : (place : Option Place) (stack : List Value) → Keep stack (takes_address place i f heap stack)
  takes_address_keeps None stack = tt
  takes_address_keeps (Some place) stack = addresses_keep place stack

  loads_through_keeps : (place : Place) (stack : List Value) → Keep stack (loads_through place i f heap stack)
  loads_through_keeps place (Addr a n ∷ rest) =
      of_place_keeps unit i f heap (Addr a n ∷ rest) place (slice_get heap a) (λ cell. pushes i f heap rest (option_map Int (slice_get cell.items n)))
      (λ cell there same. item_keeps (Addr a n ∷ rest) rest a n cell there (λ h. h.values.1))
  loads_through_keeps place _ = tt

  stores_through_keeps : (place : Place) (stack : List Value) → Keep stack (stores_through place i f heap stack)
  stores_through_keeps place (Int v ∷ Addr a n ∷ rest) =
      let stack = Int v ∷ Addr a n ∷ rest in
      of_place_keeps unit i f heap stack place (slice_get heap a)
      (λ cell. if nat_lt n (length cell.items) then goes_to (i.at + i.size) f (with_item heap a cell n (item_of place v)) rest else [])
      (λ cell there same. cond_both (nat_lt n (length cell.items)) _ _ (Keep stack)
      (λ within. stored_keeps place v (Addr a n ∷ rest) rest a n cell there same (λ h. h.values.1.1)) (λ beyond. tt))
  stores_through_keeps place _ = tt

  -- ---- Assert and Assume

  below_message_values : (message : Bool) (stack rest : List Value) → AllByRecursion (IsValue heap) stack → below_message message stack ≡ Some rest → AllByRecursion (IsValue heap) rest
  below_message_values false stack rest values e = subst (AllByRecursion (IsValue heap)) (same_Some stack rest e) values
  below_message_values true (Text ∷ others) rest values e = subst (AllByRecursion (IsValue heap)) (same_Some others rest e) values.1
  below_message_values true _ rest values e = absurd (none-some rest e)

  contract_call_keeps : (call : Option UnitCall) → Keep f.stack (contract_call call i f heap)
  contract_call_keeps (Some (calls.Assert message)) =
      tests_keeps unit i f heap f.stack (Faults faults.Assert) (below_message message f.stack) tt (λ rest e h. below_message_values message f.stack rest h.values e)
  contract_call_keeps (Some (calls.Assume message)) =
      tests_keeps unit i f heap f.stack Assumes (below_message message f.stack) tt (λ rest e h. below_message_values message f.stack rest h.values e)
  contract_call_keeps _ = tt

  -- ---- all rows

  effects_of_keep : (op : Op) → OperandFits op → Keep f.stack (effects_of op unit i f heap)
  effects_of_keep ops.Nop fits = goes_keeps unit i f heap f.stack (i.at + i.size) f.stack (λ h. h.values)
  effects_of_keep (ops.LoadArg n) fits =
      pushes_keeps unit i f heap f.stack f.stack (slice_get f.args n) (λ h. h.values) (λ v e h. variable_is_value heap unit.args f.args n v h.args_fit e)
  effects_of_keep (ops.StoreArg n) fits = stores_arg_keeps n f.stack
  effects_of_keep (ops.LoadLocal n) fits =
      pushes_keeps unit i f heap f.stack f.stack (slice_get f.locals n) (λ h. h.values) (λ v e h. variable_is_value heap unit.locals f.locals n v h.locals_fit e)
  effects_of_keep (ops.StoreLocal n) fits = stores_local_keeps n f.stack
  effects_of_keep ops.Null fits = goes_keeps unit i f heap f.stack (i.at + i.size) (Null ∷ f.stack) (λ h. (tt, h.values))
  effects_of_keep (ops.Const n) fits = goes_keeps unit i f heap f.stack (i.at + i.size) (Int n ∷ f.stack) (λ h. (fits, h.values))
  effects_of_keep ops.Dup fits = duplicates_keeps f.stack
  effects_of_keep ops.Pop fits = pops_keeps f.stack
  effects_of_keep (ops.Call number) fits = contract_call_keeps (unit_call number)
  effects_of_keep ops.Return fits = tt
  effects_of_keep (ops.Branch test target) fits = branches_by_keeps test target f.stack
  effects_of_keep (ops.Switch targets) fits = switches_keeps targets f.stack
  effects_of_keep (ops.Bin operator) fits = binary_keeps operator (comparison_of operator) f.stack
  effects_of_keep ops.Neg fits = changes_keeps unary.Neg f.stack
  effects_of_keep ops.Not fits = changes_keeps unary.Not f.stack
  effects_of_keep ops.ConvI4 fits = converts_keeps f.stack
  effects_of_keep (ops.Text token) fits = goes_keeps unit i f heap f.stack (i.at + i.size) (Text ∷ f.stack) (λ h. (tt, h.values))
  effects_of_keep (ops.NewArray number) fits = new_array_keeps number f.stack
  effects_of_keep ops.Length fits = array_length_keeps f.stack
  effects_of_keep (ops.LoadElem place) fits = loads_keeps place f.stack
  effects_of_keep (ops.StoreElem place) fits = stores_keeps place f.stack
  effects_of_keep (ops.LoadAddr number) fits = takes_address_keeps (array_place number) f.stack
  effects_of_keep (ops.LoadInd place) fits = loads_through_keeps place f.stack
  effects_of_keep (ops.StoreInd place) fits = stores_through_keeps place f.stack

  has_keeps : (es : List Effect) (effect : Effect) → Keep f.stack es → HasEffect es effect → EffectKeeps unit f heap f.stack effect
  has_keeps [] effect keep has = absurd has
  has_keeps (e ∷ es) effect keep (inl same) = subst (EffectKeeps unit f heap f.stack) (sym same) keep.0
  has_keeps (e ∷ es) effect keep (inr others) = has_keeps es effect keep.1 others

  -- Whatever an instruction does to its own frame keeps what is said here.
  pub effect_keeps : (effect : Effect) → OperandFits i.op → HasEffect (effects unit i f heap) effect → EffectKeeps unit f heap f.stack effect
  effect_keeps effect fits has = has_keeps (effects unit i f heap) effect (effects_of_keep i.op fits) has
