-- What an instruction does to its own frame keeps within the frame's reach: it has no array that it could not come to
-- before, or that is not new, and items change in arrays that it could come to alone.
use Rattle.std.proofs.Common.{◌≡◌, ℕ, zero, suc, ◌+◌, ◌<◌, ◌≤◌, ℤ, pos, int_lt, int_le, int_eq, nat_lt, if◌then◌else◌, unsigned_abs, Bool, true, false, not, List, [], ◌∷◌, ◌++◌, length, slice_get, slice_set, Option, Some, None, option_map, Result, Ok, Err, refl, sym, ap, subst, arith, inl, inr}
use Rattle.std.specs.List.{AllByRecursion}
use Rattle.std.specs.Option.{option_and_then}
use Rattle.std.proofs.lemmas.Bool.{cond_both}
use Rattle.std.proofs.lemmas.Option.{cond_some, none-some, same_Some}
use Rattle.cil_model.specs.Arithmetic.{operated, operated_one, truth, unsigned}
use Rattle.cil_model.specs.Comparisons.{comparison_of, comparison_value, compares_values, is_true, number_of, pushed_comparison}
use Rattle.cil_model.specs.Effects.{Effect, GoesOn, Faults, Assumes, HasEffect, addresses, arithmetic, array_length, at_index, below_message, binary, branches, branches_by, changes, comparison, contract_call, converts, duplicates, effects, effects_of, gives, goes_to, item_of, item_value, loads, loads_through, makes, makes_number, new_array, of_place, pops, pushes, stored, stores, stores_arg, stores_local, stores_through, switches, switches_to, takes_address, tests_condition, with_args, with_item, with_locals, zeros}
use Rattle.cil_model.specs.UnitCalls.{array_place, unit_call}
use Rattle.cil_model.specs.Values.{Heap, has_array, put, put_all, same_place, with_first}
use Rattle.cil_model.specs.declared.instruction.BinOp.{BinOp}
use Rattle.cil_model.specs.declared.instruction.CmpOp.{CmpOp}
use Rattle.cil_model.specs.declared.instruction.Instr.{Instr}
use Rattle.cil_model.specs.declared.instruction.Op.{Op}
use Rattle.cil_model.specs.declared.instruction.Op.TheVariants as ops
use Rattle.cil_model.specs.declared.instruction.Test.{Test}
use Rattle.cil_model.specs.declared.instruction.Test.TheVariants as tests
use Rattle.cil_model.specs.declared.instruction.UnOp.{UnOp}
use Rattle.cil_model.specs.declared.instruction.UnOp.TheVariants as unary
use Rattle.cil_model.specs.declared.machine.ArrayCell.{ArrayCell}
use Rattle.cil_model.specs.declared.machine.FaultKind.{FaultKind}
use Rattle.cil_model.specs.declared.machine.FaultKind.TheVariants as faults
use Rattle.cil_model.specs.declared.machine.Frame.{Frame}
use Rattle.cil_model.specs.declared.machine.Value.{Value}
use Rattle.cil_model.specs.declared.machine.Value.TheVariants.{Int, Native, Null, Array, Addr, Text}
use Rattle.cil_model.specs.declared.place.Place.{Place}
use Rattle.cil_model.specs.declared.place.Place.TheVariants as places
use Rattle.cil_model.specs.declared.unit.Unit.{Unit as MethodUnit}
use Rattle.cil_model.specs.declared.unit_numbers.UnitCall.{UnitCall}
use Rattle.cil_model.specs.declared.unit_numbers.UnitCall.TheVariants as calls
use Rattle.cil_model.proofs.Options.{and_then_from, map_from}
use Rattle.safe_worlds.specs.Frames.{IsInReach, entry_of}
use Rattle.safe_worlds.specs.declared.entry.Entry.{Entry}

-- ---- lists

all_with : (P : Value → Type 0) (vs : List Value) (k : ℕ) (v : Value) → AllByRecursion P vs → P v
    → AllByRecursion P (slice_set vs k v)
all_with P [] k v all is = tt
all_with P (w ∷ vs) zero v all is = (is, all.1)
all_with P (w ∷ vs) (suc k) v all is = (all.0, all_with P vs k v all.1 is)

all_at : (P : Value → Type 0) (vs : List Value) (k : ℕ) (v : Value) → AllByRecursion P vs → slice_get vs k ≡ Some v
    → P v
all_at P [] k v all e = absurd (none-some v e)
all_at P (w ∷ vs) zero v all e = subst P (same_Some w v e) all.0
all_at P (w ∷ vs) (suc k) v all e = all_at P vs k v all.1 e

set_apart : (heap : Heap) (a b : ℕ) (cell : ArrayCell) → (a ≡ b → ⊥)
    → slice_get (slice_set heap a cell) b ≡ slice_get heap b
set_apart [] a b cell apart = refl
set_apart (first ∷ cells) zero zero cell apart = absurd (apart refl)
set_apart (first ∷ cells) zero (suc b) cell apart = refl
set_apart (first ∷ cells) (suc a) zero cell apart = refl
set_apart (first ∷ cells) (suc a) (suc b) cell apart =
    set_apart cells a b cell (λ same. apart (ap (λ (k : ℕ). suc k) same))

get_before : (heap more : Heap) (a : ℕ) → a < length heap → slice_get (heap ++ more) a ≡ slice_get heap a
get_before [] more a below = absurd (omega arith)
get_before (first ∷ cells) more zero below = refl
get_before (first ∷ cells) more (suc a) below = get_before cells more a (omega arith)

-- ---- what is put into places

module _ (entry : Entry) where
  pub put_reach : (heap : Heap) (place : Place) (v new : Value) → IsInReach entry v → put heap place v ≡ Some new
      → IsInReach entry new
  put_reach heap places.Bool (Int n) new is e = subst (IsInReach entry) (same_Some _ new e) tt
  put_reach heap places.Int (Int n) new is e = subst (IsInReach entry) (same_Some _ new e) tt
  put_reach heap places.Bools Null new is e = subst (IsInReach entry) (same_Some _ new e) tt
  put_reach heap places.Bools (Array a) new is e =
      subst (IsInReach entry) (cond_some (has_array heap places.Bools a) (Array a) new e).1 is
  put_reach heap places.Ints Null new is e = subst (IsInReach entry) (same_Some _ new e) tt
  put_reach heap places.Ints (Array a) new is e =
      subst (IsInReach entry) (cond_some (has_array heap places.Ints a) (Array a) new e).1 is
  put_reach heap _ _ new is e = absurd (none-some new e)

  with_first_reach : (first : Option Value) (others : Option (List Value)) (vs : List Value)
      → ((v : Value) → first ≡ Some v → IsInReach entry v)
      → ((us : List Value) → others ≡ Some us → AllByRecursion (IsInReach entry) us) → with_first first others ≡ Some vs
      → AllByRecursion (IsInReach entry) vs
  with_first_reach (Some v) (Some us) vs one more e =
      subst (AllByRecursion (IsInReach entry)) (same_Some (v ∷ us) vs e) (one v refl, more us refl)
  with_first_reach (Some v) None vs one more e = absurd (none-some vs e)
  with_first_reach None others vs one more e = absurd (none-some vs e)

  pub put_all_reach : (heap : Heap) (types : List Place) (vs new : List Value) → AllByRecursion (IsInReach entry) vs
      → put_all heap types vs ≡ Some new
      → AllByRecursion (IsInReach entry) new
  put_all_reach heap [] [] new are e = subst (AllByRecursion (IsInReach entry)) (same_Some [] new e) tt
  put_all_reach heap (place ∷ types) (v ∷ vs) new are e =
      with_first_reach (put heap place v) (put_all heap types vs) new (λ w f. put_reach heap place v w are.0 f)
      (λ us f. put_all_reach heap types vs us are.1 f) e
  put_all_reach heap [] (v ∷ vs) new are e = absurd (none-some new e)
  put_all_reach heap (place ∷ types) [] new are e = absurd (none-some new e)

  stored_reach : (heap : Heap) (types : List Place) (n : ℕ) (value : Value) (variables new : List Value)
      → AllByRecursion (IsInReach entry) variables
      → IsInReach entry value → stored heap types n value variables ≡ Some new → AllByRecursion (IsInReach entry) new
  stored_reach heap types n value variables new are is e =
      let (v, found, new_is) =
      map_from (λ (v : Value). slice_set variables n v)
      (option_and_then (λ place. put heap place value) (slice_get types n)) new e in
      let place = and_then_from (λ place. put heap place value) (slice_get types n) v found in
      subst (AllByRecursion (IsInReach entry)) (sym new_is)
      (all_with (IsInReach entry) variables n v are (put_reach heap place.value value v is place.gave))

-- ---- effects

-- A frame that went on over a heap: it began where the other one did, it has what it can come to, and of the arrays
-- that there were only those changed that it can come to.
pub record GoesOnInReach (entry : Entry) (f : Frame) (heap : Heap) (new : Frame) (after : Heap) : Type 0 where
  pub same : entry_of new ≡ entry_of f
  pub args : AllByRecursion (IsInReach entry) new.args
  pub locals : AllByRecursion (IsInReach entry) new.locals
  pub stack : AllByRecursion (IsInReach entry) new.stack
  pub items : (a : ℕ) → a < length heap → (IsInReach entry (Array a) → ⊥) → slice_get after a ≡ slice_get heap a

abbrev pub EffectInReach : Entry → Frame → Heap → Effect → Type 0
EffectInReach entry f heap (GoesOn new after) = GoesOnInReach entry f heap new after
EffectInReach entry f heap _ = Unit {0}

module _ (entry : Entry) (unit : MethodUnit) (i : Instr) (f : Frame) (heap : Heap)
    (more : length entry.heap ≤ length heap)
    (args : AllByRecursion (IsInReach entry) f.args) (locals : AllByRecursion (IsInReach entry) f.locals) where
  abbrev Are : List Value → Type 0
  Are vs = AllByRecursion (IsInReach entry) vs

  abbrev Keep : List Effect → Type 0
  Keep es = AllByRecursion (EffectInReach entry f heap) es

  -- ---- forms of rows

  goes : (at : ℕ) (stack : List Value) → Are stack → Keep (goes_to at f heap stack)
  goes at stack are =
      (record { same = refl; args = args; locals = locals; stack = are; items = λ a below apart. refl }, tt)

  pushes_keep : (rest : List Value) (value : Option Value) → Are rest
      → ((v : Value) → value ≡ Some v → IsInReach entry v) → Keep (pushes i f heap rest value)
  pushes_keep rest None are is = tt
  pushes_keep rest (Some v) are is = goes (i.at + i.size) (v ∷ rest) (is v refl, are)

  branches_keep : (target : ℕ) (rest : List Value) (test : Option Bool) → Are rest
      → Keep (branches target i f heap rest test)
  branches_keep target rest None are = tt
  branches_keep target rest (Some true) are = goes target rest are
  branches_keep target rest (Some false) are = goes (i.at + i.size) rest are

  gives_keep : (rest : List Value) (outcome : Result ℤ FaultKind) → Are rest → Keep (gives i f heap rest outcome)
  gives_keep rest (Ok n) are = goes (i.at + i.size) (Int n ∷ rest) (tt, are)
  gives_keep rest (Err kind) are = (tt, tt)

  args_keep : (rest : List Value) (stored : Option (List Value)) → Are rest
      → ((new : List Value) → stored ≡ Some new → Are new)
      → Keep (with_args i f heap rest stored)
  args_keep rest None are new = tt
  args_keep rest (Some vs) are new =
      (record { same = refl; args = new vs refl; locals = locals; stack = are; items = λ a below apart. refl }, tt)

  locals_keep : (rest : List Value) (stored : Option (List Value)) → Are rest
      → ((new : List Value) → stored ≡ Some new → Are new)
      → Keep (with_locals i f heap rest stored)
  locals_keep rest None are new = tt
  locals_keep rest (Some vs) are new =
      (record { same = refl; args = args; locals = new vs refl; stack = are; items = λ a below apart. refl }, tt)

  switches_to_keep : (rest : List Value) (target : Option ℕ) → Are rest → Keep (switches_to i f heap rest target)
  switches_to_keep rest None are = goes (i.at + i.size) rest are
  switches_to_keep rest (Some target) are = goes target rest are

  tests_keep : (otherwise : Effect) (below : Option (List Value)) → EffectInReach entry f heap otherwise
      → ((rest : List Value) → below ≡ Some rest → Are rest)
      → Keep (tests_condition otherwise i f heap below)
  tests_keep otherwise (Some (Int n ∷ rest)) other are =
      cond_both (int_eq n (pos 0)) _ _ Keep (λ e. (other, tt))
      (λ e. goes (i.at + i.size) rest (are (Int n ∷ rest) refl).1)
  tests_keep otherwise _ other are = tt

  at_index_keep : (cell : ArrayCell) (n : ℤ) (done : List Effect) → Keep done → Keep (at_index cell n done)
  at_index_keep cell n done keep =
      cond_both (int_lt n (pos 0)) _ _ Keep (λ e. (tt, tt))
      (λ e. cond_both (int_le (pos (length cell.items)) n) _ _ Keep (λ g. (tt, tt)) (λ g. keep))

  of_place_keep : (place : Place) (found : Option ArrayCell) (done : ArrayCell → List Effect)
      → ((cell : ArrayCell) → Keep (done cell))
      → Keep (of_place place found done)
  of_place_keep place None done keep = tt
  of_place_keep place (Some cell) done keep =
      cond_both (same_place cell.place place) _ _ Keep (λ e. keep cell) (λ e. tt)

  -- ---- moves

  stores_arg_keep : (n : ℕ) (stack : List Value) → Are stack → Keep (stores_arg unit n i f heap stack)
  stores_arg_keep n [] are = tt
  stores_arg_keep n (v ∷ rest) are =
      args_keep rest (stored heap unit.args n v f.args) are.1
      (λ new e. stored_reach entry heap unit.args n v f.args new args are.0 e)

  stores_local_keep : (n : ℕ) (stack : List Value) → Are stack → Keep (stores_local unit n i f heap stack)
  stores_local_keep n [] are = tt
  stores_local_keep n (v ∷ rest) are =
      locals_keep rest (stored heap unit.locals n v f.locals) are.1
      (λ new e. stored_reach entry heap unit.locals n v f.locals new locals are.0 e)

  duplicates_keep : (stack : List Value) → Are stack → Keep (duplicates i f heap stack)
  duplicates_keep [] are = tt
  duplicates_keep (v ∷ rest) are = goes (i.at + i.size) (v ∷ v ∷ rest) (are.0, are)

  pops_keep : (stack : List Value) → Are stack → Keep (pops i f heap stack)
  pops_keep [] are = tt
  pops_keep (v ∷ rest) are = goes (i.at + i.size) rest are.1

  -- ---- numbers

  arithmetic_keep : (operator : BinOp) (stack : List Value) → Are stack → Keep (arithmetic operator i f heap stack)
  arithmetic_keep operator (Int b ∷ Int a ∷ rest) are = gives_keep rest (operated operator a b) are.1.1
  arithmetic_keep operator _ are = tt

  comparison_in_reach : (op : CmpOp) (a b v : Value) → comparison_value op a b ≡ Some v → IsInReach entry v
  comparison_in_reach op a b v e =
      let (holds, is, same) = map_from (λ (holds : Bool). Int (truth holds)) (pushed_comparison op a b) v e in
      subst (IsInReach entry) (sym same) tt

  comparison_keep : (op : CmpOp) (stack : List Value) → Are stack → Keep (comparison op i f heap stack)
  comparison_keep op (b ∷ a ∷ rest) are =
      pushes_keep rest (comparison_value op a b) are.1.1 (λ v e. comparison_in_reach op a b v e)
  comparison_keep op [] are = tt
  comparison_keep op (b ∷ []) are = tt

  binary_keep : (operator : BinOp) (op : Option CmpOp) (stack : List Value) → Are stack
      → Keep (binary operator op i f heap stack)
  binary_keep operator None stack are = arithmetic_keep operator stack are
  binary_keep operator (Some op) stack are = comparison_keep op stack are

  changes_keep : (operator : UnOp) (stack : List Value) → Are stack → Keep (changes operator i f heap stack)
  changes_keep operator (Int a ∷ rest) are = goes (i.at + i.size) (Int (operated_one operator a) ∷ rest) (tt, are.1)
  changes_keep operator _ are = tt

  converts_keep : (stack : List Value) → Are stack → Keep (converts i f heap stack)
  converts_keep (Native n ∷ rest) are = goes (i.at + i.size) (Int (pos n) ∷ rest) (tt, are.1)
  converts_keep (Int n ∷ rest) are = goes (i.at + i.size) (Int n ∷ rest) are
  converts_keep _ are = tt

  -- ---- branches

  branches_by_keep : (test : Test) (target : ℕ) (stack : List Value) → Are stack
      → Keep (branches_by test target i f heap stack)
  branches_by_keep tests.Always target stack are = goes target stack are
  branches_by_keep tests.True target (v ∷ rest) are = branches_keep target rest (is_true v) are.1
  branches_by_keep tests.False target (v ∷ rest) are = branches_keep target rest (option_map not (is_true v)) are.1
  branches_by_keep (tests.Cmp op) target (b ∷ a ∷ rest) are = branches_keep target rest (compares_values op a b) are.1.1
  branches_by_keep tests.True target [] are = tt
  branches_by_keep tests.False target [] are = tt
  branches_by_keep (tests.Cmp op) target [] are = tt
  branches_by_keep (tests.Cmp op) target (b ∷ []) are = tt

  switches_keep : (targets : List ℕ) (stack : List Value) → Are stack → Keep (switches targets i f heap stack)
  switches_keep targets (Int n ∷ rest) are = switches_to_keep rest (slice_get targets (unsigned n)) are.1
  switches_keep targets _ are = tt

  -- ---- arrays

  makes_keep : (place : Place) (n : ℤ) (rest : List Value) → Are rest → Keep (makes place n i f heap rest)
  makes_keep place n rest are =
      let new = zeros place (unsigned_abs n) in
      cond_both (int_lt n (pos 0)) _ _ Keep (λ e. (tt, tt))
      (λ e. (
        tt,
        (
          record {
            same = refl;
            args = args;
            locals = locals;
            stack = (inr more, are);
            items = λ a below apart. get_before heap (new ∷ []) a below;
          },
          tt,
        ),
      ))

  makes_number_keep : (place : Option Place) (n : Option ℤ) (rest : List Value) → Are rest
      → Keep (makes_number place n i f heap rest)
  makes_number_keep (Some place) (Some n) rest are = makes_keep place n rest are
  makes_number_keep None n rest are = tt
  makes_number_keep (Some place) None rest are = tt

  new_array_keep : (place : Option Place) (stack : List Value) → Are stack → Keep (new_array place i f heap stack)
  new_array_keep place [] are = tt
  new_array_keep place (v ∷ rest) are = makes_number_keep place (number_of v) rest are.1

  array_length_keep : (stack : List Value) → Are stack → Keep (array_length i f heap stack)
  array_length_keep (Null ∷ rest) are = (tt, tt)
  array_length_keep (Array a ∷ rest) are =
      pushes_keep rest (option_map (λ (cell : ArrayCell). Native (length cell.items)) (slice_get heap a)) are.1
      (λ v e.
      let (cell, there, is) = map_from (λ (cell : ArrayCell). Native (length cell.items)) (slice_get heap a) v e in
      subst (IsInReach entry) (sym is) tt)
  array_length_keep _ are = tt

  item_keep : (rest : List Value) (item : Option ℤ) → Are rest → Keep (pushes i f heap rest (option_map Int item))
  item_keep rest None are = tt
  item_keep rest (Some n) are = goes (i.at + i.size) (Int n ∷ rest) (tt, are)

  loads_keep : (place : Place) (stack : List Value) → Are stack → Keep (loads place i f heap stack)
  loads_keep place (Int n ∷ Null ∷ rest) are = (tt, tt)
  loads_keep place (Int n ∷ Array a ∷ rest) are =
      of_place_keep place (slice_get heap a) (λ cell. at_index cell n (pushes i f heap rest (item_value cell n)))
      (λ cell. at_index_keep cell n (pushes i f heap rest (item_value cell n))
      (item_keep rest (slice_get cell.items (unsigned_abs n)) are.1.1))
  loads_keep place _ are = tt

  -- An item of an array in reach is replaced.
  stored_keep : (at a n : ℕ) (cell : ArrayCell) (item : ℤ) (rest : List Value) → IsInReach entry (Array a) → Are rest
      → Keep (goes_to at f (with_item heap a cell n item) rest)
  stored_keep at a n cell item rest is are = (
    record {
      same = refl;
      args = args;
      locals = locals;
      stack = are;
      items = λ b below apart. set_apart heap a b _ (λ same. apart (subst (λ (k : ℕ). IsInReach entry (Array k)) same is));
    },
    tt,
  )

  stores_keep : (place : Place) (stack : List Value) → Are stack → Keep (stores place i f heap stack)
  stores_keep place (Int v ∷ Int n ∷ Null ∷ rest) are = (tt, tt)
  stores_keep place (Int v ∷ Int n ∷ Array a ∷ rest) are =
      of_place_keep place (slice_get heap a)
      (λ cell. at_index cell n
      (goes_to (i.at + i.size) f (with_item heap a cell (unsigned_abs n) (item_of place v)) rest))
      (λ cell. at_index_keep cell n _
      (stored_keep (i.at + i.size) a (unsigned_abs n) cell (item_of place v) rest are.1.1.0 are.1.1.1))
  stores_keep place _ are = tt

  -- ---- addresses: an address is in reach where its array is

  addresses_keep : (place : Place) (stack : List Value) → Are stack → Keep (addresses place i f heap stack)
  addresses_keep place (Int n ∷ Null ∷ rest) are = (tt, tt)
  addresses_keep place (Int n ∷ Array a ∷ rest) are =
      of_place_keep place (slice_get heap a)
      (λ cell. at_index cell n (goes_to (i.at + i.size) f heap (Addr a (unsigned_abs n) ∷ rest)))
      (λ cell. at_index_keep cell n _
      (goes (i.at + i.size) (Addr a (unsigned_abs n) ∷ rest) (are.1.0, are.1.1)))
  addresses_keep place _ are = tt

  takes_address_keep : (place : Option Place) (stack : List Value) → Are stack
      → Keep (takes_address place i f heap stack)
  takes_address_keep None stack are = tt
  takes_address_keep (Some place) stack are = addresses_keep place stack are

  loads_through_keep : (place : Place) (stack : List Value) → Are stack → Keep (loads_through place i f heap stack)
  loads_through_keep place (Addr a n ∷ rest) are =
      of_place_keep place (slice_get heap a)
      (λ cell. pushes i f heap rest (option_map Int (slice_get cell.items n)))
      (λ cell. item_keep rest (slice_get cell.items n) are.1)
  loads_through_keep place _ are = tt

  stores_through_keep : (place : Place) (stack : List Value) → Are stack → Keep (stores_through place i f heap stack)
  stores_through_keep place (Int v ∷ Addr a n ∷ rest) are =
      of_place_keep place (slice_get heap a)
      (λ cell.
      if nat_lt n (length cell.items)
      then goes_to (i.at + i.size) f (with_item heap a cell n (item_of place v)) rest else [])
      (λ cell. cond_both (nat_lt n (length cell.items)) _ _ Keep
      (λ within. stored_keep (i.at + i.size) a n cell (item_of place v) rest are.1.0 are.1.1) (λ beyond. tt))
  stores_through_keep place _ are = tt

  -- ---- Assert and Assume

  below_message_are : (message : Bool) (stack rest : List Value) → Are stack → below_message message stack ≡ Some rest
      → Are rest
  below_message_are false stack rest are e = subst Are (same_Some stack rest e) are
  below_message_are true (Text ∷ others) rest are e = subst Are (same_Some others rest e) are.1
  below_message_are true _ rest are e = absurd (none-some rest e)

  contract_call_keep : (call : Option UnitCall) → Are f.stack → Keep (contract_call call i f heap)
  contract_call_keep (Some (calls.Assert message)) are =
      tests_keep (Faults faults.Assert) (below_message message f.stack) tt
      (λ rest e. below_message_are message f.stack rest are e)
  contract_call_keep (Some (calls.Assume message)) are =
      tests_keep Assumes (below_message message f.stack) tt (λ rest e. below_message_are message f.stack rest are e)
  contract_call_keep _ are = tt

  -- ---- all rows

  each_keeps : (op : Op) → Are f.stack → Keep (effects_of op unit i f heap)
  each_keeps ops.Nop are = goes (i.at + i.size) f.stack are
  each_keeps (ops.LoadArg n) are =
      pushes_keep f.stack (slice_get f.args n) are (λ v e. all_at (IsInReach entry) f.args n v args e)
  each_keeps (ops.StoreArg n) are = stores_arg_keep n f.stack are
  each_keeps (ops.LoadLocal n) are =
      pushes_keep f.stack (slice_get f.locals n) are (λ v e. all_at (IsInReach entry) f.locals n v locals e)
  each_keeps (ops.StoreLocal n) are = stores_local_keep n f.stack are
  each_keeps ops.Null are = goes (i.at + i.size) (Null ∷ f.stack) (tt, are)
  each_keeps (ops.Const n) are = goes (i.at + i.size) (Int n ∷ f.stack) (tt, are)
  each_keeps ops.Dup are = duplicates_keep f.stack are
  each_keeps ops.Pop are = pops_keep f.stack are
  each_keeps (ops.Call number) are = contract_call_keep (unit_call number) are
  each_keeps ops.Return are = tt
  each_keeps (ops.Branch test target) are = branches_by_keep test target f.stack are
  each_keeps (ops.Switch targets) are = switches_keep targets f.stack are
  each_keeps (ops.Bin operator) are = binary_keep operator (comparison_of operator) f.stack are
  each_keeps ops.Neg are = changes_keep unary.Neg f.stack are
  each_keeps ops.Not are = changes_keep unary.Not f.stack are
  each_keeps ops.ConvI4 are = converts_keep f.stack are
  each_keeps (ops.Text token) are = goes (i.at + i.size) (Text ∷ f.stack) (tt, are)
  each_keeps (ops.NewArray number) are = new_array_keep (array_place number) f.stack are
  each_keeps ops.Length are = array_length_keep f.stack are
  each_keeps (ops.LoadElem place) are = loads_keep place f.stack are
  each_keeps (ops.StoreElem place) are = stores_keep place f.stack are
  each_keeps (ops.LoadAddr number) are = takes_address_keep (array_place number) f.stack are
  each_keeps (ops.LoadInd place) are = loads_through_keep place f.stack are
  each_keeps (ops.StoreInd place) are = stores_through_keep place f.stack are

  this_keeps : (es : List Effect) (effect : Effect) → Keep es → HasEffect es effect → EffectInReach entry f heap effect
  this_keeps [] effect keep has = absurd has
  this_keeps (e ∷ es) effect keep (inl same) = subst (EffectInReach entry f heap) (sym same) keep.0
  this_keeps (e ∷ es) effect keep (inr others) = this_keeps es effect keep.1 others

  -- Whatever an instruction does to its own frame.
  pub effect_in_reach : (effect : Effect) → AllByRecursion (IsInReach entry) f.stack
      → HasEffect (effects unit i f heap) effect
      → EffectInReach entry f heap effect
  effect_in_reach effect are has = this_keeps (effects unit i f heap) effect (each_keeps i.op are) has
