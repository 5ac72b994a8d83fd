-- An instruction that finds operands of kinds that it takes does something, and where its frame goes on, the stack
-- has the kinds that it leaves.
use Rattle.std.proofs.Common.{◌≡◌, ◌⊎◌, ℕ, zero, suc, ◌+◌, ◌==◌, ℤ, pos, int_lt, int_le, int_eq, nat_lt, unsigned_abs, Bool, true, false, not, List, [], ◌∷◌, ◌++◌, length, slice_get, slice_set, get_or, ◌<◌, if◌then◌else◌, Option, Some, None, option_map, Result, Ok, Err, refl, sym, ap, subst, inl, inr}
use Rattle.std.specs.List.{AllByRecursion}
use Rattle.std.specs.Option.{option_and_then}
use Rattle.std.proofs.lemmas.Bool.{and_parts, cond_both, lt-ltb}
use Rattle.std.proofs.lemmas.List.{length-set}
use Rattle.std.proofs.lemmas.Option.{none-some, slice_get-get_or}
use Rattle.cil_model.specs.Arithmetic.{operated, operated_one, truth, unsigned}
use Rattle.cil_model.specs.Comparisons.{comparison_of, compares_values, is_true, number_of}
use Rattle.cil_model.specs.Effects.{Effect, GoesOn, Faults, Assumes, addresses, arithmetic, array_length, at_index, below_message, binary, branches, branches_by, changes, comparison, contract_call, converts, duplicates, effects_of, gives, goes_on, item_of, loads, loads_through, makes, makes_number, new_array, of_place, pops, pushes, stores, stores_arg, stores_local, stores_through, switches, switches_to, takes_address, tests_condition, with_args, with_item, with_locals, zeros}
use Rattle.cil_model.specs.Kinds.{behind, behind_address, behind_arithmetic, behind_call, behind_comparison, behind_condition, behind_conversion, behind_length, behind_load, behind_load_through, behind_new_array, behind_number, behind_operator, behind_store, behind_store_through, behind_switch, behind_test, compares_kinds, duplicated, is_address_of, is_array_of, is_number, is_reference, is_tested, kind_of, loaded, popped, pushed_kind, pushes_comparison, stored_kind, takes, when}
use Rattle.cil_model.specs.Passes.{successors}
use Rattle.cil_model.specs.Shapes.{shape_of}
use Rattle.cil_model.specs.UnitCalls.{array_place, unit_call}
use Rattle.cil_model.specs.Values.{Heap, FitPlaces, FitsPlace, HasItemOf, has_array, put, same_place}
use Rattle.cil_model.specs.declared.instruction.BinOp.{BinOp}
use Rattle.cil_model.specs.declared.instruction.CmpOp.{CmpOp}
use Rattle.cil_model.specs.declared.instruction.Instr.{Instr}
use Rattle.cil_model.specs.declared.instruction.Op.{Op}
use Rattle.cil_model.specs.declared.instruction.Op.TheVariants as ops
use Rattle.cil_model.specs.declared.instruction.Test.{Test}
use Rattle.cil_model.specs.declared.instruction.Test.TheVariants as tests
use Rattle.cil_model.specs.declared.instruction.UnOp.{UnOp}
use Rattle.cil_model.specs.declared.instruction.UnOp.TheVariants as unary
use Rattle.cil_model.specs.declared.machine.ArrayCell.{ArrayCell}
use Rattle.cil_model.specs.declared.machine.FaultKind.{FaultKind}
use Rattle.cil_model.specs.declared.machine.FaultKind.TheVariants as faults
use Rattle.cil_model.specs.declared.machine.Frame.{Frame}
use Rattle.cil_model.specs.declared.machine.Value.{Value}
use Rattle.cil_model.specs.declared.machine.Value.TheVariants as values
use Rattle.cil_model.specs.declared.place.Kind.{Kind}
use Rattle.cil_model.specs.declared.place.Kind.TheVariants.{Int, Native, Ints, Bools, Text, NullRef, AddrInts, AddrBools}
use Rattle.cil_model.specs.declared.place.Place.{Place}
use Rattle.cil_model.specs.declared.place.Place.TheVariants as places
use Rattle.cil_model.specs.declared.unit.Unit.{Unit as MethodUnit}
use Rattle.cil_model.specs.declared.unit_numbers.UnitCall.{UnitCall}
use Rattle.cil_model.specs.declared.unit_numbers.UnitCall.TheVariants as calls
use Rattle.cil_model.proofs.HeapsKept.{item_of_array, item_within, keeps_before, keeps_others}
use Rattle.cil_model.proofs.KindForms.{HasForm, HaveForms, HaveForms-kept, array_is, form_of_place, put_defined}
use Rattle.cil_model.proofs.KindValues.{address_is, array_found, array_of, compares_defined, item_there, null_or_array, number_is, pushed_defined, tested, within_length}

-- ---- what fits

abbrev pub IsOneOf : List ℕ → ℕ → Type 0
IsOneOf [] at = ⊥
IsOneOf (a ∷ ats) at = (at ≡ a) ⊎ IsOneOf ats at

last_is_one : (ats : List ℕ) (at : ℕ) → IsOneOf (ats ++ at ∷ []) at
last_is_one [] at = inl refl
last_is_one (a ∷ ats) at = inr (last_is_one ats at)

found_is_one : (ats more : List ℕ) (k at : ℕ) → slice_get ats k ≡ Some at → IsOneOf (ats ++ more) at
found_is_one [] more k at e = absurd (none-some at e)
found_is_one (a ∷ ats) more zero at e = inl cc
found_is_one (a ∷ ats) more (suc k) at e = inr (found_is_one ats more k at e)

-- The frame goes on at one of the offsets, with values of these kinds, or the run ends.
abbrev pub EffectFits : List ℕ → List Kind → Effect → Type 0
EffectFits ats kinds (GoesOn new after) = IsOneOf ats new.at × HaveForms after kinds new.stack
EffectFits ats kinds _ = Unit {0}

-- There are effects, and they fit.
abbrev pub AllFit : List ℕ → List Kind → List Effect → Type 0
AllFit ats kinds [] = ⊥
AllFit ats kinds (e ∷ es) = EffectFits ats kinds e × AllByRecursion (EffectFits ats kinds) es

-- So it is where the operands are typed.
abbrev pub FitBehind : List ℕ → Option (List Kind) → List Effect → Type 0
FitBehind ats None es = Unit {0}
FitBehind ats (Some kinds) es = AllFit ats kinds es

when_fits : (ats : List ℕ) (test : Bool) (kinds : List Kind) (es : List Effect) → (test ≡ true → AllFit ats kinds es)
    → FitBehind ats (when test kinds) es
when_fits ats true kinds es fit = fit refl
when_fits ats false kinds es fit = tt

-- ---- operations

-- The operation is done in its own frame: it is no return and no call but of Assert and Assume.
abbrev pub IsOwnCall : Option UnitCall → Type 0
IsOwnCall (Some (calls.Assert message)) = Unit {0}
IsOwnCall (Some (calls.Assume message)) = Unit {0}
IsOwnCall None = Unit {0}
IsOwnCall _ = ⊥

abbrev pub IsOwn : Op → Type 0
IsOwn ops.Return = ⊥
IsOwn (ops.Call number) = IsOwnCall (unit_call number)
IsOwn _ = Unit {0}

-- The type of the arrays that newarr makes, if it names any.
abbrev IsOfArrays : Option Place → Type 0
IsOfArrays None = Unit {0}
IsOfArrays (Some places.Bools) = Unit {0}
IsOfArrays (Some places.Ints) = Unit {0}
IsOfArrays _ = ⊥

array_place_is : (number : ℕ) → IsOfArrays (array_place number)
array_place_is number =
    cond_both (number == 1) _ _ IsOfArrays (λ one. tt) (λ other. cond_both (number == 2) _ _ IsOfArrays (λ two. tt) (λ others. tt))

last_array : (old : Heap) (cell : ArrayCell) (place : Place) → same_place cell.place place ≡ true
    → has_array (old ++ cell ∷ []) place (length old) ≡ true
last_array [] cell place same = same
last_array (first ∷ old) cell place same = last_array old cell place same

module _ (unit : MethodUnit) (i : Instr) (f : Frame) (heap : Heap) where
  abbrev next : List ℕ
  next = (i.at + i.size) ∷ []

  on : (kinds : List Kind) (stack : List Value) → HaveForms heap kinds stack → AllFit next kinds (goes_on i f heap stack)
  on kinds stack h = ((inl refl, h), tt)

  -- ---- moves

  place_fits : (place : Place) (v : Value) (kinds : List Kind) → FitsPlace heap place v → HaveForms heap kinds f.stack
      → FitBehind next (option_map (λ kind. kind ∷ kinds) (kind_of place)) (goes_on i f heap (v ∷ f.stack))
  place_fits places.Void v kinds fits h = tt
  place_fits places.Bool v kinds fits h = on (Int ∷ kinds) (v ∷ f.stack) (form_of_place heap places.Bool v kinds f.stack fits h)
  place_fits places.Int v kinds fits h = on (Int ∷ kinds) (v ∷ f.stack) (form_of_place heap places.Int v kinds f.stack fits h)
  place_fits places.Bools v kinds fits h = on (Bools ∷ kinds) (v ∷ f.stack) (form_of_place heap places.Bools v kinds f.stack fits h)
  place_fits places.Ints v kinds fits h = on (Ints ∷ kinds) (v ∷ f.stack) (form_of_place heap places.Ints v kinds f.stack fits h)

  load_fits : (places : List Place) (vs : List Value) (n : ℕ) (kinds : List Kind) → FitPlaces heap places vs → HaveForms heap kinds f.stack
      → FitBehind next (loaded (slice_get places n) kinds) (pushes i f heap f.stack (slice_get vs n))
  load_fits [] vs n kinds fit h = tt
  load_fits (place ∷ places) (v ∷ vs) zero kinds fit h = place_fits place v kinds fit.0 h
  load_fits (place ∷ places) (v ∷ vs) (suc n) kinds fit h = load_fits places vs n kinds fit.1 h
  load_fits (place ∷ places) [] n kinds fit h = absurd fit

  stored_fits : (place : Option Place) (kind : Kind) (rest : List Kind) (v : Value) (variables : List Value) (n : ℕ) (done : Option (List Value) → List Effect)
      → HasForm heap kind v → ((new : List Value) → AllFit next rest (done (Some new)))
      → FitBehind next (stored_kind place (kind ∷ rest)) (done (option_map (λ new. slice_set variables n new) (option_and_then (λ place. put heap place v) place)))
  stored_fits None kind rest v variables n done form goes = tt
  stored_fits (Some place) kind rest v variables n done form goes =
      when_fits next (takes place kind) rest _
      (λ taken. let (w, is) = put_defined heap place kind v taken form in
      subst (λ (o : Option Value). AllFit next rest (done (option_map (λ new. slice_set variables n new) o))) (sym is)
      (goes (slice_set variables n w)))

  nothing_stored : (place : Option Place) (es : List Effect) → FitBehind next (stored_kind place []) es
  nothing_stored None es = tt
  nothing_stored (Some place) es = tt

  stores_arg_fits : (n : ℕ) (kinds : List Kind) (stack : List Value) → HaveForms heap kinds stack
      → FitBehind next (stored_kind (slice_get unit.args n) kinds) (stores_arg unit n i f heap stack)
  stores_arg_fits n (kind ∷ rest) (v ∷ vs) h =
      stored_fits (slice_get unit.args n) kind rest v f.args n (with_args i f heap vs) h.0 (λ new. ((inl refl, h.1), tt))
  stores_arg_fits n [] stack h = nothing_stored (slice_get unit.args n) _
  stores_arg_fits n (kind ∷ rest) [] h = absurd h

  stores_local_fits : (n : ℕ) (kinds : List Kind) (stack : List Value) → HaveForms heap kinds stack
      → FitBehind next (stored_kind (slice_get unit.locals n) kinds) (stores_local unit n i f heap stack)
  stores_local_fits n (kind ∷ rest) (v ∷ vs) h =
      stored_fits (slice_get unit.locals n) kind rest v f.locals n (with_locals i f heap vs) h.0 (λ new. ((inl refl, h.1), tt))
  stores_local_fits n [] stack h = nothing_stored (slice_get unit.locals n) _
  stores_local_fits n (kind ∷ rest) [] h = absurd h

  duplicates_fit : (kinds : List Kind) (stack : List Value) → HaveForms heap kinds stack
      → FitBehind next (duplicated kinds) (duplicates i f heap stack)
  duplicates_fit (kind ∷ rest) (v ∷ vs) h = on (kind ∷ kind ∷ rest) (v ∷ v ∷ vs) (h.0, h)
  duplicates_fit [] stack h = tt
  duplicates_fit (kind ∷ rest) [] h = absurd h

  pops_fit : (kinds : List Kind) (stack : List Value) → HaveForms heap kinds stack → FitBehind next (popped kinds) (pops i f heap stack)
  pops_fit (kind ∷ rest) (v ∷ vs) h = on rest vs h.1
  pops_fit [] stack h = tt
  pops_fit (kind ∷ rest) [] h = absurd h

  -- ---- numbers

  gives_fit : (rest : List Kind) (vs : List Value) (outcome : Result ℤ FaultKind) → HaveForms heap rest vs
      → AllFit next (Int ∷ rest) (gives i f heap vs outcome)
  gives_fit rest vs (Ok n) h = on (Int ∷ rest) (values.Int n ∷ vs) (tt, h)
  gives_fit rest vs (Err kind) h = (tt, tt)

  arithmetic_fits : (operator : BinOp) (kinds : List Kind) (stack : List Value) → HaveForms heap kinds stack
      → FitBehind next (behind_arithmetic kinds) (arithmetic operator i f heap stack)
  arithmetic_fits operator (Int ∷ Int ∷ rest) (values.Int b ∷ values.Int a ∷ vs) h = gives_fit rest vs (operated operator a b) h.1.1
  arithmetic_fits operator (Int ∷ Int ∷ rest) _ h = absurd (search)
  arithmetic_fits operator _ stack h = tt

  comparison_fits : (op : CmpOp) (kinds : List Kind) (stack : List Value) → HaveForms heap kinds stack
      → FitBehind next (behind_comparison op kinds) (comparison op i f heap stack)
  comparison_fits op (b ∷ a ∷ rest) (w ∷ v ∷ vs) h =
      when_fits next (pushes_comparison op a b) (Int ∷ rest) _
      (λ compared. let (holds, is) = pushed_defined heap op a b v w compared h.1.0 h.0 in
      subst (λ (o : Option Bool). AllFit next (Int ∷ rest) (pushes i f heap vs (option_map (λ holds. values.Int (truth holds)) o))) (sym is)
      (on (Int ∷ rest) (values.Int (truth holds) ∷ vs) (tt, h.1.1)))
  comparison_fits op (b ∷ a ∷ rest) _ h = absurd (search)
  comparison_fits op _ stack h = tt

  binary_fits : (operator : BinOp) (op : Option CmpOp) (kinds : List Kind) (stack : List Value) → HaveForms heap kinds stack
      → FitBehind next (behind_operator op kinds) (binary operator op i f heap stack)
  binary_fits operator None kinds stack h = arithmetic_fits operator kinds stack h
  binary_fits operator (Some op) kinds stack h = comparison_fits op kinds stack h

  changes_fit : (operator : UnOp) (kinds : List Kind) (stack : List Value) → HaveForms heap kinds stack
      → FitBehind next (behind_number kinds) (changes operator i f heap stack)
  changes_fit operator (Int ∷ rest) (values.Int a ∷ vs) h = on (Int ∷ rest) (values.Int (operated_one operator a) ∷ vs) (tt, h.1)
  changes_fit operator (Int ∷ rest) _ h = absurd (search)
  changes_fit operator _ stack h = tt

  -- A value of a kind that is a number is one.
  not_number : (kind : Kind) (v : Value) → number_of v ≡ None → HasForm heap kind v → is_number kind ≡ true → ⊥
  not_number kind v none form e = let (n, is) = number_is heap kind v e form in none-some n (cc)

  converts_fits : (kinds : List Kind) (stack : List Value) → HaveForms heap kinds stack
      → FitBehind next (behind_conversion kinds) (converts i f heap stack)
  converts_fits (kind ∷ rest) (values.Int n ∷ vs) h =
      when_fits next (is_number kind) (Int ∷ rest) _ (λ e. on (Int ∷ rest) (values.Int n ∷ vs) (tt, h.1))
  converts_fits (kind ∷ rest) (values.Native n ∷ vs) h =
      when_fits next (is_number kind) (Int ∷ rest) _ (λ e. on (Int ∷ rest) (values.Int (pos n) ∷ vs) (tt, h.1))
  converts_fits (kind ∷ rest) (v ∷ vs) h = when_fits next (is_number kind) (Int ∷ rest) _ (λ e. absurd (not_number kind v refl h.0 e))
  converts_fits (kind ∷ rest) [] h = absurd h
  converts_fits [] stack h = tt

  -- ---- branches

  branches_fit : (target : ℕ) (rest : List Kind) (vs : List Value) (test : Option Bool) → HaveForms heap rest vs
      → ((holds : Bool) × (test ≡ Some holds))
      → AllFit (target ∷ next) rest (branches target i f heap vs test)
  branches_fit target rest vs (Some true) h known = ((inl refl, h), tt)
  branches_fit target rest vs (Some false) h known = ((inr (inl refl), h), tt)
  branches_fit target rest vs None h (holds, is) = absurd (none-some holds is)

  branches_by_fits : (test : Test) (target : ℕ) (kinds : List Kind) (stack : List Value) → HaveForms heap kinds stack
      → FitBehind (successors (ops.Branch test target) (i.at + i.size)) (behind_test test kinds) (branches_by test target i f heap stack)
  branches_by_fits tests.Always target kinds stack h = ((inl refl, h), tt)
  branches_by_fits tests.True target (kind ∷ rest) (v ∷ vs) h =
      when_fits (target ∷ next) (is_tested kind) rest _ (λ e. branches_fit target rest vs (is_true v) h.1 (tested heap kind v e h.0))
  branches_by_fits tests.False target (kind ∷ rest) (v ∷ vs) h =
      when_fits (target ∷ next) (is_tested kind) rest _
      (λ e. let (holds, is) = tested heap kind v e h.0 in branches_fit target rest vs (option_map not (is_true v)) h.1 (not holds, ap (option_map not) is))
  branches_by_fits (tests.Cmp op) target (b ∷ a ∷ rest) (w ∷ v ∷ vs) h =
      when_fits (target ∷ next) (compares_kinds op a b) rest _
      (λ e. branches_fit target rest vs (compares_values op v w) h.1.1 (compares_defined heap op a b v w e h.1.0 h.0))
  branches_by_fits tests.True target [] stack h = tt
  branches_by_fits tests.False target [] stack h = tt
  branches_by_fits (tests.Cmp op) target [] stack h = tt
  branches_by_fits (tests.Cmp op) target (b ∷ []) stack h = tt
  branches_by_fits _ target _ _ h = absurd (search)

  switches_to_fits : (targets : List ℕ) (n : ℕ) (target : Option ℕ) (rest : List Kind) (vs : List Value) → HaveForms heap rest vs
      → slice_get targets n ≡ target
      → AllFit (targets ++ next) rest (switches_to i f heap vs target)
  switches_to_fits targets n None rest vs h e = ((last_is_one targets (i.at + i.size), h), tt)
  switches_to_fits targets n (Some target) rest vs h e = ((found_is_one targets next n target e, h), tt)

  switches_fit : (targets : List ℕ) (kinds : List Kind) (stack : List Value) → HaveForms heap kinds stack
      → FitBehind (targets ++ next) (behind_switch kinds) (switches targets i f heap stack)
  switches_fit targets (Int ∷ rest) (values.Int n ∷ vs) h = switches_to_fits targets (unsigned n) (slice_get targets (unsigned n)) rest vs h.1 refl
  switches_fit targets (Int ∷ rest) _ h = absurd (search)
  switches_fit targets _ stack h = tt

  -- ---- arrays

  makes_fit : (place : Place) (kind : Kind) (n : ℤ) (rest : List Kind) (vs : List Value) → HaveForms heap rest vs
      → ((after : Heap) → has_array after place (length heap) ≡ true → HasForm after kind (values.Array (length heap)))
      → same_place place place ≡ true
      → AllFit next (kind ∷ rest) (makes place n i f heap vs)
  makes_fit place kind n rest vs h form same =
      let after : Heap = heap ++ zeros place (unsigned_abs n) ∷ [] in
      cond_both (int_lt n (pos 0)) _ _ (AllFit next (kind ∷ rest)) (λ negative. (tt, tt))
      (λ fine.
      let made : HasForm after kind (values.Array (length heap)) = form after (last_array heap (zeros place (unsigned_abs n)) place same) in
      let others : HaveForms after rest vs = HaveForms-kept heap after (keeps_before heap (zeros place (unsigned_abs n) ∷ [])) rest vs h in
      (tt, ((inl refl, (made, others)), tt)))

  makes_number_fits : (place : Option Place) (kind : Kind) (n : Option ℤ) (rest : List Kind) (vs : List Value) → IsOfArrays place
      → HaveForms heap rest vs
      → (is_number kind ≡ true → (m : ℤ) × (n ≡ Some m)) → FitBehind next (behind_new_array place (kind ∷ rest)) (makes_number place n i f heap vs)
  makes_number_fits None kind n rest vs arrays h known = tt
  makes_number_fits (Some places.Bools) kind (Some n) rest vs arrays h known =
      when_fits next (is_number kind) (Bools ∷ rest) _ (λ e. makes_fit places.Bools Bools n rest vs h (λ after has. has) refl)
  makes_number_fits (Some places.Ints) kind (Some n) rest vs arrays h known =
      when_fits next (is_number kind) (Ints ∷ rest) _ (λ e. makes_fit places.Ints Ints n rest vs h (λ after has. has) refl)
  makes_number_fits (Some place) kind None rest vs arrays h known =
      when_fits next (is_number kind) (pushed_kind (kind_of place) rest) _ (λ e. let (m, is) = known e in absurd (none-some m is))
  makes_number_fits (Some _) kind n rest vs arrays h known = absurd arrays

  new_array_fits : (number : ℕ) (kinds : List Kind) (stack : List Value) → HaveForms heap kinds stack
      → FitBehind next (behind_new_array (array_place number) kinds) (new_array (array_place number) i f heap stack)
  new_array_fits number (kind ∷ rest) (v ∷ vs) h =
      makes_number_fits (array_place number) kind (number_of v) rest vs (array_place_is number) h.1 (λ e. number_is heap kind v e h.0)
  new_array_fits number [] stack h = none (array_place number)
    where
      none : (place : Option Place) → FitBehind next (behind_new_array place []) (new_array (array_place number) i f heap stack)
      none None = tt
      none (Some place) = tt
  new_array_fits number (kind ∷ rest) [] h = absurd h

  array_length_fits : (kinds : List Kind) (stack : List Value) → HaveForms heap kinds stack
      → FitBehind next (behind_length kinds) (array_length i f heap stack)
  array_length_fits (kind ∷ rest) (values.Null ∷ vs) h = when_fits next (is_reference kind) (Native ∷ rest) _ (λ e. (tt, tt))
  array_length_fits (kind ∷ rest) (values.Array a ∷ vs) h =
      when_fits next (is_reference kind) (Native ∷ rest) _
      (λ e. let (cell, found) = array_found heap kind a h.0 in
      subst (λ (o : Option ArrayCell). AllFit next (Native ∷ rest) (pushes i f heap vs (option_map (λ cell. values.Native (length cell.items)) o))) (sym found)
      (on (Native ∷ rest) (values.Native (length cell.items) ∷ vs) (tt, h.1)))
  array_length_fits (kind ∷ rest) (v ∷ vs) h = when_fits next (is_reference kind) (Native ∷ rest) _ (λ e. absurd (null_or_array heap kind v e h.0))
  array_length_fits (kind ∷ rest) [] h = absurd h
  array_length_fits [] stack h = tt

  -- What is done with the array of a reference of this type.
  of_place_fits : (place : Place) (kind : Kind) (a : ℕ) (rest : List Kind) (done : ArrayCell → List Effect) → is_array_of place kind ≡ true
      → HasForm heap kind (values.Array a) → ((cell : ArrayCell) → slice_get heap a ≡ Some cell → AllFit next rest (done cell))
      → AllFit next rest (of_place place (slice_get heap a) done)
  of_place_fits place kind a rest done e form fit =
      let (cell, found, same) = array_is heap place a (array_of heap place kind a e form) in
      subst (λ (o : Option ArrayCell). AllFit next rest (of_place place o done)) (sym found) (rw same (fit cell found))

  at_index_fits : (kinds : List Kind) (cell : ArrayCell) (n : ℤ) (done : List Effect)
      → (int_lt n (pos 0) ≡ false → int_le (pos (length cell.items)) n ≡ false → AllFit next kinds done) → AllFit next kinds (at_index cell n done)
  at_index_fits kinds cell n done fit =
      cond_both (int_lt n (pos 0)) _ _ (AllFit next kinds) (λ below. (tt, tt))
      (λ above. cond_both (int_le (pos (length cell.items)) n) _ _ (AllFit next kinds) (λ beyond. (tt, tt)) (λ within. fit above within))

  loads_fit : (place : Place) (kinds : List Kind) (stack : List Value) → HaveForms heap kinds stack
      → FitBehind next (behind_load place kinds) (loads place i f heap stack)
  loads_fit place (Int ∷ kind ∷ rest) (values.Int n ∷ values.Null ∷ vs) h = when_fits next (is_array_of place kind) (Int ∷ rest) _ (λ e. (tt, tt))
  loads_fit place (Int ∷ kind ∷ rest) (values.Int n ∷ values.Array a ∷ vs) h =
      when_fits next (is_array_of place kind) (Int ∷ rest) _
      (λ e. of_place_fits place kind a (Int ∷ rest) _ e h.1.0
      (λ cell found. at_index_fits (Int ∷ rest) cell n _
      (λ above below. let (item, there) = item_there cell.items n above below in
      subst (λ (o : Option ℤ). AllFit next (Int ∷ rest) (pushes i f heap vs (option_map values.Int o))) (sym there)
      (on (Int ∷ rest) (values.Int item ∷ vs) (tt, h.1.1)))))
  loads_fit place (Int ∷ kind ∷ rest) (values.Int n ∷ v ∷ vs) h =
      when_fits next (is_array_of place kind) (Int ∷ rest) _
      (λ e. absurd (null_or_array heap kind v (and_parts (is_reference kind) (takes place kind) e).0 h.1.0))
  loads_fit place (Int ∷ kind ∷ rest) _ h = absurd (search)
  loads_fit place _ stack h = tt

  stores_fit : (place : Place) (kinds : List Kind) (stack : List Value) → HaveForms heap kinds stack
      → FitBehind next (behind_store place kinds) (stores place i f heap stack)
  stores_fit place (Int ∷ Int ∷ kind ∷ rest) (values.Int v ∷ values.Int n ∷ values.Null ∷ vs) h =
      when_fits next (is_array_of place kind) rest _ (λ e. (tt, tt))
  stores_fit place (Int ∷ Int ∷ kind ∷ rest) (values.Int v ∷ values.Int n ∷ values.Array a ∷ vs) h =
      when_fits next (is_array_of place kind) rest _
      (λ e. of_place_fits place kind a rest _ e h.1.1.0
      (λ cell found. at_index_fits rest cell n _
      (λ above below.
      let items = slice_set cell.items (unsigned_abs n) (item_of place v) in
      let kept = keeps_others heap a cell (record cell { items = items }) found refl (length-set cell.items (unsigned_abs n) (item_of place v)) in
      ((inl refl, HaveForms-kept heap (slice_set heap a (record cell { items = items })) kept rest vs h.1.1.1), tt))))
  stores_fit place (Int ∷ Int ∷ kind ∷ rest) (values.Int v ∷ values.Int n ∷ w ∷ vs) h =
      when_fits next (is_array_of place kind) rest _
      (λ e. absurd (null_or_array heap kind w (and_parts (is_reference kind) (takes place kind) e).0 h.1.1.0))
  stores_fit place (Int ∷ Int ∷ kind ∷ rest) _ h = absurd (search)
  stores_fit place _ stack h = tt

  -- ---- addresses

  addresses_fit : (place : Place) (kind : Kind) (address : Kind) (rest : List Kind) (n : ℤ) (v : Value) (vs : List Value) → HasForm heap kind v
      → HaveForms heap rest vs → ((a : ℕ) (k : ℕ) → HasItemOf heap place a k → HasForm heap address (values.Addr a k))
      → FitBehind next (when (is_array_of place kind) (address ∷ rest)) (addresses place i f heap (values.Int n ∷ v ∷ vs))
  addresses_fit place kind address rest n values.Null vs form h is = when_fits next (is_array_of place kind) (address ∷ rest) _ (λ e. (tt, tt))
  addresses_fit place kind address rest n (values.Array a) vs form h is =
      when_fits next (is_array_of place kind) (address ∷ rest) _
      (λ e. of_place_fits place kind a (address ∷ rest) _ e form
      (λ cell found. at_index_fits (address ∷ rest) cell n _
      (λ above below.
      let has : HasItemOf heap place a (unsigned_abs n) = (array_of heap place kind a e form, item_of_array heap a (unsigned_abs n) cell found (within_length cell.items n above below)) in
      on (address ∷ rest) (values.Addr a (unsigned_abs n) ∷ vs) (is a (unsigned_abs n) has, h))))
  addresses_fit place kind address rest n v vs form h is =
      when_fits next (is_array_of place kind) (address ∷ rest) _
      (λ e. absurd (null_or_array heap kind v (and_parts (is_reference kind) (takes place kind) e).0 form))

  takes_fit : (place : Option Place) (kinds : List Kind) (stack : List Value) → IsOfArrays place → HaveForms heap kinds stack
      → FitBehind next (behind_address place kinds) (takes_address place i f heap stack)
  takes_fit (Some places.Ints) (Int ∷ kind ∷ rest) (values.Int n ∷ v ∷ vs) arrays h =
      addresses_fit places.Ints kind AddrInts rest n v vs h.1.0 h.1.1 (λ a k has. has)
  takes_fit (Some places.Bools) (Int ∷ kind ∷ rest) (values.Int n ∷ v ∷ vs) arrays h =
      addresses_fit places.Bools kind AddrBools rest n v vs h.1.0 h.1.1 (λ a k has. has)
  takes_fit (Some places.Void) kinds stack arrays h = absurd arrays
  takes_fit (Some places.Bool) kinds stack arrays h = absurd arrays
  takes_fit (Some places.Int) kinds stack arrays h = absurd arrays
  takes_fit (Some place) (Int ∷ kind ∷ rest) _ arrays h = absurd (search)
  takes_fit (Some place) _ stack arrays h = tt
  takes_fit None kinds stack arrays h = tt

  takes_address_fits : (number : ℕ) (kinds : List Kind) (stack : List Value) → HaveForms heap kinds stack
      → FitBehind next (behind_address (array_place number) kinds) (takes_address (array_place number) i f heap stack)
  takes_address_fits number kinds stack h = takes_fit (array_place number) kinds stack (array_place_is number) h

  -- What is done at an address.
  at_address_fits : (place : Place) (a n : ℕ) (rest : List Kind) (done : ArrayCell → List Effect) → HasItemOf heap place a n
      → ((cell : ArrayCell) → slice_get heap a ≡ Some cell → n < length cell.items → AllFit next rest (done cell))
      → AllFit next rest (of_place place (slice_get heap a) done)
  at_address_fits place a n rest done has fit =
      let (cell, found, same) = array_is heap place a has.0 in
      subst (λ (o : Option ArrayCell). AllFit next rest (of_place place o done)) (sym found) (rw same (fit cell found (item_within heap a n cell found has.1)))

  loads_through_fit : (place : Place) (kinds : List Kind) (stack : List Value) → HaveForms heap kinds stack
      → FitBehind next (behind_load_through place kinds) (loads_through place i f heap stack)
  loads_through_fit place (kind ∷ rest) (v ∷ vs) h =
      when_fits next (is_address_of place kind) (Int ∷ rest) _
      (λ e. let (a, n, is, has) = address_is heap place kind v e h.0 in
      subst (λ (w : Value). AllFit next (Int ∷ rest) (loads_through place i f heap (w ∷ vs))) (sym is)
      (at_address_fits place a n (Int ∷ rest) (λ cell. pushes i f heap vs (option_map values.Int (slice_get cell.items n))) has
      (λ cell found within.
      subst (λ (o : Option ℤ). AllFit next (Int ∷ rest) (pushes i f heap vs (option_map values.Int o))) (sym (slice_get-get_or cell.items n (pos 0) within))
      (on (Int ∷ rest) (values.Int (get_or cell.items n (pos 0)) ∷ vs) (tt, h.1)))))
  loads_through_fit place (kind ∷ rest) [] h = absurd h
  loads_through_fit place [] stack h = tt

  stored_through_fit : (place : Place) (rest : List Kind) (v : ℤ) (a n : ℕ) (vs : List Value) (cell : ArrayCell) → HaveForms heap rest vs
      → slice_get heap a ≡ Some cell
      → n < length cell.items
      → AllFit next rest (if nat_lt n (length cell.items) then goes_on i f (with_item heap a cell n (item_of place v)) vs else [])
  stored_through_fit place rest v a n vs cell h found within =
      let items = slice_set cell.items n (item_of place v) in
      let kept = keeps_others heap a cell (record cell { items = items }) found refl (length-set cell.items n (item_of place v)) in
      rw (lt-ltb n (length cell.items) within) ((inl refl, HaveForms-kept heap (slice_set heap a (record cell { items = items })) kept rest vs h), tt)

  stores_through_fit : (place : Place) (kinds : List Kind) (stack : List Value) → HaveForms heap kinds stack
      → FitBehind next (behind_store_through place kinds) (stores_through place i f heap stack)
  stores_through_fit place (Int ∷ kind ∷ rest) (values.Int v ∷ w ∷ vs) h =
      when_fits next (is_address_of place kind) rest _
      (λ e. let (a, n, is, has) = address_is heap place kind w e h.1.0 in
      subst (λ (u : Value). AllFit next rest (stores_through place i f heap (values.Int v ∷ u ∷ vs))) (sym is)
      (at_address_fits place a n rest (λ cell. if nat_lt n (length cell.items) then goes_on i f (with_item heap a cell n (item_of place v)) vs else []) has
      (λ cell found within. stored_through_fit place rest v a n vs cell h.1.1 found within)))
  stores_through_fit place (Int ∷ kind ∷ rest) _ h = absurd (search)
  stores_through_fit place _ stack h = tt

  -- ---- Assert and Assume

  tests_fit : (otherwise : Effect) (rest : List Kind) (n : ℤ) (vs : List Value) → EffectFits next rest otherwise → HaveForms heap rest vs
      → AllFit next rest (tests_condition otherwise i f heap (Some (values.Int n ∷ vs)))
  tests_fit otherwise rest n vs ends h = cond_both (int_eq n (pos 0)) _ _ (AllFit next rest) (λ no_condition. (ends, tt)) (λ holds. on rest vs h)

  condition_fits : (message : Bool) (otherwise : Effect) (kinds : List Kind) (stack : List Value)
      → ((rest : List Kind) → EffectFits next rest otherwise)
      → HaveForms heap kinds stack
      → FitBehind next (behind_condition message kinds) (tests_condition otherwise i f heap (below_message message stack))
  condition_fits false otherwise (Int ∷ rest) (values.Int n ∷ vs) ends h = tests_fit otherwise rest n vs (ends rest) h.1
  condition_fits true otherwise (Text ∷ Int ∷ rest) (values.Text ∷ values.Int n ∷ vs) ends h = tests_fit otherwise rest n vs (ends rest) h.1.1
  condition_fits false otherwise (Int ∷ rest) _ ends h = absurd (search)
  condition_fits true otherwise (Text ∷ Int ∷ rest) _ ends h = absurd (search)
  condition_fits false otherwise _ stack ends h = tt
  condition_fits true otherwise _ stack ends h = tt

  -- ---- all rows

  pub contract_call_fits : (call : Option UnitCall) (kinds : List Kind) → IsOwnCall call → HaveForms heap kinds f.stack
      → FitBehind next (behind_call (shape_of unit) call kinds) (contract_call call i f heap)
  contract_call_fits (Some (calls.Assert message)) kinds own h = condition_fits message (Faults faults.Assert) kinds f.stack (λ rest. tt) h
  contract_call_fits (Some (calls.Assume message)) kinds own h = condition_fits message Assumes kinds f.stack (λ rest. tt) h
  contract_call_fits None kinds own h = tt
  contract_call_fits (Some _) kinds own h = absurd own

  pub effects_fit : (op : Op) (kinds : List Kind) → IsOwn op → FitPlaces heap unit.args f.args → FitPlaces heap unit.locals f.locals
      → HaveForms heap kinds f.stack
      → FitBehind (successors op (i.at + i.size)) (behind (shape_of unit) op kinds) (effects_of op unit i f heap)
  effects_fit ops.Nop kinds own args locals h = on kinds f.stack h
  effects_fit (ops.LoadArg n) kinds own args locals h = load_fits unit.args f.args n kinds args h
  effects_fit (ops.StoreArg n) kinds own args locals h = stores_arg_fits n kinds f.stack h
  effects_fit (ops.LoadLocal n) kinds own args locals h = load_fits unit.locals f.locals n kinds locals h
  effects_fit (ops.StoreLocal n) kinds own args locals h = stores_local_fits n kinds f.stack h
  effects_fit ops.Null kinds own args locals h = on (NullRef ∷ kinds) (values.Null ∷ f.stack) (tt, h)
  effects_fit (ops.Const n) kinds own args locals h = on (Int ∷ kinds) (values.Int n ∷ f.stack) (tt, h)
  effects_fit ops.Dup kinds own args locals h = duplicates_fit kinds f.stack h
  effects_fit ops.Pop kinds own args locals h = pops_fit kinds f.stack h
  effects_fit (ops.Call number) kinds own args locals h = contract_call_fits (unit_call number) kinds own h
  effects_fit ops.Return kinds own args locals h = absurd own
  effects_fit (ops.Branch test target) kinds own args locals h = branches_by_fits test target kinds f.stack h
  effects_fit (ops.Switch targets) kinds own args locals h = switches_fit targets kinds f.stack h
  effects_fit (ops.Bin operator) kinds own args locals h = binary_fits operator (comparison_of operator) kinds f.stack h
  effects_fit ops.Neg kinds own args locals h = changes_fit unary.Neg kinds f.stack h
  effects_fit ops.Not kinds own args locals h = changes_fit unary.Not kinds f.stack h
  effects_fit ops.ConvI4 kinds own args locals h = converts_fits kinds f.stack h
  effects_fit (ops.Text token) kinds own args locals h = on (Text ∷ kinds) (values.Text ∷ f.stack) (tt, h)
  effects_fit (ops.NewArray number) kinds own args locals h = new_array_fits number kinds f.stack h
  effects_fit ops.Length kinds own args locals h = array_length_fits kinds f.stack h
  effects_fit (ops.LoadElem place) kinds own args locals h = loads_fit place kinds f.stack h
  effects_fit (ops.StoreElem place) kinds own args locals h = stores_fit place kinds f.stack h
  effects_fit (ops.LoadAddr number) kinds own args locals h = takes_address_fits number kinds f.stack h
  effects_fit (ops.LoadInd place) kinds own args locals h = loads_through_fit place kinds f.stack h
  effects_fit (ops.StoreInd place) kinds own args locals h = stores_through_fit place kinds f.stack h
