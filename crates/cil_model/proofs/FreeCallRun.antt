-- What calls of some callees may give that are known by their entries alone, and what they may not.
use Rattle.std.proofs.Common.{◌≡◌, ℕ, zero, suc, ◌<◌, ℤ, pos, FitsSigned, Contains, List, [], ◌∷◌, slice_get, Some, None, codes, refl, sym, ap, w32, arith, lit<, inl, inr}
use Rattle.std.specs.Int.{int_wrap}
use Rattle.std.proofs.lemmas.Int.{ints}
use Rattle.std.proofs.lemmas.Option.{none-some, same_Some}
use Rattle.cil_model.specs.Calls.{FreeReturn, KeepsArrays}
use Rattle.cil_model.specs.Clauses.{value_of}
use Rattle.cil_model.specs.Terms.{Term, Arg, Bin, Const, Elem, Old, Result}
use Rattle.cil_model.specs.Values.{Heap, IsArray}
use Rattle.cil_model.specs.declared.clause.Clause.{Clause}
use Rattle.cil_model.specs.declared.clause.ClauseKind.TheVariants.{Requires, Ensures}
use Rattle.cil_model.specs.declared.instruction.BinOp.TheVariants as operators
use Rattle.cil_model.specs.declared.machine.ArrayCell.{ArrayCell}
use Rattle.cil_model.specs.declared.machine.Config.{Config}
use Rattle.cil_model.specs.declared.machine.Config.TheVariants.{Fault, NoRoom}
use Rattle.cil_model.specs.declared.machine.FaultKind.TheVariants as faults
use Rattle.cil_model.specs.declared.machine.Value.{Value}
use Rattle.cil_model.specs.declared.machine.Value.TheVariants.{Int, Null, Array}
use Rattle.cil_model.specs.declared.place.Place.{Place}
use Rattle.cil_model.specs.declared.place.Place.TheVariants as places
use Rattle.cil_model.specs.declared.unit.CalleeInfo.{CalleeInfo}
use Rattle.cil_model.proofs.FreeCalls.{Gives, Leads, allows_nothing, allows_value, may_end, may_fault, may_give, only_fault}

abbrev entry : Place → List Place → List Clause → CalleeInfo
entry result args clauses = record { name = codes "Demo.Calc::Callee"; result = result; args = args; clauses = clauses }

some_is_none : {X : Type 0} (x : X) → Some x ≡ None → ⊥
some_is_none x e = none-some x (sym e)

-- ---- results

-- int F() with Ensures(Result == 7)
abbrev seven : CalleeInfo
seven = entry places.Int [] (record { kind = Ensures; tree = Bin operators.Ceq Result (Const (pos 7)) } ∷ [])

seven_is_given : Gives seven [] [] (Int (pos 7) ∷ []) []
unfolding value_of
seven_is_given =
    let free : FreeReturn seven [] [] [] (Some (Int (pos 7))) =
    record { heap_is = tt; keeps = record { forms = tt; items = λ a below apart. refl }; fits = omega (arith, ints); passed_or_new = tt; ensured = refl } in
    may_give seven [] [] [] refl [] (Some (Int (pos 7))) refl free

eight_is_not_given : Gives seven [] [] (Int (pos 8) ∷ []) [] → ⊥
unfolding value_of
eight_is_not_given gives = let free = allows_value seven [] [] [] refl [] (Int (pos 8)) refl gives in some_is_none 1 free.ensured

-- It gives a value.
nothing_is_not_given : Gives seven [] [] [] [] → ⊥
nothing_is_not_given gives = (allows_nothing seven [] [] [] refl [] refl gives).fits

-- It may also not come back.
seven_may_end : Leads seven [] [] NoRoom
seven_may_end = may_end seven [] [] [] refl refl

-- int F(bool b) with Ensures(Result == b)
abbrev itself : CalleeInfo
itself = entry places.Int (places.Bool ∷ []) (record { kind = Ensures; tree = Bin operators.Ceq Result (Arg 0) } ∷ [])

-- 258 is passed, and is 2 in its low eight bits.
all_bits_are_not_given : Gives itself (Int (pos 258) ∷ []) [] (Int (pos 258) ∷ []) [] → ⊥
unfolding value_of
all_bits_are_not_given gives =
    let free = allows_value itself (Int (pos 258) ∷ []) (Int (pos 2) ∷ []) [] refl [] (Int (pos 258)) refl gives in some_is_none 1 free.ensured

-- ---- arrays

abbrev ints_of : List ℤ → ArrayCell
ints_of items = record { place = places.Ints; items = items }

-- [5] and [7], of which the first is passed.
abbrev heap : Heap
heap = ints_of (pos 5 ∷ []) ∷ ints_of (pos 7 ∷ []) ∷ []

abbrev passed : List Value
passed = Array 0 ∷ []

one_is : (n : ℤ) → FitsSigned w32 n → IsArray (ints_of (n ∷ []))
one_is n fits = ((fits, tt), lit< tt)

same_item : (m n : ℕ) → Some (ints_of (pos m ∷ [])) ≡ Some (ints_of (pos n ∷ [])) → m ≡ n
same_item m n e = let items : pos m ∷ [] ≡ pos n ∷ [] = ap (λ (cell : ArrayCell). cell.items) (same_Some _ _ e) in cc

second_is_not_passed : Contains passed (Array 1) → ⊥
second_is_not_passed (zero, below, same) = let numbers : zero ≡ 1 = cc in omega arith
second_is_not_passed (suc k, below, same) = omega arith

-- Items of the first array change at most.
first_changes : (n : ℤ) → KeepsArrays heap (ints_of (n ∷ []) ∷ ints_of (pos 7 ∷ []) ∷ []) passed
first_changes n = record { forms = (refl, refl, (refl, refl, tt)); items = items }
  where
    items : (a : ℕ) → a < 2 → ¬ Contains passed (Array a) → slice_get (ints_of (n ∷ []) ∷ ints_of (pos 7 ∷ []) ∷ []) a ≡ slice_get heap a
    items zero below apart = absurd (apart (zero, omega arith, refl))
    items (suc a) below apart = refl

-- void F(int[] a)
abbrev changes : CalleeInfo
changes = entry places.Void (places.Ints ∷ []) []

nine_is_stored : Gives changes passed heap [] (ints_of (pos 9 ∷ []) ∷ ints_of (pos 7 ∷ []) ∷ [])
nine_is_stored =
    let free : FreeReturn changes passed heap (ints_of (pos 9 ∷ []) ∷ ints_of (pos 7 ∷ []) ∷ []) None = record {
      heap_is = (one_is (pos 9) (omega (arith, ints)), (one_is (pos 7) (omega (arith, ints)), tt));
      keeps = first_changes (pos 9);
      fits = tt;
      passed_or_new = tt;
      ensured = refl;
    } in
    may_give changes passed passed heap refl _ None refl free

-- An array that was not passed keeps its items.
other_array_stays : Gives changes passed heap [] (ints_of (pos 5 ∷ []) ∷ ints_of (pos 8 ∷ []) ∷ []) → ⊥
other_array_stays gives =
    let free = allows_nothing changes passed passed heap refl _ refl gives in
    let eight_is_seven = same_item 8 7 (free.keeps.items 1 (omega arith) second_is_not_passed) in omega arith

-- A void result is no value.
no_value_is_given : Gives changes passed heap (Int (pos 0) ∷ []) heap → ⊥
no_value_is_given gives = (allows_value changes passed passed heap refl heap (Int (pos 0)) refl gives).fits

-- No array goes.
arrays_stay : Gives changes passed heap [] (ints_of (pos 5 ∷ []) ∷ []) → ⊥
arrays_stay gives = (allows_nothing changes passed passed heap refl _ refl gives).keeps.forms.2

-- The passed one keeps its type, whatever it holds.
type_stays : Gives changes passed heap [] (record { place = places.Bools; items = pos 5 ∷ [] } ∷ ints_of (pos 7 ∷ []) ∷ []) → ⊥
type_stays gives = let same : places.Bools ≡ places.Ints = (allows_nothing changes passed passed heap refl _ refl gives).keeps.forms.0 in cc

-- What it holds are items of its type.
items_are_int32 : Gives changes passed heap [] (ints_of (pos 2147483648 ∷ []) ∷ ints_of (pos 7 ∷ []) ∷ []) → ⊥
items_are_int32 gives =
    let free = allows_nothing changes passed passed heap refl _ refl gives in
    let fits : FitsSigned w32 (pos 2147483648) = free.heap_is.0.0.0 in omega (arith, ints)

-- The passed one keeps its length.
length_stays : Gives changes passed heap [] (ints_of (pos 5 ∷ pos 5 ∷ []) ∷ ints_of (pos 7 ∷ []) ∷ []) → ⊥
length_stays gives =
    let free = allows_nothing changes passed passed heap refl _ refl gives in
    let longer : suc 1 ≡ 1 = free.keeps.forms.1 in omega arith

abbrev first_item : Term
first_item = Elem places.Ints (Arg 0) (Const (pos 0))

-- void F(int[] a) with Ensures(a[0] == OldValue(a[0]) + 1)
abbrev counts : CalleeInfo
counts =
    entry places.Void (places.Ints ∷ [])
    (record { kind = Ensures; tree = Bin operators.Ceq first_item (Bin operators.Add (Old first_item) (Const (pos 1))) } ∷ [])

six_follows_five : Gives counts passed heap [] (ints_of (pos 6 ∷ []) ∷ ints_of (pos 7 ∷ []) ∷ [])
unfolding value_of int_wrap
six_follows_five =
    let free : FreeReturn counts passed heap (ints_of (pos 6 ∷ []) ∷ ints_of (pos 7 ∷ []) ∷ []) None = record {
      heap_is = (one_is (pos 6) (omega (arith, ints)), (one_is (pos 7) (omega (arith, ints)), tt));
      keeps = first_changes (pos 6);
      fits = tt;
      passed_or_new = tt;
      ensured = refl;
    } in
    may_give counts passed passed heap refl _ None refl free

five_does_not : Gives counts passed heap [] heap → ⊥
unfolding value_of int_wrap
five_does_not gives = let free = allows_nothing counts passed passed heap refl heap refl gives in some_is_none 1 free.ensured

-- ---- results that are arrays

-- int[] F()
abbrev makes : CalleeInfo
makes = entry places.Ints [] []

-- Of the arrays that there were, it can have none.
old_array_is_not_given : Gives makes [] heap (Array 0 ∷ []) heap → ⊥
old_array_is_not_given gives =
    let free = allows_value makes [] [] heap refl heap (Array 0) refl gives in
    elim free.passed_or_new [ inl contained ↦ nothing_passed contained | inr new ↦ omega arith ]
  where
    nothing_passed : Contains [] (Array 0) → ⊥
    nothing_passed (k, below, same) = omega arith

nothing_changes : KeepsArrays heap heap []
nothing_changes = record { forms = (refl, refl, (refl, refl, tt)); items = λ a below apart. refl }

null_is_given : Gives makes [] heap (Null ∷ []) heap
null_is_given =
    let free : FreeReturn makes [] heap heap (Some Null) = record {
      heap_is = (one_is (pos 5) (omega (arith, ints)), (one_is (pos 7) (omega (arith, ints)), tt));
      keeps = nothing_changes;
      fits = tt;
      passed_or_new = tt;
      ensured = refl;
    } in
    may_give makes [] [] heap refl heap (Some Null) refl free

one_more : (a : ℕ) → a < 2 → slice_get (ints_of (pos 5 ∷ []) ∷ ints_of (pos 7 ∷ []) ∷ ints_of (pos 3 ∷ []) ∷ []) a ≡ slice_get heap a
one_more zero below = refl
one_more (suc zero) below = refl
one_more (suc (suc a)) below = absurd (omega arith)

new_array_is_given : Gives makes [] heap (Array 2 ∷ []) (ints_of (pos 5 ∷ []) ∷ ints_of (pos 7 ∷ []) ∷ ints_of (pos 3 ∷ []) ∷ [])
new_array_is_given =
    let free : FreeReturn makes [] heap (ints_of (pos 5 ∷ []) ∷ ints_of (pos 7 ∷ []) ∷ ints_of (pos 3 ∷ []) ∷ []) (Some (Array 2)) = record {
      heap_is = (one_is (pos 5) (omega (arith, ints)), (one_is (pos 7) (omega (arith, ints)), (one_is (pos 3) (omega (arith, ints)), tt)));
      keeps = record { forms = (refl, refl, (refl, refl, tt)); items = λ a below apart. one_more a below };
      fits = refl;
      passed_or_new = inr (omega arith);
      ensured = refl;
    } in
    may_give makes [] [] heap refl _ (Some (Array 2)) refl free

-- int[] F(int[] a)
abbrev gives_back : CalleeInfo
gives_back = entry places.Ints (places.Ints ∷ []) []

-- It can have one that was passed, and here its items change too.
passed_array_is_given : Gives gives_back passed heap (Array 0 ∷ []) (ints_of (pos 9 ∷ []) ∷ ints_of (pos 7 ∷ []) ∷ [])
passed_array_is_given =
    let free : FreeReturn gives_back passed heap (ints_of (pos 9 ∷ []) ∷ ints_of (pos 7 ∷ []) ∷ []) (Some (Array 0)) = record {
      heap_is = (one_is (pos 9) (omega (arith, ints)), (one_is (pos 7) (omega (arith, ints)), tt));
      keeps = first_changes (pos 9);
      fits = refl;
      passed_or_new = inl (zero, omega arith, refl);
      ensured = refl;
    } in
    may_give gives_back passed passed heap refl _ (Some (Array 0)) refl free

-- ---- a Requires that is false

-- void F(int a) with Requires(a == 0)
abbrev requires_0 : CalleeInfo
requires_0 = entry places.Void (places.Int ∷ []) (record { kind = Requires; tree = Bin operators.Ceq (Arg 0) (Const (pos 0)) } ∷ [])

five_is_refused : Leads requires_0 (Int (pos 5) ∷ []) [] (Fault (faults.Requires 1) 0 0)
unfolding value_of
five_is_refused = may_fault requires_0 (Int (pos 5) ∷ []) (Int (pos 5) ∷ []) [] refl 1 refl

five_is_only_refused : (new : Config) → Leads requires_0 (Int (pos 5) ∷ []) [] new → new ≡ Fault (faults.Requires 1) 0 0
unfolding value_of
five_is_only_refused new leads = only_fault requires_0 (Int (pos 5) ∷ []) (Int (pos 5) ∷ []) [] refl 1 new refl leads
