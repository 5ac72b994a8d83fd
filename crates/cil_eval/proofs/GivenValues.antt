-- The values of arguments that fit are of their parameters' types, over the heap of the arguments.
use Rattle.std.proofs.Common.{◌≡◌, ℕ, suc, ◌+◌, ◌^◌, ◌==◌, nat_lt, Bool, true, false, List, [], ◌∷◌, ◌++◌, length, map, reverse, Option, Some, None, slice_get, if◌then◌else◌, refl, sym, ap, subst, ◌∙◌, arith}
use Rattle.std.specs.List.{AllByRecursion}
use Rattle.std.specs.Option.{option_map_or}
use Rattle.std.proofs.lemmas.Bool.{and_parts}
use Rattle.std.proofs.lemmas.Int.{ints as integers}
use Rattle.std.proofs.lemmas.List.{length-append, length-map, reverse-append, reverse-reverse}
use Rattle.cil_model.specs.Calls.{clauses_in_force}
use Rattle.cil_model.specs.Clauses.{false_requires}
use Rattle.cil_model.specs.Runs.{MayBegin}
use Rattle.cil_model.specs.Values.{FitPlaces, FitsPlace, Heap, IsByte, IsHeap, same_place}
use Rattle.cil_model.specs.declared.machine.ArrayCell.{ArrayCell}
use Rattle.cil_model.specs.declared.machine.Value.{Value}
use Rattle.cil_model.specs.declared.machine.Value.TheVariants as values
use Rattle.cil_model.specs.declared.place.Place.{Place}
use Rattle.cil_model.specs.declared.place.Place.TheVariants as places
use Rattle.cil_model.specs.declared.unit.Unit.{Unit as MethodUnit}
use Rattle.cil_model.proofs.HeapsKept.{FitPlaces-kept, keeps_before}
use Rattle.cil_model.proofs.Lists.{all_reverse}
use Rattle.clause_eval.specs.GivenArrays.{AreShort, array_of, byte_of, heap_of, is_array, with_cell}
use Rattle.cil_eval.specs.Given.{AreInts, IsInt, arg_fits, args_fit, args_fit_back, array_count, has_place, is_arrays, value_back, value_by, values_back, values_of}
use Rattle.cil_model.specs.declared.arg.Arg.{Arg}
use Rattle.cil_model.specs.declared.arg.Arg.TheVariants as args
use Rattle.cil_eval.proofs.Beginnings.{values_many}
use Rattle.cil_eval.proofs.StartLemmas.{fit_short}

-- ---- the heap, from the last argument on

heap_joined : (xs ys : List Arg) → heap_of (xs ++ ys) ≡ heap_of xs ++ heap_of ys
heap_joined [] ys = refl
heap_joined (arg ∷ xs) ys = by (array_of arg) (heap_joined xs ys)
  where
    by : (cell : Option ArrayCell) → heap_of (xs ++ ys) ≡ heap_of xs ++ heap_of ys → with_cell cell (heap_of (xs ++ ys)) ≡ with_cell cell (heap_of xs) ++ heap_of ys
    by None e = e
    by (Some cell) e = ap (λ heap. cell ∷ heap) e

abbrev heap_back : List Arg → Heap
heap_back given = heap_of (reverse given)

one_more : (arg : Arg) (earlier : List Arg) → heap_back (arg ∷ earlier) ≡ heap_back earlier ++ with_cell (array_of arg) []
one_more arg earlier = ap heap_of (reverse-append (arg ∷ []) earlier) ∙ heap_joined (reverse earlier) (arg ∷ [])

counted : (earlier : List Arg) → length (heap_back earlier) ≡ array_count earlier
counted [] = refl
counted (arg ∷ earlier) =
    let all : length (heap_back (arg ∷ earlier)) ≡ length (heap_back earlier) + length (with_cell (array_of arg) []) =
    ap length (one_more arg earlier) ∙ length-append (heap_back earlier) (with_cell (array_of arg) []) in
    all ∙ by arg (counted earlier)
  where
    by : (arg : Arg) → length (heap_back earlier) ≡ array_count earlier
        → length (heap_back earlier) + length (with_cell (array_of arg) []) ≡ (if is_array arg then array_count earlier + 1 else array_count earlier)
    by (args.Ints items) e = omega (arith, e)
    by (args.Bools items) e = omega (arith, e)
    by _ e = omega (arith, e)

found_last : (heap : Heap) (cell : ArrayCell) → slice_get (heap ++ cell ∷ []) (length heap) ≡ Some cell
found_last [] cell = refl
found_last (c ∷ heap) cell = found_last heap cell

-- ---- places

is_place : (a b : Place) → same_place a b ≡ true → a ≡ b
is_place places.Void places.Void e = refl
is_place places.Bool places.Bool e = refl
is_place places.Int places.Int e = refl
is_place places.Bools places.Bools e = refl
is_place places.Ints places.Ints e = refl
is_place _ _ e = absurd cc

-- ---- values

pub as_many : (heap : Heap) (types : List Place) (vs : List Value) → FitPlaces heap types vs → length types ≡ length vs
as_many heap [] [] fit = refl
as_many heap (place ∷ types) (v ∷ vs) fit = ap suc (as_many heap types vs fit.1)
as_many heap [] (v ∷ vs) fit = absurd fit
as_many heap (place ∷ types) [] fit = absurd fit

-- The value of an earlier argument is of the place of its parameter.
found_value : (heap : Heap) (types : List Place) (earlier : List Arg) (k : ℕ) (place : Place) → FitPlaces heap types (values_back earlier) → has_place types k place ≡ true
    → FitsPlace heap place (value_back earlier k)
found_value heap [] [] k place fit has = absurd cc
found_value heap [] (arg ∷ earlier) k place fit has = absurd fit
found_value heap (first ∷ types) [] k place fit has = absurd fit
found_value heap (first ∷ types) (arg ∷ earlier) k place fit has =
    let many : length types ≡ length earlier = as_many heap types (values_back earlier) fit.1 ∙ values_many earlier in
    by (length earlier == k) (λ has. found_value heap types earlier k place fit.1 has)
    (subst (λ n. (if n == k then same_place first place else has_place types k place) ≡ true) many has)
  where
    by : (here : Bool) → (has_place types k place ≡ true → FitsPlace heap place (value_back earlier k)) → (if here then same_place first place else has_place types k place) ≡ true
        → FitsPlace heap place (if here then value_by (array_count earlier) (value_back earlier) arg else value_back earlier k)
    by true later has = subst (λ (p : Place). FitsPlace heap p (value_by (array_count earlier) (value_back earlier) arg)) (is_place first place has) fit.0
    by false later has = later has

is_byte : (b : Bool) → IsByte (byte_of b)
is_byte true = (omega (arith, integers), omega (arith, integers))
is_byte false = (omega (arith, integers), omega (arith, integers))

null_fits : (heap : Heap) (place : Place) → is_arrays place ≡ true → FitsPlace heap place values.Null
null_fits heap places.Ints e = tt
null_fits heap places.Bools e = tt
null_fits heap places.Void e = absurd cc
null_fits heap places.Bool e = absurd cc
null_fits heap places.Int e = absurd cc

array_there : (earlier : List Arg) (cell : ArrayCell) → slice_get (heap_back earlier ++ cell ∷ []) (array_count earlier) ≡ Some cell
array_there earlier cell = subst (λ n. slice_get (heap_back earlier ++ cell ∷ []) n ≡ Some cell) (counted earlier) (found_last (heap_back earlier) cell)

one_fits : (types : List Place) (place : Place) (arg : Arg) (earlier : List Arg) → arg_fits types place arg ≡ true → IsInt arg
    → FitPlaces (heap_back earlier ++ with_cell (array_of arg) []) types (values_back earlier)
    → FitsPlace (heap_back earlier ++ with_cell (array_of arg) []) place (value_by (array_count earlier) (value_back earlier) arg)
one_fits types place (args.Int n) earlier e int fit = subst (λ (p : Place). FitsPlace (heap_back earlier ++ []) p (values.Int n)) (sym (is_place place places.Int e)) int
one_fits types place (args.Bool b) earlier e int fit =
    subst (λ (p : Place). FitsPlace (heap_back earlier ++ []) p (values.Int (byte_of b))) (sym (is_place place places.Bool e)) (is_byte b)
one_fits types place args.Null earlier e int fit = null_fits (heap_back earlier ++ []) place e
one_fits types place (args.Ints items) earlier e int fit =
    let cell : ArrayCell = record { place = places.Ints; items = items } in
    let same = is_place place places.Ints (and_parts (same_place place places.Ints) (nat_lt (length items) (2 ^ 31)) e).0 in
    subst (λ (p : Place). FitsPlace (heap_back earlier ++ cell ∷ []) p (values.Array (array_count earlier))) (sym same)
    (ap (λ (found : Option ArrayCell). option_map_or (λ (c : ArrayCell). same_place c.place places.Ints) found false) (array_there earlier cell))
one_fits types place (args.Bools items) earlier e int fit =
    let cell : ArrayCell = record { place = places.Bools; items = map byte_of items } in
    let same = is_place place places.Bools (and_parts (same_place place places.Bools) (nat_lt (length items) (2 ^ 31)) e).0 in
    subst (λ (p : Place). FitsPlace (heap_back earlier ++ cell ∷ []) p (values.Array (array_count earlier))) (sym same)
    (ap (λ (found : Option ArrayCell). option_map_or (λ (c : ArrayCell). same_place c.place places.Bools) found false) (array_there earlier cell))
one_fits types place (args.Same k) earlier e int fit =
    found_value (heap_back earlier ++ []) types earlier k place fit (and_parts (is_arrays place) (has_place types k place) e).1

all_fit : (types : List Place) (given : List Arg) → args_fit_back types given ≡ true → AreInts given → FitPlaces (heap_back given) types (values_back given)
all_fit [] [] e ints = tt
all_fit [] (arg ∷ given) e ints = absurd cc
all_fit (place ∷ types) [] e ints = absurd cc
all_fit (place ∷ types) (arg ∷ earlier) e ints =
    let parts = and_parts (arg_fits types place arg) (args_fit_back types earlier) e in
    let more = with_cell (array_of arg) [] in
    let rest = FitPlaces-kept (heap_back earlier) (heap_back earlier ++ more) (keeps_before (heap_back earlier) more) types (values_back earlier) (all_fit types earlier parts.1 ints.1) in
    subst (λ (heap : Heap). FitPlaces heap (place ∷ types) (values_back (arg ∷ earlier))) (sym (one_more arg earlier)) (one_fits types place arg earlier parts.0 ints.0 rest, rest)

-- ---- in order

fit_joined : (heap : Heap) (xs ys : List Place) (vs ws : List Value) → FitPlaces heap xs vs → FitPlaces heap ys ws → FitPlaces heap (xs ++ ys) (vs ++ ws)
fit_joined heap [] ys [] ws fit more = more
fit_joined heap (x ∷ xs) ys (v ∷ vs) ws fit more = (fit.0, fit_joined heap xs ys vs ws fit.1 more)
fit_joined heap [] ys (v ∷ vs) ws fit more = absurd fit
fit_joined heap (x ∷ xs) ys [] ws fit more = absurd fit

fit_turned : (heap : Heap) (xs : List Place) (vs : List Value) → FitPlaces heap xs vs → FitPlaces heap (reverse xs) (reverse vs)
fit_turned heap [] [] fit = tt
fit_turned heap (x ∷ xs) (v ∷ vs) fit =
    subst (λ (vs : List Value). FitPlaces heap (reverse (x ∷ xs)) vs) (sym (reverse-append (v ∷ []) vs))
    (subst (λ (xs : List Place). FitPlaces heap xs (reverse vs ++ v ∷ [])) (sym (reverse-append (x ∷ []) xs))
    (fit_joined heap (reverse xs) (x ∷ []) (reverse vs) (v ∷ []) (fit_turned heap xs vs fit.1) (fit.0, tt)))
fit_turned heap [] (v ∷ vs) fit = absurd fit
fit_turned heap (x ∷ xs) [] fit = absurd fit

pub values_fit : (types : List Place) (given : List Arg) → args_fit types given ≡ true → AreInts given → FitPlaces (heap_of given) types (values_of given)
values_fit types given e ints =
    let back = all_fit (reverse types) (reverse given) e (all_reverse IsInt given ints) in
    subst (λ (heap : Heap). FitPlaces heap types (values_of given)) (ap heap_of (reverse-reverse given))
    (subst (λ (types : List Place). FitPlaces (heap_back (reverse given)) types (values_of given)) (reverse-reverse types)
    (fit_turned (heap_back (reverse given)) (reverse types) (values_back (reverse given)) back))

-- ---- the heap

are_bytes : (items : List Bool) → AllByRecursion IsByte (map byte_of items)
are_bytes [] = tt
are_bytes (b ∷ items) = (is_byte b, are_bytes items)

pub heap_is : (given : List Arg) → AreShort given → AreInts given → IsHeap (heap_of given)
heap_is [] short ints = tt
heap_is (args.Ints items ∷ given) short ints = ((ints.0, short.0), heap_is given short.1 ints.1)
heap_is (args.Bools items ∷ given) short ints = ((are_bytes items, omega (arith, short.0, length-map items byte_of)), heap_is given short.1 ints.1)
heap_is (args.Int n ∷ given) short ints = heap_is given short.1 ints.1
heap_is (args.Bool b ∷ given) short ints = heap_is given short.1 ints.1
heap_is (args.Null ∷ given) short ints = heap_is given short.1 ints.1
heap_is (args.Same k ∷ given) short ints = heap_is given short.1 ints.1

pub may_begin : (unit : MethodUnit) (given : List Arg) → args_fit unit.args given ≡ true → false_requires (clauses_in_force unit) (values_of given) (heap_of given) ≡ None → AreInts given
    → MayBegin unit (values_of given) (heap_of given)
may_begin unit given fit required ints = record { heap_is = heap_is given (fit_short unit.args given fit) ints; fit = values_fit unit.args given fit ints; required = required }
