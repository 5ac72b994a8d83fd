-- The start of a run.
use Rattle.std.proofs.Common.{◌≡◌, ℕ, ◌+◌, ◌-◌, ◌^◌, ◌<◌, ◌≤◌, ◌≢◌, ne_eqb, nat_le, nat_lt, true, false, Bool, List, [], ◌∷◌, ◌++◌, length, reverse, take, drop, get_or, Option, Some, if◌then◌else◌, refl, sym, ap, subst, ◌∙◌, append_assoc, arith, eq-eqb, le-leb}
use Rattle.std.proofs.lemmas.Bool.{and_parts, leb-false, leb-true, lt-leb, ltb-true}
use Rattle.std.proofs.lemmas.List.{length-map, length-reverse, length-take-le, reverse-append, reverse-reverse}
use Rattle.std.proofs.lemmas.Option.{same_Some}
use Rattle.std.proofs.Math.Seq.{take-length}
use Rattle.cil_model.specs.Values.{Heap, same_place}
use Rattle.cil_model.specs.declared.machine.ArrayCell.{ArrayCell}
use Rattle.cil_model.specs.declared.machine.Value.{Value}
use Rattle.cil_model.specs.declared.place.Place.{Place}
use Rattle.cil_model.specs.declared.place.Place.TheVariants as places
use Rattle.clause_eval.specs.GivenArrays.{AreShort, IsShort, array_of, byte_of, heap_of, is_array, item_count, items_of, place_of, with_cell}
use Rattle.cil_eval.specs.Given.{arg_fits, args_fit, args_fit_back, array_count, has_place, value_back, value_by, values_back, values_of}
use Rattle.clause_eval.specs.Piles.{Piled}
use Rattle.clause_eval.specs.Stores.{Store, cells_of, has_room, with_array}
use Rattle.cil_model.specs.declared.arg.Arg.{Arg}
use Rattle.cil_model.specs.declared.arg.Arg.TheVariants as args
use Rattle.cil_model.proofs.Lists.{all_reverse}
use Rattle.clause_eval.proofs.MemoryLemmas.{taken_with}
use Rattle.clause_eval.proofs.PileLemmas.{turned_last}

-- ---- values

at_last : (arg : Arg) (earlier : List Arg) → value_back (arg ∷ earlier) (length earlier) ≡ value_by (array_count earlier) (value_back earlier) arg
at_last arg earlier = ap (λ (here : Bool). if here then value_by (array_count earlier) (value_back earlier) arg else value_back earlier (length earlier)) (eq-eqb (length earlier) (length earlier) refl)

pub values_more : (all : List Arg) → 1 ≤ length all
    → values_of all ≡ values_of (take (length all - 1) all) ++ value_back (reverse all) (length all - 1) ∷ []
values_more all some =
    let last = get_or all (length all - 1) args.Null in
    let earlier = reverse (take (length all - 1) all) in
    let turned : reverse all ≡ last ∷ earlier = turned_last all args.Null some in
    let many : length earlier ≡ length all - 1 = (let lengths = ap length turned in omega (arith, lengths, length-reverse all)) in
    ap (λ xs. reverse (values_back xs)) turned ∙ reverse-append (value_by (array_count earlier) (value_back earlier) last ∷ []) (values_back earlier)
    ∙ ap (λ v. reverse (values_back earlier) ++ v ∷ [])
    (sym (ap (λ xs. value_back xs (length all - 1)) turned ∙ ap (value_back (last ∷ earlier)) (sym many) ∙ at_last last earlier))

pub values_put : (all : List Arg) (p : Piled Value) → 1 ≤ length all
    → record {
      top = values_of (take (length all - 1) all) ++ value_back (reverse all) (length (take (length all - 1) all)) ∷ p.top;
      below = p.below;
      room = p.room;
      depth = p.depth;
    } ≡ record p { top = values_of all ++ p.top }
values_put all p some =
    let earlier = take (length all - 1) all in
    let many : length earlier ≡ length all - 1 = length-take-le (length all - 1) all (omega arith) in
    ap (λ k. record p { top = values_of earlier ++ value_back (reverse all) k ∷ p.top }) many
    ∙ ap (λ (xs : List Value). record p { top = xs })
    (sym (ap (λ xs. xs ++ p.top) (values_more all some) ∙ append_assoc (values_of earlier) (value_back (reverse all) (length all - 1) ∷ []) p.top))

-- ---- cells

same_test : (a l b m : ℕ) → (b ≤ m → a ≤ l) → (m < b → l < a) → nat_le a l ≡ nat_le b m
same_test a l b m up down = by (nat_le b m) refl
  where
    by : (t : Bool) → nat_le b m ≡ t → nat_le a l ≡ t
    by true e = le-leb a l (up (leb-true b m e))
    by false e = lt-leb a l (down (leb-false b m e))

pub cells_with : (arg : Arg) (heap : Heap) (count : ℕ) → item_count arg ≡ Some count → cells_of (with_cell (array_of arg) heap) ≡ count + 1 + cells_of heap
cells_with (args.Ints items) heap count e = let same : length items ≡ count = same_Some (length items) count e in omega (arith, same)
cells_with (args.Bools items) heap count e = let same : length items ≡ count = same_Some (length items) count e in omega (arith, same, length-map items byte_of)
cells_with (args.Int n) heap count e = absurd cc
cells_with (args.Bool b) heap count e = absurd cc
cells_with args.Null heap count e = absurd cc
cells_with (args.Same k) heap count e = absurd cc

pub cells_left : (arg : Arg) (heap : Heap) (count limit : ℕ) → item_count arg ≡ Some count → count < limit
    → nat_le (cells_of (with_cell (array_of arg) heap)) limit ≡ nat_le (cells_of heap) (limit - count - 1)
cells_left arg heap count limit e few =
    let all = cells_with arg heap count e in
    same_test (cells_of (with_cell (array_of arg) heap)) limit (cells_of heap) (limit - count - 1) (λ h. omega (arith, all)) (λ h. omega (arith, all))

pub no_cells : (arg : Arg) (heap : Heap) (count limit : ℕ) → item_count arg ≡ Some count → limit ≤ count → nat_le (cells_of (with_cell (array_of arg) heap)) limit ≡ false
no_cells arg heap count limit e many = let all = cells_with arg heap count e in lt-leb (cells_of (with_cell (array_of arg) heap)) limit (omega (arith, all))

-- ---- arrays

pub array_is : (arg : Arg) → is_array arg ≡ true → array_of arg ≡ Some (record { place = place_of arg; items = items_of arg })
array_is (args.Ints items) e = refl
array_is (args.Bools items) e = refl
array_is (args.Int n) e = absurd cc
array_is (args.Bool b) e = absurd cc
array_is args.Null e = absurd cc
array_is (args.Same k) e = absurd cc

module _ (arg : Arg) (others heap : Heap) (limit : ℕ) (array : is_array arg ≡ true) (fits : cells_of heap + cells_of (with_cell (array_of arg) others) ≤ limit) where
  abbrev cell : ArrayCell
  cell = record { place = place_of arg; items = items_of arg }

  with_first : with_cell (array_of arg) others ≡ cell ∷ others
  with_first = ap (λ (c : Option ArrayCell). with_cell c others) (array_is arg array)

  all_cells : cells_of (heap ++ cell ∷ []) + cells_of others ≤ limit
  all_cells = let first = ap cells_of with_first in omega (arith, first, taken_with heap cell)

  pub room_for_first : has_room (record { heap = heap; limit = limit }) cell ≡ true
  room_for_first = le-leb _ _ (omega (arith, all_cells))

  pub room_behind : cells_of (heap ++ cell ∷ []) + cells_of others ≤ limit
  room_behind = all_cells

  pub put_first : with_array (record { heap = heap; limit = limit }) cell ≡ record { heap = heap ++ cell ∷ []; limit = limit }
  put_first = ap (λ (room : Bool). if room then record { heap = heap ++ cell ∷ []; limit = limit } else record { heap = heap; limit = limit }) room_for_first

  pub put_behind : (heap ++ cell ∷ []) ++ others ≡ heap ++ with_cell (array_of arg) others
  put_behind = append_assoc heap (cell ∷ []) others ∙ ap (λ h. heap ++ h) (sym with_first)

-- ---- the first of several

parts_of : (all : List Arg) (first : Arg) → 1 ≤ length all → first ≡ get_or all 0 first → all ≡ first ∷ take (length all - 1) (drop 1 all)
parts_of [] first some e = absurd (omega arith)
parts_of (arg ∷ rest) first some e =
    let many : length rest ≡ length (arg ∷ rest) - 1 = omega arith in
    ap (λ (a : Arg). a ∷ rest) (sym e) ∙ ap (λ (rest : List Arg). first ∷ rest) (sym (take-length rest) ∙ ap (λ k. take k rest) many)

module _ (all : List Arg) (first : Arg) (store : Store) (some : 1 ≤ length all) (is : first ≡ get_or all 0 first) (array : is_array first ≡ true)
    (fits : cells_of store.heap + cells_of (heap_of all) ≤ store.limit) where
  abbrev rest : List Arg
  rest = take (length all - 1) (drop 1 all)

  first_fits : cells_of store.heap + cells_of (with_cell (array_of first) (heap_of rest)) ≤ store.limit
  first_fits = subst (λ (all : List Arg). cells_of store.heap + cells_of (heap_of all) ≤ store.limit) (parts_of all first some is) fits

  pub one_put : with_array store (record { place = place_of first; items = items_of first })
      ≡ record store { heap = store.heap ++ record { place = place_of first; items = items_of first } ∷ [] }
  one_put = put_first first (heap_of rest) store.heap store.limit array first_fits

  pub rest_fits : cells_of (store.heap ++ record { place = place_of first; items = items_of first } ∷ []) + cells_of (heap_of rest) ≤ store.limit
  rest_fits = room_behind first (heap_of rest) store.heap store.limit array first_fits

  pub all_put : (store.heap ++ record { place = place_of first; items = items_of first } ∷ []) ++ heap_of rest ≡ store.heap ++ heap_of all
  all_put = put_behind first (heap_of rest) store.heap store.limit array first_fits ∙ ap (λ (all : List Arg). store.heap ++ heap_of all) (sym (parts_of all first some is))

pub rest_short : (all : List Arg) (first : Arg) → 1 ≤ length all → first ≡ get_or all 0 first → AreShort all → AreShort (take (length all - 1) (drop 1 all))
rest_short all first some is short = (subst AreShort (parts_of all first some is) short).1

-- ---- arguments that fit

fit_back : (types : List Place) (given : List Arg) → args_fit_back types given ≡ true → (length given ≡ length types) × AreShort given
fit_back [] [] e = (refl, tt)
fit_back [] (arg ∷ given) e = absurd cc
fit_back (place ∷ types) [] e = absurd cc
fit_back (place ∷ types) (arg ∷ given) e =
    let parts = and_parts (arg_fits types place arg) (args_fit_back types given) e in
    let rest = fit_back types given parts.1 in
    (omega (arith, rest.0), (short arg parts.0, rest.1))
  where
    short : (arg : Arg) → arg_fits types place arg ≡ true → IsShort arg
    short (args.Ints items) e = ltb-true _ _ (and_parts (same_place place places.Ints) (nat_lt (length items) (2 ^ 31)) e).1
    short (args.Bools items) e = ltb-true _ _ (and_parts (same_place place places.Bools) (nat_lt (length items) (2 ^ 31)) e).1
    short _ e = tt

pub none_fit : (types : List Place) (given : List Arg) → 1 ≤ length types → length given < 1 → false ≡ args_fit types given
none_fit types [] some none = sym (ap (λ ts. args_fit_back ts []) (turned_last types places.Int some))
none_fit types (arg ∷ given) some none = absurd (omega arith)

pub not_last : (types : List Place) (k : ℕ) (place : Place) → 1 ≤ length types → length (take (length types - 1) types) ≢ k
    → has_place (reverse (take (length types - 1) types)) k place ≡ has_place (reverse types) k place
not_last types k place some other =
    let earlier = take (length types - 1) types in
    let last = get_or types (length types - 1) places.Int in
    let differ : length (reverse earlier) ≢ k = λ e. other (sym (length-reverse earlier) ∙ e) in
    sym (ap (λ ts. has_place ts k place) (turned_last types places.Int some)
    ∙ ap (λ (here : Bool). if here then same_place last place else has_place (reverse earlier) k place) (ne_eqb (length (reverse earlier)) k differ))

pub fit_long : (types : List Place) (given : List Arg) → args_fit types given ≡ true → length given ≡ length types
fit_long types given e = omega (arith, (fit_back (reverse types) (reverse given) e).0, length-reverse types, length-reverse given)

pub fit_short : (types : List Place) (given : List Arg) → args_fit types given ≡ true → AreShort given
fit_short types given e =
    subst AreShort (reverse-reverse given) (all_reverse IsShort (reverse given) (fit_back (reverse types) (reverse given) e).1)
