-- What is found among arguments is what their heap has.
use Rattle.std.proofs.Common.{◌≡◌, ◌<◌, ◌^◌, ℕ, suc, ℤ, pos, negsuc, ◌≤ℤ◌, ◌<ℤ◌, Bool, true, false, ◌&&◌, if◌then◌else◌, unsigned_abs, le-leb, arith, List, length, Option, Some, None, option_map, slice_get, refl, ap, ◌∙◌}
use Rattle.std.proofs.lemmas.Int.{ints}
use Rattle.std.proofs.lemmas.List.{length-map}
use Rattle.std.proofs.lemmas.Option.{slice_get-map}
use Rattle.std.specs.Option.{option_and_then}
use Rattle.cil_model.specs.Clauses.{element_value, item_in, length_value}
use Rattle.cil_model.specs.Values.{Heap, same_place}
use Rattle.cil_model.specs.declared.machine.ArrayCell.{ArrayCell}
use Rattle.cil_model.specs.declared.machine.Value.TheVariants as values
use Rattle.cil_model.specs.declared.place.Place.{Place}
use Rattle.cil_model.specs.declared.place.Place.TheVariants as places
use Rattle.clause_eval.specs.GivenArrays.{IsShort, array_of, byte_of, item_count, item_of, items_of}
use Rattle.clause_eval.specs.Lookups.{item_at, item_of_place, length_at}
use Rattle.cil_model.specs.declared.arg.Arg.{Arg}
use Rattle.cil_model.specs.declared.arg.Arg.TheVariants as args

length_by : (arg : Arg) → option_map (λ (cell : ArrayCell). pos (length cell.items)) (array_of arg) ≡ option_map pos (item_count arg)
length_by (args.Bools items) = ap (λ n. Some (pos n)) (length-map items byte_of)
length_by _ = refl

pub length_found : (heap : Heap) (index : ℕ) (arg : Arg) → slice_get heap index ≡ array_of arg → length_at heap index ≡ option_map pos (item_count arg)
length_found heap index arg e = ap (option_map (λ (cell : ArrayCell). pos (length cell.items))) e ∙ length_by arg

item_by : (place : Place) (n : ℕ) (arg : Arg) → option_and_then (item_of_place place n) (array_of arg) ≡ item_of place n arg
item_by place n (args.Bools items) = ap (λ (item : Option ℤ). if same_place places.Bools place then item else None) (slice_get-map byte_of items n)
item_by place n _ = refl

pub item_found : (heap : Heap) (place : Place) (index n : ℕ) (arg : Arg) → slice_get heap index ≡ array_of arg → item_at heap place index n ≡ item_of place n arg
item_found heap place index n arg e = ap (option_and_then (item_of_place place n)) e ∙ item_by place n arg

-- ---- the values of clauses

pub length_value_is : (heap : Heap) (index : ℕ) → length_value heap (values.Array index) ≡ option_map values.Int (length_at heap index)
length_value_is heap index = by (slice_get heap index)
  where
    by : (found : Option ArrayCell) → option_map (λ (cell : ArrayCell). values.Int (pos (length cell.items))) found
        ≡ option_map values.Int (option_map (λ (cell : ArrayCell). pos (length cell.items)) found)
    by None = refl
    by (Some cell) = refl

pub element_value_is : (heap : Heap) (place : Place) (array : ℕ) (n : ℤ) → pos 0 ≤ℤ n
    → element_value heap place (values.Array array) (values.Int n) ≡ option_map values.Int (item_at heap place array (unsigned_abs n))
element_value_is heap place array (negsuc n) some = absurd (omega (arith, ints))
element_value_is heap place array (pos n) some = by (slice_get heap array)
  where
    placed : (here : Bool) (items : List ℤ) → (if here && true then option_map values.Int (slice_get items n) else None) ≡ option_map values.Int (if here then slice_get items n else None)
    placed true items = refl
    placed false items = refl

    by : (found : Option ArrayCell) → option_and_then (item_in place (pos n)) found ≡ option_map values.Int (option_and_then (item_of_place place n) found)
    by None = refl
    by (Some cell) =
        ap (λ (b : Bool). if same_place cell.place place && b then option_map values.Int (slice_get cell.items n) else None) (le-leb 0 n (omega arith))
        ∙ placed (same_place cell.place place) cell.items

pub no_element : (heap : Heap) (place : Place) (array : ℕ) (n : ℤ) → n <ℤ pos 0 → element_value heap place (values.Array array) (values.Int n) ≡ None
no_element heap place array (pos n) less = absurd (omega (arith, ints))
no_element heap place array (negsuc n) less = by (slice_get heap array)
  where
    placed : (here : Bool) (items : List ℤ) → (if here && false then option_map values.Int (slice_get items (suc n)) else None) ≡ None
    placed true items = refl
    placed false items = refl

    by : (found : Option ArrayCell) → option_and_then (item_in place (negsuc n)) found ≡ None
    by None = refl
    by (Some cell) = placed (same_place cell.place place) cell.items

-- Items that are put are few.
pub few_items : (arg : Arg) → IsShort arg → length (items_of arg) < 2 ^ 31
few_items (args.Ints items) short = short
few_items (args.Bools items) short = omega (arith, short, length-map items byte_of)
few_items (args.Int n) short = omega arith
few_items (args.Bool b) short = omega arith
few_items args.Null short = omega arith
few_items (args.Same k) short = omega arith
