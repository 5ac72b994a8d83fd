-- Heaps whose arrays keep their types and lengths, and what stays true over them.
use Rattle.std.proofs.Common.{◌≡◌, ℕ, zero, suc, ◌<◌, ◌≤◌, nat_lt, true, false, List, [], ◌∷◌, ◌++◌, length, slice_get, slice_set, Option, Some, None, if◌then◌else◌, refl, sym, ap, subst, ◌∙◌, arith}
use Rattle.std.specs.List.{AllByRecursion}
use Rattle.std.specs.Option.{option_map_or}
use Rattle.std.proofs.lemmas.Bool.{false≢true, lt-ltb, ltb-true}
use Rattle.std.proofs.lemmas.Int.{ints}
use Rattle.std.proofs.lemmas.Option.{cond_some, none-some, same_Some}
use Rattle.cil_model.specs.Values.{Heap, FitPlaces, FitsPlace, HasItemOf, IsArray, IsHeap, IsValue, KeepsForms, has_array, has_item, put, put_all, same_place, with_first}
use Rattle.cil_model.specs.declared.machine.ArrayCell.{ArrayCell}
use Rattle.cil_model.specs.declared.machine.Value.{Value}
use Rattle.cil_model.specs.declared.machine.Value.TheVariants as values
use Rattle.cil_model.specs.declared.place.Place.{Place}
use Rattle.cil_model.specs.declared.place.Place.TheVariants as places
use Rattle.cil_model.proofs.ArithmeticFits.{low_bits_are_byte}

-- ---- heaps

pub keeps_itself : (heap : Heap) → KeepsForms heap heap
keeps_itself [] = tt
keeps_itself (cell ∷ cells) = (refl, refl, keeps_itself cells)

pub keeps_on : (a b c : Heap) → KeepsForms a b → KeepsForms b c → KeepsForms a c
keeps_on [] b c h k = tt
keeps_on (x ∷ a) [] c h k = absurd h
keeps_on (x ∷ a) (y ∷ b) [] h k = absurd k
keeps_on (x ∷ a) (y ∷ b) (z ∷ c) h k = (k.0 ∙ h.0, k.1 ∙ h.1, keeps_on a b c h.2 k.2)

pub keeps_before : (heap more : Heap) → KeepsForms heap (heap ++ more)
keeps_before [] more = tt
keeps_before (cell ∷ cells) more = (refl, refl, keeps_before cells more)

-- One array is replaced by one of its type and length.
pub keeps_others : (heap : Heap) (a : ℕ) (cell new : ArrayCell) → slice_get heap a ≡ Some cell → new.place ≡ cell.place → length new.items ≡ length cell.items
    → KeepsForms heap (slice_set heap a new)
keeps_others [] a cell new there place long = tt
keeps_others (first ∷ cells) zero cell new there place long =
    let same : first ≡ cell = same_Some first cell there in
    (place ∙ ap (λ (c : ArrayCell). c.place) (sym same), long ∙ ap (λ (c : ArrayCell). length c.items) (sym same), keeps_itself cells)
keeps_others (first ∷ cells) (suc a) cell new there place long = (refl, refl, keeps_others cells a cell new there place long)

pub heap_and_one : (heap : Heap) (cell : ArrayCell) → IsHeap heap → IsArray cell → IsHeap (heap ++ cell ∷ [])
heap_and_one [] cell is one = (one, tt)
heap_and_one (first ∷ cells) cell is one = (is.0, heap_and_one cells cell is.1 one)

pub heap_with : (heap : Heap) (a : ℕ) (new : ArrayCell) → IsHeap heap → IsArray new → IsHeap (slice_set heap a new)
heap_with [] a new is one = tt
heap_with (first ∷ cells) zero new is one = (one, is.1)
heap_with (first ∷ cells) (suc a) new is one = (is.0, heap_with cells a new is.1 one)

pub array_of_heap : (heap : Heap) (a : ℕ) (cell : ArrayCell) → IsHeap heap → slice_get heap a ≡ Some cell → IsArray cell
array_of_heap [] a cell is there = absurd (none-some cell there)
array_of_heap (first ∷ cells) zero cell is there = subst IsArray (same_Some first cell there) is.0
array_of_heap (first ∷ cells) (suc a) cell is there = array_of_heap cells a cell is.1 there

-- ---- values

pub has_array-kept : (old new : Heap) (place : Place) (i : ℕ) → KeepsForms old new → has_array old place i ≡ true → has_array new place i ≡ true
has_array-kept [] new place i kept has = absurd (false≢true has)
has_array-kept (cell ∷ old) [] place i kept has = absurd kept
has_array-kept (cell ∷ old) (now ∷ new) place zero kept has = ap (λ (p : Place). same_place p place) kept.0 ∙ has
has_array-kept (cell ∷ old) (now ∷ new) place (suc i) kept has = has_array-kept old new place i kept.2 has

pub has_item-kept : (old new : Heap) (a n : ℕ) → KeepsForms old new → has_item old a n ≡ true → has_item new a n ≡ true
has_item-kept [] new a n kept has = absurd (false≢true has)
has_item-kept (cell ∷ old) [] a n kept has = absurd kept
has_item-kept (cell ∷ old) (now ∷ new) zero n kept has = ap (nat_lt n) kept.1 ∙ has
has_item-kept (cell ∷ old) (now ∷ new) (suc a) n kept has = has_item-kept old new a n kept.2 has

-- An address stays one of an item of its array's type.
pub HasItemOf-kept : (old new : Heap) (place : Place) (a n : ℕ) → KeepsForms old new → HasItemOf old place a n → HasItemOf new place a n
HasItemOf-kept old new place a n kept has = (has_array-kept old new place a kept has.0, has_item-kept old new a n kept has.1)

-- The array there has the items of the indexes below its length.
pub item_of_array : (heap : Heap) (a n : ℕ) (cell : ArrayCell) → slice_get heap a ≡ Some cell → n < length cell.items → has_item heap a n ≡ true
item_of_array heap a n cell found within =
    subst (λ (o : Option ArrayCell). option_map_or (λ (c : ArrayCell). nat_lt n (length c.items)) o false ≡ true) (sym found) (lt-ltb n (length cell.items) within)

-- It has no others.
pub item_within : (heap : Heap) (a n : ℕ) (cell : ArrayCell) → slice_get heap a ≡ Some cell → has_item heap a n ≡ true → n < length cell.items
item_within heap a n cell found has =
    ltb-true n (length cell.items) (subst (λ (o : Option ArrayCell). option_map_or (λ (c : ArrayCell). nat_lt n (length c.items)) o false ≡ true) found has)

has_array-below : (heap : Heap) (place : Place) (i : ℕ) → has_array heap place i ≡ true → i < length heap
has_array-below [] place i has = absurd (false≢true has)
has_array-below (cell ∷ cells) place zero has = omega arith
has_array-below (cell ∷ cells) place (suc i) has = let below = has_array-below cells place i has in omega arith

length-kept : (old new : Heap) → KeepsForms old new → length old ≤ length new
length-kept [] new kept = omega arith
length-kept (cell ∷ old) [] kept = absurd kept
length-kept (cell ∷ old) (now ∷ new) kept = let rest = length-kept old new kept.2 in omega arith

module _ (old new : Heap) (kept : KeepsForms old new) where
  pub FitsPlace-kept : (place : Place) (v : Value) → FitsPlace old place v → FitsPlace new place v
  FitsPlace-kept places.Bool (values.Int n) fits = fits
  FitsPlace-kept places.Int (values.Int n) fits = fits
  FitsPlace-kept places.Bools values.Null fits = tt
  FitsPlace-kept places.Bools (values.Array i) fits = has_array-kept old new places.Bools i kept fits
  FitsPlace-kept places.Ints values.Null fits = tt
  FitsPlace-kept places.Ints (values.Array i) fits = has_array-kept old new places.Ints i kept fits
  FitsPlace-kept _ _ fits = absurd fits

  pub FitPlaces-kept : (places : List Place) (vs : List Value) → FitPlaces old places vs → FitPlaces new places vs
  FitPlaces-kept [] [] fit = tt
  FitPlaces-kept (place ∷ places) (v ∷ vs) fit = (FitsPlace-kept place v fit.0, FitPlaces-kept places vs fit.1)
  FitPlaces-kept [] (v ∷ vs) fit = absurd fit
  FitPlaces-kept (place ∷ places) [] fit = absurd fit

  pub IsValue-kept : (v : Value) → IsValue old v → IsValue new v
  IsValue-kept (values.Array i) is = let more = length-kept old new kept in omega arith
  IsValue-kept (values.Addr a n) is = has_item-kept old new a n kept is
  IsValue-kept (values.Int n) is = is
  IsValue-kept (values.Native n) is = is
  IsValue-kept values.Null is = tt
  IsValue-kept values.Text is = tt

  pub AreValues-kept : (vs : List Value) → AllByRecursion (IsValue old) vs → AllByRecursion (IsValue new) vs
  AreValues-kept [] are = tt
  AreValues-kept (v ∷ vs) are = (IsValue-kept v are.0, AreValues-kept vs are.1)

-- What fits a place is a value.
pub value_of_place : (heap : Heap) (place : Place) (v : Value) → FitsPlace heap place v → IsValue heap v
value_of_place heap places.Bool (values.Int n) fits = let low = fits.0 in let high = fits.1 in omega (arith, ints)
value_of_place heap places.Int (values.Int n) fits = fits
value_of_place heap places.Bools values.Null fits = tt
value_of_place heap places.Bools (values.Array i) fits = has_array-below heap places.Bools i fits
value_of_place heap places.Ints values.Null fits = tt
value_of_place heap places.Ints (values.Array i) fits = has_array-below heap places.Ints i fits
value_of_place heap _ _ fits = absurd fits

-- ---- puts

put_array : (heap : Heap) (place : Place) (i : ℕ) (v : Value) → (if has_array heap place i then Some (values.Array i) else None) ≡ Some v
    → (has_array heap place i ≡ true) × (values.Array i ≡ v)
put_array heap place i v e = cond_some (has_array heap place i) (values.Array i) v e

-- What is put into a place fits it.
pub put_fits : (heap : Heap) (place : Place) (v new : Value) → IsValue heap v → put heap place v ≡ Some new → FitsPlace heap place new
put_fits heap places.Bool (values.Int n) new is e = subst (FitsPlace heap places.Bool) (same_Some _ new e) (low_bits_are_byte n)
put_fits heap places.Int (values.Int n) new is e = subst (FitsPlace heap places.Int) (same_Some _ new e) is
put_fits heap places.Bools values.Null new is e = subst (FitsPlace heap places.Bools) (same_Some _ new e) tt
put_fits heap places.Bools (values.Array i) new is e = let both = put_array heap places.Bools i new e in subst (FitsPlace heap places.Bools) both.1 both.0
put_fits heap places.Ints values.Null new is e = subst (FitsPlace heap places.Ints) (same_Some _ new e) tt
put_fits heap places.Ints (values.Array i) new is e = let both = put_array heap places.Ints i new e in subst (FitsPlace heap places.Ints) both.1 both.0
put_fits heap _ _ new is e = absurd (none-some new e)

with_first_fits : (heap : Heap) (place : Place) (places : List Place) (first : Option Value) (others : Option (List Value)) (vs : List Value)
    → ((v : Value) → first ≡ Some v → FitsPlace heap place v) → ((us : List Value) → others ≡ Some us → FitPlaces heap places us)
    → with_first first others ≡ Some vs → FitPlaces heap (place ∷ places) vs
with_first_fits heap place places (Some v) (Some us) vs one more e = subst (FitPlaces heap (place ∷ places)) (same_Some (v ∷ us) vs e) (one v refl, more us refl)
with_first_fits heap place places (Some v) None vs one more e = absurd (none-some vs e)
with_first_fits heap place places None others vs one more e = absurd (none-some vs e)

pub put_all_fit : (heap : Heap) (places : List Place) (vs new : List Value) → AllByRecursion (IsValue heap) vs → put_all heap places vs ≡ Some new → FitPlaces heap places new
put_all_fit heap [] [] new are e = subst (FitPlaces heap []) (same_Some [] new e) tt
put_all_fit heap (place ∷ places) (v ∷ vs) new are e =
    with_first_fits heap place places (put heap place v) (put_all heap places vs) new (λ w f. put_fits heap place v w are.0 f) (λ us f. put_all_fit heap places vs us are.1 f) e
put_all_fit heap [] (v ∷ vs) new are e = absurd (none-some new e)
put_all_fit heap (place ∷ places) [] new are e = absurd (none-some new e)

-- ---- variables

pub variable_is_value : (heap : Heap) (places : List Place) (vs : List Value) (n : ℕ) (v : Value) → FitPlaces heap places vs → slice_get vs n ≡ Some v → IsValue heap v
variable_is_value heap (place ∷ places) (w ∷ vs) zero v fit e = subst (IsValue heap) (same_Some w v e) (value_of_place heap place w fit.0)
variable_is_value heap (place ∷ places) (w ∷ vs) (suc n) v fit e = variable_is_value heap places vs n v fit.1 e
variable_is_value heap places [] n v fit e = absurd (none-some v e)
variable_is_value heap [] (w ∷ vs) n v fit e = absurd fit

pub variables_with : (heap : Heap) (places : List Place) (vs : List Value) (n : ℕ) (place : Place) (v : Value)
    → FitPlaces heap places vs → slice_get places n ≡ Some place → FitsPlace heap place v → FitPlaces heap places (slice_set vs n v)
variables_with heap (first ∷ places) (w ∷ vs) zero place v fit e fits = (subst (λ (p : Place). FitsPlace heap p v) (sym (same_Some first place e)) fits, fit.1)
variables_with heap (first ∷ places) (w ∷ vs) (suc n) place v fit e fits = (fit.0, variables_with heap places vs n place v fit.1 e fits)
variables_with heap [] [] n place v fit e fits = tt
variables_with heap [] (w ∷ vs) n place v fit e fits = absurd fit
variables_with heap (first ∷ places) [] n place v fit e fits = absurd fit
