-- Items of arrays over a heap: how many there are, what they may be, and what new arrays and stores leave of them.
use Rattle.std.proofs.Common.{◌≡◌, ℕ, zero, suc, ◌==◌, ◌<◌, ℤ, pos, ◌≤ℤ◌, Bool, true, false, Option, Some, None, List, [], ◌∷◌, ◌++◌, length, get_or, FitsSigned, w32, ◌⊎◌, inl, inr, refl, sym, ap, ◌∙◌, arith}
use Rattle.std.specs.Prelude.{Contains, set, slice_get, slice_set}
use Rattle.std.specs.List.{AllByRecursion}
use Rattle.std.specs.Option.{option_map_or}
use Rattle.std.proofs.lemmas.Bool.{cases_Bool, eqb-true, false≢true}
use Rattle.std.proofs.lemmas.Int.{ints}
use Rattle.std.proofs.lemmas.List.Elements.{All-contains, All-from_recursion, Contains-get_or}
use Rattle.array_contents.specs.Meaning.{AreIn, IsBehindStore, IsWritten}
use Rattle.array_segments.specs.Meaning.{worth}
use Rattle.cil_model.proofs.HeapsKept.{array_of_heap}
use Rattle.cil_model.specs.Effects.{with_item}
use Rattle.cil_model.specs.Values.{FitItems, Heap, IsArray, IsByte, IsHeap, same_place}
use Rattle.cil_model.specs.declared.machine.ArrayCell.{ArrayCell}
use Rattle.cil_model.specs.declared.place.Place.{Place}
use Rattle.cil_model.specs.declared.place.Place.TheVariants as places
use Rattle.domain_api.specs.declared.expr.Expr.{Expr}
use Rattle.interval_domain.specs.Interval as ranges
use Rattle.interval_domain.specs.Joins.{hull, kept_hole}
use Rattle.state_facts.specs.Calls.{items_of}
use Rattle.state_facts.specs.Holds.{FitsArray, items_of_array, length_of_array}
use Rattle.state_facts.specs.Moves.{greatest_item, least_item}

abbrev items_at : Option ArrayCell → List ℤ
items_at o = option_map_or (λ (c : ArrayCell). c.items) o []

-- ---- how many

pub length_of_items : (heap : Heap) (a : Option ℕ) → length_of_array heap a ≡ pos (length (items_of_array heap a))
length_of_items heap None = refl
length_of_items heap (Some i) = each (slice_get heap i)
  where
    each : (o : Option ArrayCell) → pos (option_map_or (λ (c : ArrayCell). length c.items) o 0) ≡ pos (length (items_at o))
    each None = refl
    each (Some c) = refl

pub items_here : (heap : Heap) (a : Option ℕ) (i : ℕ) (cell : ArrayCell) → a ≡ Some i → slice_get heap i ≡ Some cell → items_of_array heap a ≡ cell.items
items_here heap a i cell is there = ap (items_of_array heap) is ∙ ap items_at there

-- ---- what they may be

pub hull_of_bytes : hull (ranges.one (pos 0)) (ranges.one (pos 255)) ≡ ranges.between (pos 0) (pos 255)
unfolding hull kept_hole ranges.holed ranges.inner_hole
hull_of_bytes = refl

pub byte_fits : (n : ℤ) → IsByte n → FitsSigned w32 n
byte_fits n is = omega (arith, ints, is.0, is.1)

contained : {X : Type 0} (P : X → Type 0) (xs : List X) (x : X) → AllByRecursion P xs → Contains xs x → P x
contained P xs x all there = All-contains P xs x (All-from_recursion P xs all) there

-- an item is an int32
pub item_fits : (place : Place) (items : List ℤ) (n : ℤ) → FitItems place items → Contains items n → FitsSigned w32 n
item_fits places.Void items n fit there = elim fit [ ]
item_fits places.Bool items n fit there = elim fit [ ]
item_fits places.Int items n fit there = elim fit [ ]
item_fits places.Bools items n fit there = byte_fits n (contained IsByte items n fit there)
item_fits places.Ints items n fit there = contained (FitsSigned w32) items n fit there

-- what an item of an array of this type may be
fits_item : (place own : Place) (items : List ℤ) (n : ℤ) → same_place own place ≡ true → FitItems own items → Contains items n
    → (least_item place ≤ℤ n) × (n ≤ℤ greatest_item place)
fits_item places.Void own items n same fit there = let is = item_fits own items n fit there in (omega (arith, ints, is), omega (arith, ints, is))
fits_item places.Bool own items n same fit there = let is = item_fits own items n fit there in (omega (arith, ints, is), omega (arith, ints, is))
fits_item places.Int own items n same fit there = let is = item_fits own items n fit there in (omega (arith, ints, is), omega (arith, ints, is))
fits_item places.Ints own items n same fit there = let is = item_fits own items n fit there in (omega (arith, ints, is), omega (arith, ints, is))
fits_item places.Bools places.Void items n same fit there = elim fit [ ]
fits_item places.Bools places.Bool items n same fit there = elim fit [ ]
fits_item places.Bools places.Int items n same fit there = elim fit [ ]
fits_item places.Bools places.Ints items n same fit there = absurd (false≢true same)
fits_item places.Bools places.Bools items n same fit there =
    let is : IsByte n = contained IsByte items n fit there in (is.0, omega (arith, ints, is.1))

in_range : (place own : Place) (items : List ℤ) (n : ℤ) → same_place own place ≡ true → FitItems own items → Contains items n
    → ranges.Contains (items_of place) n
in_range place own items n same fit there =
    let ends = fits_item place own items n same fit there in
    let is = item_fits own items n fit there in
    record { fits = omega (arith, ints, is); above = ends.0; below = ends.1; no_hole = λ e. cc }

pub all_items : (heap : Heap) (place : Place) (a : Option ℕ) → IsHeap heap → FitsArray heap place a → AreIn (items_of place) (items_of_array heap a)
all_items heap place None is fits = λ index below. absurd (omega (arith, below))
all_items heap place (Some i) is fits = each (slice_get heap i) (λ cell there. array_of_heap heap i cell is there) fits
  where
    each : (o : Option ArrayCell) → ((cell : ArrayCell) → o ≡ Some cell → IsArray cell) → option_map_or (λ (c : ArrayCell). same_place c.place place) o false ≡ true
        → AreIn (items_of place) (items_at o)
    each None are fits = absurd (false≢true fits)
    each (Some cell) are fits = λ index below.
        in_range place cell.place cell.items (get_or cell.items index (pos 0)) fits (are cell refl).0 (Contains-get_or cell.items index (pos 0) below)

-- ---- arrays that come behind others

pub items_before : (heap more : Heap) (a : Option ℕ) → ((i : ℕ) → a ≡ Some i → i < length heap) → items_of_array (heap ++ more) a ≡ items_of_array heap a
items_before heap more None there = refl
items_before heap more (Some i) there = ap items_at (got heap i (there i refl))
  where
    got : (cells : Heap) (j : ℕ) → j < length cells → slice_get (cells ++ more) j ≡ slice_get cells j
    got [] j below = absurd (omega (arith, below))
    got (c ∷ cells) zero below = refl
    got (c ∷ cells) (suc j) below = got cells j (omega (arith, below))

-- ---- stores

set_here : (heap : Heap) (i : ℕ) (cell new : ArrayCell) → slice_get heap i ≡ Some cell → slice_get (slice_set heap i new) i ≡ Some new
set_here [] zero cell new there = absurd cc
set_here [] (suc i) cell new there = absurd cc
set_here (c ∷ heap) zero cell new there = refl
set_here (c ∷ heap) (suc i) cell new there = set_here heap i cell new there

set_elsewhere : (heap : Heap) (i j : ℕ) (new : ArrayCell) → (j ≡ i → ⊥) → slice_get (slice_set heap i new) j ≡ slice_get heap j
set_elsewhere [] i j new other = refl
set_elsewhere (c ∷ heap) zero zero new other = absurd (other refl)
set_elsewhere (c ∷ heap) zero (suc j) new other = refl
set_elsewhere (c ∷ heap) (suc i) zero new other = refl
set_elsewhere (c ∷ heap) (suc i) (suc j) new other = set_elsewhere heap i j new (λ is. other (ap suc is))

pub written_here : (heap : Heap) (a : Option ℕ) (i : ℕ) (cell : ArrayCell) (index : ℕ) (n : ℤ) → a ≡ Some i → slice_get heap i ≡ Some cell
    → items_of_array (with_item heap i cell index n) a ≡ set (items_of_array heap a) index n
written_here heap a i cell index n is there =
    ap (items_of_array (with_item heap i cell index n)) is
    ∙ ap items_at (set_here heap i cell (record cell { items = slice_set cell.items index n }) there)
    ∙ ap (λ (items : List ℤ). set items index n) (sym (items_here heap a i cell is there))

pub written_elsewhere : (heap : Heap) (a : Option ℕ) (i : ℕ) (cell : ArrayCell) (index : ℕ) (n : ℤ) → (a ≡ Some i → ⊥)
    → items_of_array (with_item heap i cell index n) a ≡ items_of_array heap a
written_elsewhere heap None i cell index n other = refl
written_elsewhere heap (Some j) i cell index n other =
    ap items_at (set_elsewhere heap i j (record cell { items = slice_set cell.items index n }) (λ is. other (ap (λ (k : ℕ). Some k) is)))

is_it : (a : Option ℕ) (i : ℕ) → (a ≡ Some i) ⊎ (a ≡ Some i → ⊥)
is_it None i = inr (λ is. cc)
is_it (Some j) i = elim (cases_Bool (j == i)) [
  | inl is ↦ inl (ap (λ (k : ℕ). Some k) (eqb-true j i is))
  | inr other ↦ inr (λ is. differs j i other (same is))
]
  where
    same : Some j ≡ Some i → j ≡ i
    same is = cc

    differs : (j i : ℕ) → (j == i) ≡ false → j ≡ i → ⊥
    differs j i other is = grind (arith, other, is)

pub is_written : (heap : Heap) (number : ℕ → ℤ) (a : Option ℕ) (i : ℕ) (cell : ArrayCell) (at : Expr) (index : ℕ) (n : ℤ) → a ≡ Some i
    → slice_get heap i ≡ Some cell → worth number at ≡ pos index → index < length cell.items
    → IsWritten number at n (items_of_array heap a) (items_of_array (with_item heap i cell index n) a)
is_written heap number a i cell at index n is there same below =
    (index, record { same = same; below = rw (items_here heap a i cell is there) below }, written_here heap a i cell index n is there)

-- what a store left of a reference that may be the array, or is known not to be
pub behind_store : (heap : Heap) (number : ℕ → ℤ) (a : Option ℕ) (i : ℕ) (cell : ArrayCell) (at : Expr) (index : ℕ) (n : ℤ) (may_be : Bool)
    → slice_get heap i ≡ Some cell → worth number at ≡ pos index → index < length cell.items → (may_be ≡ false → a ≡ Some i → ⊥)
    → IsBehindStore number at n may_be (items_of_array heap a) (items_of_array (with_item heap i cell index n) a)
behind_store heap number a i cell at index n false there same below other = written_elsewhere heap a i cell index n (other refl)
behind_store heap number a i cell at index n true there same below other = elim (is_it a i) [
  | inl is ↦ inr (is_written heap number a i cell at index n is there same below)
  | inr not ↦ inl (written_elsewhere heap a i cell index n not)
]
