-- What changes of a flat row are to the heap that it holds.
use Rattle.std.proofs.Common.{◌≡◌, ℕ, zero, suc, ◌+◌, ◌^◌, ◌<◌, ◌≤◌, ℤ, Bool, true, false, List, [], ◌∷◌, ◌++◌, length, take, drop, slice_get, slice_set, Some, option_map, if◌then◌else◌, refl, sym, ap, subst, ◌∙◌, arith, length-append, length-drop}
use Rattle.std.specs.List.{AllByRecursion}
use Rattle.std.proofs.lemmas.Bool.{le-leb, leb-true, lt-leb}
use Rattle.std.proofs.lemmas.List.{length-take, length-take-le, set_past}
use Rattle.std.proofs.lemmas.Option.{none-some, same_Some, slice_get-map}
use Rattle.cil_model.proofs.Lists.{all_append}
use Rattle.cil_model.specs.Effects.{with_item}
use Rattle.cil_model.specs.Values.{Heap}
use Rattle.cil_model.specs.declared.machine.ArrayCell.{ArrayCell}
use Rattle.cil_model.specs.declared.place.Place.{Place}
use Rattle.clause_eval.specs.declared.memory.Array.{Array}
use Rattle.clause_eval.specs.Rows.{IsLaid, LieFrom, cell_in, heap_in}
use Rattle.clause_eval.specs.Stores.{Store, cells_of, has_room, replaced, replaced_in, with_array}
use Rattle.clause_eval.proofs.RowLemmas.{lies_within, stored_in, one_more, lie_on, taken, behind}

-- ---- the arrays that there are

pub within_row : (limit : ℕ) (cells : List ℤ) (arrays : List Array) (room others i : ℕ) (a : Array) → IsLaid limit cells arrays room others
    → slice_get arrays i ≡ Some a → a.start + a.len ≤ length cells
within_row limit cells arrays room others i a laid e = (lies_within 0 arrays (length cells) i a laid.lie e).to

short_of : (arrays : List Array) (i : ℕ) (a : Array) → AllByRecursion (λ (x : Array). x.len < 2 ^ 31) arrays → slice_get arrays i ≡ Some a → a.len < 2 ^ 31
short_of [] i a h e = absurd (none-some a e)
short_of (b ∷ bs) zero a h e = subst (λ (x : Array). x.len < 2 ^ 31) (same_Some b a e) h.0
short_of (b ∷ bs) (suc i) a h e = short_of bs i a h.1 e

-- What is taken of a row by an array's length is short.
pub short_items : (limit : ℕ) (cells xs : List ℤ) (arrays : List Array) (room others i : ℕ) (a : Array) → IsLaid limit cells arrays room others
    → slice_get arrays i ≡ Some a → length (take a.len xs) < 2 ^ 31
short_items limit cells xs arrays room others i a laid e =
    let short = short_of arrays i a laid.short e in
    omega (arith, length-take a.len xs)

pub found_in : (cells : List ℤ) (arrays : List Array) (i : ℕ) (a : Array) → slice_get arrays i ≡ Some a → slice_get (heap_in cells arrays) i ≡ Some (cell_in cells a)
found_in cells arrays i a e = slice_get-map (cell_in cells) arrays i ∙ ap (option_map (cell_in cells)) e

-- ---- an item is replaced

pub replaced_laid : (cells : List ℤ) (arrays : List Array) (end i : ℕ) (a : Array) (k : ℕ) (v : ℤ) → LieFrom 0 arrays end → slice_get arrays i ≡ Some a
    → k < a.len → heap_in (slice_set cells (a.start + k) v) arrays ≡ replaced (heap_in cells arrays) i k v
replaced_laid cells arrays end i a k v lie e within =
    stored_in cells 0 arrays end i a k v lie e within ∙ sym (ap (replaced_in (heap_in cells arrays) i k v) (found_in cells arrays i a e))

set_same : {X : Type 0} (xs : List X) (i : ℕ) (x : X) → slice_get xs i ≡ Some x → slice_set xs i x ≡ xs
set_same [] i x e = refl
set_same (y ∷ ys) zero x e = ap (λ z. z ∷ ys) (sym (same_Some y x e))
set_same (y ∷ ys) (suc i) x e = ap (λ zs. y ∷ zs) (set_same ys i x e)

pub replaced_past : (cells : List ℤ) (arrays : List Array) (i : ℕ) (a : Array) (k : ℕ) (v : ℤ) → slice_get arrays i ≡ Some a → a.len ≤ k
    → a.start + a.len ≤ length cells → heap_in cells arrays ≡ replaced (heap_in cells arrays) i k v
replaced_past cells arrays i a k v e past within =
    let heap = heap_in cells arrays in
    let long : length (take a.len (drop a.start cells)) ≡ a.len = length-take-le a.len (drop a.start cells) (omega (arith, length-drop a.start cells)) in
    let items : slice_set (cell_in cells a).items k v ≡ (cell_in cells a).items = set_past (cell_in cells a).items k v (omega (arith, long)) in
    let same : with_item heap i (cell_in cells a) k v ≡ heap =
    ap (λ (xs : List ℤ). slice_set heap i (record { place = a.place; items = xs })) items ∙ set_same heap i (cell_in cells a) (found_in cells arrays i a e) in
    sym (ap (replaced_in heap i k v) (found_in cells arrays i a e) ∙ same)

-- ---- one more array

pub taken_with : (heap : Heap) (cell : ArrayCell) → cells_of (heap ++ cell ∷ []) ≡ cells_of heap + length cell.items + 1
taken_with [] cell = omega arith
taken_with (c ∷ heap) cell = omega (arith, taken_with heap cell)

abbrev store_of : ℕ → List ℤ → List Array → Store
store_of limit cells arrays = record { heap = heap_in cells arrays; limit = limit }

pub no_room : (limit : ℕ) (cells : List ℤ) (arrays : List Array) (cell : ArrayCell) → LieFrom 0 arrays (length cells)
    → limit ≤ length cells + length cell.items + length arrays → has_room (store_of limit cells arrays) cell ≡ false
no_room limit cells arrays cell lie full =
    lt-leb _ _ (omega (arith, taken_with (heap_in cells arrays) cell, taken cells arrays lie))

pub some_room : (limit : ℕ) (cells : List ℤ) (arrays : List Array) (cell : ArrayCell) → LieFrom 0 arrays (length cells)
    → length cells + length cell.items + length arrays < limit → has_room (store_of limit cells arrays) cell ≡ true
some_room limit cells arrays cell lie fits =
    le-leb _ _ (omega (arith, taken_with (heap_in cells arrays) cell, taken cells arrays lie))

pub room_is : (limit : ℕ) (cells : List ℤ) (arrays : List Array) (cell : ArrayCell) → LieFrom 0 arrays (length cells)
    → has_room (store_of limit cells arrays) cell ≡ true → length cells + length cell.items + length arrays < limit
room_is limit cells arrays cell lie room =
    let fits = leb-true _ _ room in omega (arith, fits, taken_with (heap_in cells arrays) cell, taken cells arrays lie)

abbrev with_test : Bool → Store → ArrayCell → Store
with_test room store cell = if room then record store { heap = store.heap ++ cell ∷ [] } else store

pub stays : (store : Store) (cell : ArrayCell) → has_room store cell ≡ false → store ≡ with_array store cell
stays store cell e = sym (ap (λ room. with_test room store cell) e)

-- The row after which an array of these items was appended.
pub record Appended (cells items : List ℤ) (arrays : List Array) (place : Place) (len : ℕ) (newCells : List ℤ) (newArrays : List Array) : Type 0 where
  pub cells_are : newCells ≡ cells ++ items
  pub arrays_are : newArrays ≡ arrays ++ behind cells place len ∷ []
  pub long : len ≡ length items

pub heap_with_one : (limit : ℕ) (cells items : List ℤ) (arrays : List Array) (place : Place) (len : ℕ) (newCells : List ℤ) (newArrays : List Array)
    → LieFrom 0 arrays (length cells) → Appended cells items arrays place len newCells newArrays
    → has_room (store_of limit cells arrays) (record { place = place; items = items }) ≡ true
    → store_of limit newCells newArrays ≡ with_array (store_of limit cells arrays) (record { place = place; items = items })
heap_with_one limit cells items arrays place len newCells newArrays lie appended room =
    let heaps : heap_in newCells newArrays ≡ heap_in cells arrays ++ record { place = place; items = items } ∷ [] =
    ap (λ (cs : List ℤ). heap_in cs newArrays) appended.cells_are ∙ ap (heap_in (cells ++ items)) appended.arrays_are
    ∙ one_more cells items arrays place len lie appended.long in
    ap (λ (heap : Heap). record { heap = heap; limit = limit }) heaps
    ∙ sym (ap (λ test. with_test test (store_of limit cells arrays) (record { place = place; items = items })) room)

pub laid_with_one : (limit : ℕ) (cells items : List ℤ) (arrays : List Array) (place : Place) (len : ℕ) (newCells : List ℤ) (newArrays : List Array) (a b c d : ℕ)
    → IsLaid limit cells arrays a b → Appended cells items arrays place len newCells newArrays → len < 2 ^ 31
    → length cells + len + length arrays < limit → a ≤ c → b ≤ d → IsLaid limit newCells newArrays c d
laid_with_one limit cells items arrays place len newCells newArrays a b c d laid appended short fits more others =
    let longer : length newCells ≡ length cells + len = ap length appended.cells_are ∙ length-append cells items ∙ ap (λ n. length cells + n) (sym appended.long) in
    let one : length newArrays ≡ length arrays + 1 = ap length appended.arrays_are ∙ length-append arrays (behind cells place len ∷ []) in
    record {
      lie = subst (λ ys. LieFrom 0 ys (length newCells)) (sym appended.arrays_are)
          (subst (LieFrom 0 (arrays ++ behind cells place len ∷ [])) (sym longer) (lie_on 0 arrays (length cells) (behind cells place len) laid.lie refl));
      short = subst (λ ys. AllByRecursion (λ (x : Array). x.len < 2 ^ 31) ys) (sym appended.arrays_are)
          (all_append (λ (x : Array). x.len < 2 ^ 31) arrays (behind cells place len ∷ []) laid.short (short, tt));
      within = omega (arith, longer, one);
      cells_fit = omega (arith, laid.cells_fit);
      arrays_fit = omega (arith, laid.arrays_fit);
    }
