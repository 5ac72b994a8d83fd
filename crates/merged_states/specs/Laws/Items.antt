-- What is known of the items of new references is so.
use Rattle.std.proofs.Common.{◌≡◌, ℕ, zero, suc, ◌+◌, ◌<◌, ◌≤◌, ℤ, pos, ◌≤ℤ◌, ◌<ℤ◌, Bool, true, false, List, [], ◌∷◌, length, map, get_or, slice_get, Option, Some, None, FitsSigned, w32, w64, refl, sym, ap, ◌∙◌, subst, arith}
use Rattle.std.specs.Prelude.{if◌then◌else◌}
use Rattle.std.specs.Option.{option_map_or}
use Rattle.std.specs.List as lists
use Rattle.std.specs.List.{AllByRecursion}
use Rattle.std.proofs.lemmas.Int.{ints}
use Rattle.array_contents.specs.Contents.{AreHeld, Contents}
use Rattle.array_contents.specs.Meaning.{AreIn}
use Rattle.array_contents.proofs.HeldLaws.{whole_held}
use Rattle.array_contents.proofs.MergeLaws.{held_cons, held_none}
use Rattle.array_segments.specs.Meaning.{item, worth}
use Rattle.cil_model.specs.Values.{FitItems, Heap, IsByte, IsHeap}
use Rattle.cil_model.specs.declared.machine.ArrayCell.{ArrayCell}
use Rattle.cil_model.specs.declared.place.Place.{Place}
use Rattle.cil_model.specs.declared.place.Place.TheVariants as places
use Rattle.domain_api.specs.declared.expr.Expr.{Expr}
use Rattle.interval_domain.specs.Interval.{Contains, Interval}
use Rattle.interval_domain.specs.Joins.{full}
use Rattle.symbolic_values.specs.Pairing.{origin}
use Rattle.symbolic_values.specs.declared.pairs.Key.{Key}
use Rattle.symbolic_values.proofs.Noting.{all_at}
use Rattle.state_facts.specs.Holds.{items_in, items_of_array, length_of_array}
use Rattle.merged_states.specs.Parts.{unknown_array}

-- ---- the items of arrays

cell_long : (cell : Option ArrayCell)
    → option_map_or (λ (c : ArrayCell). length c.items) cell 0
    ≡ length (option_map_or (λ (c : ArrayCell). c.items) cell [])
cell_long None = refl
cell_long (Some cell) = refl

-- An array has as many items as its length says.
pub items_long : (heap : Heap) (array : Option ℕ)
    → length_of_array heap array ≡ pos (length (items_of_array heap array))
items_long heap None = refl
items_long heap (Some i) = ap pos (cell_long (slice_get heap i))

byte_full : (n : ℤ) → IsByte n → Contains full n
byte_full n byte = record {
  fits = grind (arith, ints, byte.0, byte.1);
  above = omega (arith, ints, byte.0);
  below = omega (arith, ints, byte.1);
  no_hole = λ wrong. cc;
}

int_full : (n : ℤ) → FitsSigned w32 n → Contains full n
int_full n fits = record {
  fits = grind (arith, ints, fits);
  above = grind (arith, ints, fits);
  below = grind (arith, ints, fits);
  no_hole = λ wrong. cc;
}

bytes_full : (items : List ℤ) → AllByRecursion IsByte items → AllByRecursion (Contains full) items
bytes_full [] all = tt
bytes_full (n ∷ items) all = (byte_full n all.0, bytes_full items all.1)

ints_full : (items : List ℤ) → AllByRecursion (FitsSigned w32) items → AllByRecursion (Contains full) items
ints_full [] all = tt
ints_full (n ∷ items) all = (int_full n all.0, ints_full items all.1)

place_full : (place : Place) (items : List ℤ) → FitItems place items → AllByRecursion (Contains full) items
place_full places.Bools items fit = bytes_full items fit
place_full places.Ints items fit = ints_full items fit
place_full _ items fit = absurd fit

cell_full : (heap : Heap) (i : ℕ) → IsHeap heap → AllByRecursion (Contains full) (items_in heap i)
cell_full [] i arrays = tt
cell_full (cell ∷ heap) zero arrays = place_full cell.place cell.items arrays.0.0
cell_full (cell ∷ heap) (suc i) arrays = cell_full heap i arrays.1

-- The items of arrays of the machine are int32.
pub items_full : (heap : Heap) (array : Option ℕ) → IsHeap heap → AreIn full (items_of_array heap array)
items_full heap None arrays index below = absurd (omega (arith, below))
items_full heap (Some i) arrays index below =
    all_at (Contains full) (items_in heap i) index (pos 0) (cell_full heap i arrays) below

-- ---- nothing but lengths

-- Arrays of these lengths, whose items are int32.
pub unknown_held : (number : ℕ → ℤ) (items : ℕ → List ℤ) (lengths : List Expr) → number 0 ≡ pos 0
    → ((i : ℕ) (e : Expr) → slice_get lengths i ≡ Some e → worth number e ≡ pos (length (items (suc i))))
    → ((r : ℕ) → AreIn full (items r)) → AreHeld number items (map unknown_array lengths)
unknown_held number items [] start long all = held_none number items
unknown_held number items (e ∷ lengths) start long all =
    held_cons number items (unknown_array e) (map unknown_array lengths)
    (whole_held number (items 1) e full true start (long 0 e refl) (λ wrong. absurd cc) (all 1))
    (unknown_held number (λ r. items (suc r)) lengths start (λ i f is. long (suc i) f is) (λ r. all (suc r)))

-- What the new lengths are worth, each by its key.
pub each_worth : (number : ℕ → ℤ) (worths : Key → ℤ) (lengths : List Expr) (keys : List Key)
    → map (worth number) lengths ≡ map worths keys → (i : ℕ) (e : Expr) → slice_get lengths i ≡ Some e
    → worth number e ≡ worths (get_or keys i origin)
each_worth number worths [] keys same i e is = absurd cc
each_worth number worths (x ∷ lengths) [] same i e is = absurd cc
each_worth number worths (x ∷ lengths) (u ∷ keys) same zero e is =
    ap (worth number) (sym (same_some x e is))
    ∙ cons_head (worth number x) (worths u) (map (worth number) lengths) (map worths keys) same
  where
    same_some : (a b : Expr) → Some a ≡ Some b → a ≡ b
    same_some a b both = cc

    cons_head : (a b : ℤ) (xs ys : List ℤ) → a ∷ xs ≡ b ∷ ys → a ≡ b
    cons_head a b xs ys both = cc
each_worth number worths (x ∷ lengths) (u ∷ keys) same (suc i) e is =
    each_worth number worths lengths keys
    (cons_tail (worth number x) (worths u) (map (worth number) lengths) (map worths keys) same) i e is
  where
    cons_tail : (a b : ℤ) (xs ys : List ℤ) → a ∷ xs ≡ b ∷ ys → xs ≡ ys
    cons_tail a b xs ys both = cc
