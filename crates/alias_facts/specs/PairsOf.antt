-- Pairs of references that are not the same array.
use Rattle.std.specs.Prelude.{◌≡◌, ℕ, zero, suc, ◌-◌, nat_lt, ◌==◌, Bool, true, ◌&&◌, ◌||◌, List, [], ◌∷◌, if◌then◌else◌}
use Rattle.std.specs.List.{AllByRecursion, list_any, flat_map}

-- Two references.
abbrev pub Pair : Type 0
Pair = ℕ × ℕ

abbrev pub same_pair : Pair → Pair → Bool
same_pair a b = a.0 == b.0 && a.1 == b.1

-- The order of pairs: by the first reference, then by the second.
abbrev pub comes_before : Pair → Pair → Bool
comes_before a b = nat_lt a.0 b.0 || (a.0 == b.0 && nat_lt a.1 b.1)

-- The two references, lower first.
abbrev pub ordered : ℕ → ℕ → Pair
ordered r q = if nat_lt q r then (q, r) else (r, q)

-- Two references other than 0, lower first. A reference and itself are none.
abbrev pub is_proper : Pair → Bool
is_proper p = nat_lt 0 p.0 && nat_lt p.0 p.1

-- ---- lists of pairs

-- The pair is one of these.
abbrev pub contains : List Pair → Pair → Bool
contains pairs p = list_any (same_pair p) pairs

-- The first list has each pair that the second has.
abbrev pub Covers : List Pair → List Pair → Type 0
Covers xs ys = (p : Pair) → contains ys p ≡ true → contains xs p ≡ true

-- The pairs are in order, each once.
abbrev pub AreInOrder : List Pair → Type 0
AreInOrder [] = Unit {0}
AreInOrder (x ∷ xs) = AllByRecursion (λ y. comes_before x y ≡ true) xs × AreInOrder xs

abbrev pub AreProper : List Pair → Type 0
AreProper pairs = AllByRecursion (λ p. is_proper p ≡ true) pairs

-- The pairs with one more in its place, unless it is there.
abbrev pub inserted : Pair → List Pair → List Pair
inserted p [] = p ∷ []
inserted p (x ∷ xs) = if comes_before x p then x ∷ inserted p xs else (if same_pair p x then x ∷ xs else p ∷ x ∷ xs)

abbrev pub all_inserted : List Pair → List Pair → List Pair
all_inserted [] pairs = pairs
all_inserted (p ∷ ps) pairs = inserted p (all_inserted ps pairs)

-- The pairs with one more, where it is proper.
abbrev pub with_pair : Pair → List Pair → List Pair
with_pair p pairs = if is_proper p then inserted p pairs else pairs

-- Each reference from 1 up to a number, with a higher one.
abbrev pub pairs_up_to : ℕ → ℕ → List Pair
pairs_up_to zero higher = []
pairs_up_to (suc lower) higher = (suc lower, higher) ∷ pairs_up_to lower higher

-- A reference with each one before it.
abbrev pub pairs_before : ℕ → List Pair
pairs_before r = pairs_up_to (r - 1) r

-- The pairs with a reference made apart from each one before it.
abbrev pub with_all_before : ℕ → List Pair → List Pair
with_all_before r pairs = all_inserted (pairs_before r) pairs

-- The pairs that are kept one by one, and those of each reference that is marked as apart from all before it.
abbrev pub kept_pairs : List Pair → List ℕ → List Pair
kept_pairs pairs marks = all_inserted (flat_map pairs_before marks) (all_inserted pairs [])
