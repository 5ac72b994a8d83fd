-- The form in which pairs are kept.
use Rattle.std.specs.Prelude.{◌≡◌, ℕ, List, map}
use Rattle.std.specs.List.Sorted.{IsNonDecreasing}
use Rattle.alias_facts.specs.PairsOf.{Pair, AreInOrder, AreProper, contains}

-- A pair with its references exchanged.
abbrev pub turned : Pair → Pair
turned p = (p.1, p.0)

-- Pairs that are kept higher first, lower first.
abbrev pub lower_first : List Pair → List Pair
lower_first rows = map turned rows

-- The pairs that are kept one by one are kept higher first, so that those of a new reference come last. They are in
-- order and proper, and the marks rise.
pub record AreKept (rows : List Pair) (marks : List ℕ) : Type 0 where
  pub in_order : AreInOrder rows
  pub proper : AreProper (lower_first rows)
  pub rising : IsNonDecreasing marks

-- The second list has the pairs of the first, in order and each once.
pub record IsOrdered (pairs all : List Pair) : Type 0 where
  pub in_order : AreInOrder all
  pub members : (q : Pair) → contains all q ≡ contains pairs q
