-- Pairs that are kept higher first.
use Rattle.std.proofs.Common.{◌≡◌, ℕ, ◌==◌, Bool, true, false, ◌&&◌, ◌||◌, List, [], ◌∷◌, map, if◌then◌else◌, ◌↔◌, IsTrue, refl, sym, ap, ◌∙◌}
use Rattle.std.specs.List.{list_all}
use Rattle.alias_facts.specs.PairsOf.{Pair, same_pair, comes_before, is_proper, contains, AreInOrder, AreProper, inserted, kept_pairs}
use Rattle.alias_facts.specs.KeptPairs.{turned, lower_first}
use Rattle.alias_facts.proofs.PairLists.{contains-inserted, first_there, same_pairs}
use Rattle.alias_facts.proofs.KeptLaws.{contains-alone, order-kept_pairs, proper_there}
use Rattle.alias_facts.proofs.RowLaws.{or_true}

and_swap : (a b : Bool) → (a && b) ≡ (b && a)
and_swap true true = refl
and_swap true false = refl
and_swap false true = refl
and_swap false false = refl

same_turned : (p x : Pair) → same_pair p (turned x) ≡ same_pair (turned p) x
same_turned p x = and_swap (p.0 == x.1) (p.1 == x.0)

both_turned : (p x : Pair) → same_pair (turned p) (turned x) ≡ same_pair p x
both_turned p x = and_swap (p.1 == x.1) (p.0 == x.0)

-- A pair is among these, lower first, where it is among them with its references exchanged.
pub contains-lower_first : (rows : List Pair) (p : Pair) → contains (lower_first rows) p ≡ contains rows (turned p)
contains-lower_first [] p = refl
contains-lower_first (x ∷ rows) p =
    ap (λ b. b || contains (lower_first rows) p) (same_turned p x) ∙ ap (λ b. same_pair (turned p) x || b) (contains-lower_first rows p)

pub contains-both_turned : (pairs : List Pair) (p : Pair) → contains (lower_first pairs) (turned p) ≡ contains pairs p
contains-both_turned [] p = refl
contains-both_turned (x ∷ pairs) p =
    ap (λ b. b || contains (lower_first pairs) (turned p)) (both_turned p x) ∙ ap (λ b. same_pair p x || b) (contains-both_turned pairs p)

pub all-lower_first : (p : Pair → Bool) (rows : List Pair) → list_all (λ row. p (turned row)) rows ≡ list_all p (lower_first rows)
all-lower_first p [] = refl
all-lower_first p (x ∷ rows) = ap (λ b. p (turned x) && b) (all-lower_first p rows)

-- ---- keeping one more

pub one_row_more : (rows : List Pair) (p q : Pair) → contains (lower_first (inserted (turned p) rows)) q ≡ (same_pair q p || contains (lower_first rows) q)
one_row_more rows p q =
    contains-lower_first (inserted (turned p) rows) q ∙ contains-inserted (turned p) (turned q) rows
    ∙ ap (λ b. b || contains rows (turned q)) (both_turned q p) ∙ ap (λ b. same_pair q p || b) (sym (contains-lower_first rows q))

pub proper_row_more : (p : Pair) (rows : List Pair) → is_proper p ≡ true → AreProper (lower_first rows) → AreProper (lower_first (inserted (turned p) rows))
proper_row_more p [] is all = (is, tt)
proper_row_more p (x ∷ rows) is all = step (comes_before x (turned p)) (same_pair (turned p) x) (proper_row_more p rows is all.1)
  where
    step : (before same : Bool) → AreProper (lower_first (inserted (turned p) rows))
        → AreProper (lower_first (if before then x ∷ inserted (turned p) rows else (if same then x ∷ rows else turned p ∷ x ∷ rows)))
    step true same rest = (all.0, rest)
    step false true rest = all
    step false false rest = (is, all)

-- ---- without marks

contains-rows_alone : (rows : List Pair) (q : Pair) → contains (kept_pairs (lower_first rows) []) (turned q) ≡ contains rows q
contains-rows_alone rows q = contains-alone (lower_first rows) (turned q) ∙ contains-both_turned rows q

-- The same pairs are kept where they are kept alike.
pub same_alone : (rows other : List Pair) (marks other_marks : List ℕ) (answer : Bool) → AreInOrder rows → AreInOrder other → marks ≡ [] → other_marks ≡ []
    → IsTrue answer ↔ (rows ≡ other) → IsTrue answer ↔ (kept_pairs (lower_first rows) marks ≡ kept_pairs (lower_first other) other_marks)
same_alone rows other marks other_marks answer order other_order none other_none told = (
  λ is. ap (λ l. kept_pairs (lower_first l) marks) (told.0 is) ∙ ap (kept_pairs (lower_first other)) (none ∙ sym other_none),
  λ same.
      let kept : kept_pairs (lower_first rows) [] ≡ kept_pairs (lower_first other) [] =
      ap (kept_pairs (lower_first rows)) (sym none) ∙ same ∙ ap (kept_pairs (lower_first other)) other_none in
      told.1 (same_pairs rows other order other_order
      (λ q. sym (contains-rows_alone rows q) ∙ ap (λ l. contains l (turned q)) kept ∙ contains-rows_alone other q)),
)

-- ---- rows of given pairs

-- Rows that have given pairs, exchanged, are these pairs.
pub rows_are : (pairs rows : List Pair) → AreInOrder pairs → ((q : Pair) → contains rows q ≡ contains (lower_first pairs) q) → kept_pairs (lower_first rows) [] ≡ pairs
rows_are pairs rows order members =
    same_pairs (kept_pairs (lower_first rows) []) pairs (order-kept_pairs (lower_first rows) []) order
    (λ q. contains-alone (lower_first rows) q ∙ contains-lower_first rows q ∙ members (turned q) ∙ contains-both_turned pairs q)

each_proper : (rows : List Pair) → ((q : Pair) → contains rows q ≡ true → is_proper (turned q) ≡ true) → AreProper (lower_first rows)
each_proper [] each = tt
each_proper (x ∷ rows) each = (
  each x (first_there x rows),
  each_proper rows (λ q there. each q (or_true (same_pair q x) (contains rows q) there)),
)

pub rows_proper : (pairs rows : List Pair) → AreProper pairs → ((q : Pair) → contains rows q ≡ contains (lower_first pairs) q) → AreProper (lower_first rows)
rows_proper pairs rows proper members =
    each_proper rows (λ q there. proper_there (turned q) pairs proper (sym (contains-lower_first pairs q) ∙ sym (members q) ∙ there))
