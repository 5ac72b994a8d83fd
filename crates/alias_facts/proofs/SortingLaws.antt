-- Pairs that are listed one behind another, and put in order.
use Rattle.std.proofs.Common.{◌≡◌, ℕ, zero, suc, ◌+◌, ◌-◌, ◌<◌, ◌≤◌, Bool, true, false, ◌||◌, List, [], ◌∷◌, ◌++◌, length, get_or, take, refl, sym, ap, ◌∙◌, arith}
use Rattle.std.specs.List.{flat_map}
use Rattle.std.specs.Prelude.{IsPermutation}
use Rattle.std.proofs.lemmas.List.{take_more, take_all}
use Rattle.std.proofs.lemmas.List.Folds.{list_any-append}
use Rattle.std.proofs.lemmas.List.Sorted.{list_any-IsPermutation}
use Rattle.alias_facts.specs.PairsOf.{Pair, same_pair, contains, AreInOrder, inserted, pairs_up_to, pairs_before, kept_pairs}
use Rattle.alias_facts.specs.KeptPairs.{IsOrdered}
use Rattle.alias_facts.proofs.PairLists.{contains-inserted, order-inserted, same_pairs}
use Rattle.alias_facts.proofs.KeptLaws.{order-kept_pairs}
use Rattle.alias_facts.proofs.RowLaws.{contains-rows}

-- ---- each once

-- The pairs up to an index, in order and each once.
pub record OrderedUpTo (pairs all : List Pair) (i : ℕ) : Type 0 where
  pub in_order : AreInOrder all
  pub members : (q : Pair) → contains all q ≡ contains (take i pairs) q

or_last : (a b : Bool) → (a || b) ≡ (b || (a || false))
or_last true true = refl
or_last true false = refl
or_last false true = refl
or_last false false = refl

pub ordered_more : (pairs all later : List Pair) (i : ℕ) (d : Pair) → i < length pairs → OrderedUpTo pairs all i → AreInOrder later
    → later ≡ inserted (get_or pairs i d) all → OrderedUpTo pairs later (i + 1)
ordered_more pairs all later i d inside so_far order is =
    let p : Pair = get_or pairs i d in
    record {
      in_order = order;
      members = λ q.
          ap (λ l. contains l q) is ∙ contains-inserted p q all ∙ ap (λ b. same_pair q p || b) (so_far.members q)
          ∙ or_last (same_pair q p) (contains (take i pairs) q) ∙ sym (list_any-append (same_pair q) (take i pairs) (p ∷ []))
          ∙ ap (λ l. contains l q) (sym (take_more pairs i d inside));
    }

pub ordered_end : (pairs all : List Pair) (i : ℕ) → length pairs ≤ i → OrderedUpTo pairs all i → IsOrdered pairs all
ordered_end pairs all i past so_far = record { in_order = so_far.in_order; members = λ q. so_far.members q ∙ ap (λ l. contains l q) (take_all i pairs past) }

-- ---- one row behind the others

or_first : (a b c : Bool) → ((a || b) || (c || false)) ≡ ((c || a) || b)
or_first true b true = refl
or_first true b false = refl
or_first false true true = refl
or_first false true false = refl
or_first false false true = refl
or_first false false false = refl

pub pushed_more : (lower higher : ℕ) (old pairs later : List Pair) → 0 < lower → later ≡ pairs ++ (lower, higher) ∷ []
    → ((q : Pair) → contains pairs q ≡ (contains (pairs_up_to (lower - 1) higher) q || contains old q))
    → (q : Pair) → contains later q ≡ (contains (pairs_up_to ((lower + 1) - 1) higher) q || contains old q)
pushed_more zero higher old pairs later positive is so_far q = absurd (omega arith)
pushed_more (suc lower) higher old pairs later positive is so_far q =
    ap (λ l. contains l q) is ∙ list_any-append (same_pair q) pairs ((suc lower, higher) ∷ [])
    ∙ ap (λ b. b || (same_pair q (suc lower, higher) || false)) (so_far q)
    ∙ ap (λ n. (contains (pairs_up_to n higher) q || contains old q) || (same_pair q (suc lower, higher) || false)) (less lower)
    ∙ or_first (contains (pairs_up_to lower higher) q) (contains old q) (same_pair q (suc lower, higher))
    ∙ ap (λ n. contains (pairs_up_to n higher) q || contains old q) (sym (more lower))
  where
    less : (n : ℕ) → suc n - 1 ≡ n
    less n = omega arith

    more : (n : ℕ) → (suc n + 1) - 1 ≡ suc n
    more n = omega arith

-- ---- rows, one behind another

or_swap : (a b c : Bool) → (a || (b || c)) ≡ ((b || (a || false)) || c)
or_swap true true c = refl
or_swap true false c = refl
or_swap false true c = refl
or_swap false false c = refl

flat_push : (xs : List ℕ) (r : ℕ) (q : Pair) → contains (flat_map pairs_before (xs ++ r ∷ [])) q ≡ (contains (flat_map pairs_before xs) q || (contains (pairs_before r) q || false))
flat_push [] r q = list_any-append (same_pair q) (pairs_before r) []
flat_push (x ∷ xs) r q =
    list_any-append (same_pair q) (pairs_before x) (flat_map pairs_before (xs ++ r ∷ []))
    ∙ ap (λ b. contains (pairs_before x) q || b) (flat_push xs r q)
    ∙ or_assoc (contains (pairs_before x) q) (contains (flat_map pairs_before xs) q) (contains (pairs_before r) q || false)
    ∙ ap (λ b. b || (contains (pairs_before r) q || false)) (sym (list_any-append (same_pair q) (pairs_before x) (flat_map pairs_before xs)))
  where
    or_assoc : (a b c : Bool) → (a || (b || c)) ≡ ((a || b) || c)
    or_assoc true b c = refl
    or_assoc false b c = refl

-- The pairs have those that there were, and the rows of the references up to an index.
abbrev pub RowsSoFar : List Pair → List Pair → List ℕ → ℕ → Type 0
RowsSoFar old pairs references i = (q : Pair) → contains pairs q ≡ (contains (flat_map pairs_before (take i references)) q || contains old q)

pub rows_more : (old pairs later : List Pair) (references : List ℕ) (i : ℕ) (d : ℕ) → i < length references
    → RowsSoFar old pairs references i → ((q : Pair) → contains later q ≡ (contains (pairs_before (get_or references i d)) q || contains pairs q))
    → RowsSoFar old later references (i + 1)
rows_more old pairs later references i d inside so_far more q =
    let r : ℕ = get_or references i d in
    more q ∙ ap (λ b. contains (pairs_before r) q || b) (so_far q)
    ∙ or_swap (contains (pairs_before r) q) (contains (flat_map pairs_before (take i references)) q) (contains old q)
    ∙ ap (λ b. b || contains old q) (sym (flat_push (take i references) r q))
    ∙ ap (λ l. contains (flat_map pairs_before l) q || contains old q) (sym (take_more references i d inside))

pub rows_end : (old pairs : List Pair) (references : List ℕ) (i : ℕ) → length references ≤ i → RowsSoFar old pairs references i
    → (q : Pair) → contains pairs q ≡ (contains (flat_map pairs_before references) q || contains old q)
rows_end old pairs references i all so_far q =
    so_far q ∙ ap (λ l. contains (flat_map pairs_before l) q || contains old q) (take_all i references all)

-- ---- all of them

or_none : (b : Bool) → b ≡ (b || false)
or_none true = refl
or_none false = refl

pub kept_in_order : (pairs collected all : List Pair) (marks : List ℕ) → ((q : Pair) → contains collected q ≡ (contains (flat_map pairs_before marks) q || contains pairs q))
    → IsOrdered collected all → all ≡ kept_pairs pairs marks
kept_in_order pairs collected all marks each ordered =
    same_pairs all (kept_pairs pairs marks) ordered.in_order (order-kept_pairs pairs marks)
    (λ q. ordered.members q ∙ each q ∙ ap (λ b. contains (flat_map pairs_before marks) q || b) (or_none (contains pairs q)) ∙ sym (contains-rows pairs marks q))

pub permuted : (xs ys : List Pair) → IsPermutation xs ys → (q : Pair) → contains ys q ≡ contains xs q
permuted xs ys permutation q = sym (list_any-IsPermutation (same_pair q) xs ys permutation)
