-- Rows: references with each one before them.
use Rattle.std.proofs.Common.{◌≡◌, ℕ, zero, suc, ◌+◌, ◌-◌, ◌<◌, ◌≤◌, ◌==◌, Bool, true, false, ◌&&◌, ◌||◌, List, [], ◌∷◌, refl, sym, ap, ◌∙◌, true≢false, arith, inl, inr}
use Rattle.std.specs.List.{list_all, flat_map}
use Rattle.std.proofs.lemmas.Bool.{cases_lt}
use Rattle.std.proofs.lemmas.Bool.Decides.{Decides-eqb}
use Rattle.std.proofs.lemmas.List.Folds.{list_all-append}
use Rattle.alias_facts.specs.PairsOf.{Pair, same_pair, is_proper, contains, AreInOrder, all_inserted, pairs_up_to, pairs_before, kept_pairs, Covers}
use Rattle.alias_facts.proofs.Orders.{same_is, same_itself}
use Rattle.alias_facts.proofs.PairLists.{contains-all_inserted, same_pairs}
use Rattle.alias_facts.proofs.KeptLaws.{contains-pairs_before, contains-kept_pairs, is_among}

-- ---- comparing

each_step : (xs ys : List Pair) (y q : Pair) (here same : Bool) → contains xs y ≡ here → same_pair q y ≡ same
    → (list_all (contains xs) ys ≡ true → contains ys q ≡ true → contains xs q ≡ true)
    → (here && list_all (contains xs) ys) ≡ true → (same || contains ys q) ≡ true → contains xs q ≡ true
each_step xs ys y q true true here_is same_value rest all there = ap (contains xs) (same_is q y same_value) ∙ here_is
each_step xs ys y q true false here_is same_value rest all there = rest all there
each_step xs ys y q false same here_is same_value rest all there = absurd (true≢false (sym all))

has_each : (xs ys : List Pair) → list_all (contains xs) ys ≡ true → (q : Pair) → contains ys q ≡ true → contains xs q ≡ true
has_each xs [] all q there = absurd (true≢false (sym there))
has_each xs (y ∷ ys) all q there =
    each_step xs ys y q (contains xs y) (same_pair q y) refl refl (λ rest in_rest. has_each xs ys rest q in_rest) all there

pub or_true : (a b : Bool) → b ≡ true → (a || b) ≡ true
or_true true b is = refl
or_true false b is = is

each_has : (xs ys : List Pair) → ((q : Pair) → contains ys q ≡ true → contains xs q ≡ true) → list_all (contains xs) ys ≡ true
each_has xs [] each = refl
each_has xs (y ∷ ys) each =
    ap (λ b. b && list_all (contains xs) ys) (each y (ap (λ b. b || contains ys y) (same_itself y)))
    ∙ each_has xs ys (λ q there. each q (or_true (same_pair q y) (contains ys q) there))

all_rows : (xs : List Pair) (marks : List ℕ) → list_all (λ r. list_all (contains xs) (pairs_before r)) marks ≡ list_all (contains xs) (flat_map pairs_before marks)
all_rows xs [] = refl
all_rows xs (r ∷ marks) =
    ap (λ b. list_all (contains xs) (pairs_before r) && b) (all_rows xs marks) ∙ sym (list_all-append (contains xs) (pairs_before r) (flat_map pairs_before marks))

pub contains-rows : (pairs : List Pair) (marks : List ℕ) (q : Pair) → contains (kept_pairs pairs marks) q ≡ (contains (flat_map pairs_before marks) q || (contains pairs q || false))
contains-rows pairs marks q =
    contains-all_inserted (flat_map pairs_before marks) (all_inserted pairs []) q
    ∙ ap (λ b. contains (flat_map pairs_before marks) q || b) (contains-all_inserted pairs [] q)

one_of : (a b : Bool) (P : Type 0) → (a ≡ true → P) → (b ≡ true → P) → (a || (b || false)) ≡ true → P
one_of true b P first second is = first refl
one_of false true P first second is = second refl
one_of false false P first second is = absurd (true≢false (sym is))

pub covers_from : (xs pairs : List Pair) (marks : List ℕ) → list_all (contains xs) pairs ≡ true
    → list_all (λ r. list_all (contains xs) (pairs_before r)) marks ≡ true → Covers xs (kept_pairs pairs marks)
covers_from xs pairs marks all rows q there =
    one_of (contains (flat_map pairs_before marks) q) (contains pairs q) (contains xs q ≡ true)
    (has_each xs (flat_map pairs_before marks) (sym (all_rows xs marks) ∙ rows) q) (has_each xs pairs all q)
    (sym (contains-rows pairs marks q) ∙ there)

pub covers_pairs : (xs pairs : List Pair) (marks : List ℕ) → Covers xs (kept_pairs pairs marks) → list_all (contains xs) pairs ≡ true
covers_pairs xs pairs marks covers =
    each_has xs pairs (λ q there. covers q (contains-rows pairs marks q ∙ or_true (contains (flat_map pairs_before marks) q) (contains pairs q || false) (ap (λ b. b || false) there)))

pub covers_rows : (xs pairs : List Pair) (marks : List ℕ) → Covers xs (kept_pairs pairs marks)
    → list_all (λ r. list_all (contains xs) (pairs_before r)) marks ≡ true
covers_rows xs pairs marks covers =
    all_rows xs marks ∙ each_has xs (flat_map pairs_before marks)
    (λ q there. covers q (contains-rows pairs marks q ∙ ap (λ b. b || (contains pairs q || false)) there))

by_true : (a b : Bool) → (b ≡ true → a ≡ true) → (a ≡ true → b ≡ true) → a ≡ b
by_true true true from to = refl
by_true true false from to = sym (to refl)
by_true false true from to = from refl
by_true false false from to = refl

-- Lists in order that cover each other are equal.
pub covers_same : (xs ys : List Pair) → AreInOrder xs → AreInOrder ys → Covers xs ys → Covers ys xs → xs ≡ ys
covers_same xs ys left right down up = same_pairs xs ys left right (λ q. by_true (contains xs q) (contains ys q) (down q) (up q))

pub same_covers : (xs ys : List Pair) → xs ≡ ys → Covers xs ys
same_covers xs ys same q there = ap (λ l. contains l q) same ∙ there

-- ---- one row, pair by pair

pub row_has_more : (xs : List Pair) (lower higher : ℕ) → 0 < lower → contains xs (lower, higher) ≡ true
    → list_all (contains xs) (pairs_up_to (lower - 1) higher) ≡ true → list_all (contains xs) (pairs_up_to ((lower + 1) - 1) higher) ≡ true
row_has_more xs zero higher positive here so_far = absurd (omega arith)
row_has_more xs (suc lower) higher positive here so_far =
    ap (λ n. list_all (contains xs) (pairs_up_to n higher)) (more lower) ∙ ap (λ b. b && list_all (contains xs) (pairs_up_to lower higher)) here
    ∙ ap (λ n. list_all (contains xs) (pairs_up_to n higher)) (sym (less lower)) ∙ so_far
  where
    less : (n : ℕ) → suc n - 1 ≡ n
    less n = omega arith

    more : (n : ℕ) → (suc n + 1) - 1 ≡ suc n
    more n = omega arith

-- One that is not there makes the row false.
pub row_lacks : (xs : List Pair) (count lower higher : ℕ) → 0 < lower → lower ≤ count → contains xs (lower, higher) ≡ false
    → list_all (contains xs) (pairs_up_to count higher) ≡ false
row_lacks xs zero lower higher positive within lacks = absurd (omega arith)
row_lacks xs (suc count) lower higher positive within lacks =
    elim (cases_lt lower (suc count)) [
      | inl less ↦ and_false (contains xs (suc count, higher)) (list_all (contains xs) (pairs_up_to count higher)) (row_lacks xs count lower higher positive (omega (arith, less)) lacks)
      | inr not_less ↦
          let same : suc count ≡ lower = omega (arith, within, not_less) in
          ap (λ n. contains xs (n, higher) && list_all (contains xs) (pairs_up_to count higher)) same ∙ ap (λ b. b && list_all (contains xs) (pairs_up_to count higher)) lacks
    ]
  where
    and_false : (a b : Bool) → b ≡ false → (a && b) ≡ false
    and_false true b is = is
    and_false false b is = refl

-- A marked reference has its whole row.
pub row_marked : (pairs : List Pair) (marks : List ℕ) (r : ℕ) → is_among r marks ≡ true → list_all (contains (kept_pairs pairs marks)) (pairs_before r) ≡ true
row_marked pairs marks r marked =
    each_has (kept_pairs pairs marks) (pairs_before r)
    (λ q there. let row = and_parts (is_proper q) (r == q.1) (sym (contains-pairs_before r q) ∙ there) in
    contains-kept_pairs pairs marks q
    ∙ ap (λ b. (b && is_among q.1 marks) || contains pairs q) row.0
    ∙ ap (λ b. b || contains pairs q) (ap (λ n. is_among n marks) (sym ((Decides-eqb r q.1).0 row.1)) ∙ marked))
  where
    and_parts : (a b : Bool) → (a && b) ≡ true → (a ≡ true) × (b ≡ true)
    and_parts true true is = (refl, refl)
    and_parts true false is = cc
    and_parts false b is = cc
