-- Lists of pairs in order.
use Rattle.std.proofs.Common.{◌≡◌, ℕ, zero, suc, ◌+◌, ◌<◌, ◌≤◌, Bool, true, false, ◌||◌, cond, List, [], ◌∷◌, ◌++◌, length, get_or, take, drop, if◌then◌else◌, refl, sym, ap, ◌∙◌, subst, true≢false, arith, nat_lt, inl, inr}
use Rattle.std.specs.List.{AllByRecursion, prefix_len}
use Rattle.std.specs.List.Sorted.{IsPartitionedBy}
use Rattle.std.proofs.lemmas.Bool.{cases_lt}
use Rattle.std.proofs.lemmas.Bool.Decides.{nat_tests}
use Rattle.alias_facts.specs.PairsOf.{Pair, same_pair, comes_before, contains, AreInOrder, inserted, all_inserted}
use Rattle.alias_facts.proofs.Orders.{same_itself, same_is, before_apart, behind_apart, before_trans, before_total}

abbrev AllAfter : Pair → List Pair → Type 0
AllAfter x xs = AllByRecursion (λ y. comes_before x y ≡ true) xs

after_trans : (p x : Pair) (xs : List Pair) → comes_before p x ≡ true → AllAfter x xs → AllAfter p xs
after_trans p x [] before all = tt
after_trans p x (y ∷ ys) before all = (before_trans p x y before all.0, after_trans p x ys before all.1)

-- A pair before all others is none of them.
absent : (p : Pair) (xs : List Pair) → AllAfter p xs → contains xs p ≡ false
absent p [] all = refl
absent p (y ∷ ys) all = ap (λ b. b || contains ys p) (before_apart p y all.0) ∙ absent p ys all.1

pub first_there : (x : Pair) (xs : List Pair) → contains (x ∷ xs) x ≡ true
first_there x xs = ap (λ b. b || contains xs x) (same_itself x)

or_swap : (a b c : Bool) → (a || (b || c)) ≡ (b || (a || c))
or_swap true true c = refl
or_swap true false c = refl
or_swap false b c = refl

or_again : (a b : Bool) → (a || b) ≡ (a || (a || b))
or_again true b = refl
or_again false b = refl

or_assoc : (a b c : Bool) → (a || (b || c)) ≡ ((a || b) || c)
or_assoc true b c = refl
or_assoc false b c = refl

-- ---- one pair more

contains_step : (p x q : Pair) (xs : List Pair) (before same : Bool) → same_pair p x ≡ same → contains (inserted p xs) q ≡ (same_pair q p || contains xs q)
    → contains (if before then x ∷ inserted p xs else (if same then x ∷ xs else p ∷ x ∷ xs)) q ≡ (same_pair q p || contains (x ∷ xs) q)
contains_step p x q xs true same is rest = ap (λ b. same_pair q x || b) rest ∙ or_swap (same_pair q x) (same_pair q p) (contains xs q)
contains_step p x q xs false true is rest =
    or_again (same_pair q x) (contains xs q) ∙ ap (λ y. same_pair q y || (same_pair q x || contains xs q)) (sym (same_is p x is))
contains_step p x q xs false false is rest = refl

pub contains-inserted : (p q : Pair) (xs : List Pair) → contains (inserted p xs) q ≡ (same_pair q p || contains xs q)
contains-inserted p q [] = refl
contains-inserted p q (x ∷ xs) = contains_step p x q xs (comes_before x p) (same_pair p x) refl (contains-inserted p q xs)

after_step : (x p y : Pair) (ys : List Pair) (before same : Bool) → comes_before x p ≡ true → AllAfter x (y ∷ ys) → AllAfter x (inserted p ys)
    → AllAfter x (if before then y ∷ inserted p ys else (if same then y ∷ ys else p ∷ y ∷ ys))
after_step x p y ys true same is all rest = (all.0, rest)
after_step x p y ys false true is all rest = all
after_step x p y ys false false is all rest = (is, all)

after_inserted : (x p : Pair) (xs : List Pair) → comes_before x p ≡ true → AllAfter x xs → AllAfter x (inserted p xs)
after_inserted x p [] is all = (is, tt)
after_inserted x p (y ∷ ys) is all = after_step x p y ys (comes_before y p) (same_pair p y) is all (after_inserted x p ys is all.1)

order_step : (p x : Pair) (xs : List Pair) (before same : Bool) → comes_before x p ≡ before → same_pair p x ≡ same → AreInOrder (x ∷ xs) → AreInOrder (inserted p xs)
    → AreInOrder (if before then x ∷ inserted p xs else (if same then x ∷ xs else p ∷ x ∷ xs))
order_step p x xs true same before_is same_is order rest = (after_inserted x p xs before_is order.0, rest)
order_step p x xs false true before_is same_is order rest = order
order_step p x xs false false before_is same_is order rest =
    let before : comes_before p x ≡ true = before_total x p before_is same_is in ((before, after_trans p x xs before order.0), order)

pub order-inserted : (p : Pair) (xs : List Pair) → AreInOrder xs → AreInOrder (inserted p xs)
order-inserted p [] order = (tt, tt)
order-inserted p (x ∷ xs) order = order_step p x xs (comes_before x p) (same_pair p x) refl refl order (order-inserted p xs order.1)

-- ---- many pairs more

pub contains-all_inserted : (ps xs : List Pair) (q : Pair) → contains (all_inserted ps xs) q ≡ (contains ps q || contains xs q)
contains-all_inserted [] xs q = refl
contains-all_inserted (p ∷ ps) xs q =
    contains-inserted p q (all_inserted ps xs) ∙ ap (λ b. same_pair q p || b) (contains-all_inserted ps xs q) ∙ or_assoc (same_pair q p) (contains ps q) (contains xs q)

pub order-all_inserted : (ps xs : List Pair) → AreInOrder xs → AreInOrder (all_inserted ps xs)
order-all_inserted [] xs order = order
order-all_inserted (p ∷ ps) xs order = order-inserted p (all_inserted ps xs) (order-all_inserted ps xs order)

-- ---- lists in order with the same pairs are equal

tail_has : (x q : Pair) (xs ys : List Pair) (same : Bool) → same_pair q x ≡ same → AllAfter x xs → AllAfter x ys
    → contains (x ∷ xs) q ≡ contains (x ∷ ys) q → contains xs q ≡ contains ys q
tail_has x q xs ys true is left right both =
    let same : q ≡ x = same_is q x is in
    ap (contains xs) same ∙ absent x xs left ∙ sym (absent x ys right) ∙ ap (contains ys) (sym same)
tail_has x q xs ys false is left right both = sym (ap (λ b. b || contains xs q) is) ∙ both ∙ ap (λ b. b || contains ys q) is

pub same_pairs : (xs ys : List Pair) → AreInOrder xs → AreInOrder ys → ((q : Pair) → contains xs q ≡ contains ys q) → xs ≡ ys
same_pairs [] [] left right both = refl
same_pairs [] (y ∷ ys) left right both = absurd (true≢false (sym (first_there y ys) ∙ sym (both y)))
same_pairs (x ∷ xs) [] left right both = absurd (true≢false (sym (first_there x xs) ∙ both x))
same_pairs (x ∷ xs) (y ∷ ys) left right both =
    elim (comes_before x y) as (λ b. comes_before x y ≡ b → (x ∷ xs) ≡ (y ∷ ys)) [
      | true ↦ λ before. absurd (true≢false (sym (first_there x xs) ∙ both x ∙ absent x (y ∷ ys) (before, after_trans x y ys before right.0)))
      | false ↦ λ not_before. elim (same_pair y x) as (λ b. same_pair y x ≡ b → (x ∷ xs) ≡ (y ∷ ys)) [
        | true ↦ λ same.
            let first : y ≡ x = same_is y x same in
            let after : AllAfter x ys = subst (λ z. AllAfter z ys) first right.0 in
            let rest : xs ≡ ys = same_pairs xs ys left.1 right.1
            (λ q. tail_has x q xs ys (same_pair q x) refl left.0 after (both q ∙ ap (λ z. contains (z ∷ ys) q) first)) in
            ap (λ l. x ∷ l) rest ∙ ap (λ z. z ∷ ys) (sym first)
        | false ↦ λ other.
            let before : comes_before y x ≡ true = before_total x y not_before other in
            absurd (true≢false (sym (first_there y ys) ∙ sym (both y) ∙ absent y (x ∷ xs) (before, after_trans y x xs before left.0)))
      ] refl
    ] refl

or_there : (a b : Bool) → (a ≡ true → b ≡ true) → (a || b) ≡ b
or_there true b there = sym (there refl)
or_there false b there = refl

-- A pair that is there changes nothing.
pub inserted_there : (p : Pair) (xs : List Pair) → AreInOrder xs → contains xs p ≡ true → inserted p xs ≡ xs
inserted_there p xs order there =
    same_pairs (inserted p xs) xs (order-inserted p xs order) order
    (λ q. contains-inserted p q xs ∙ or_there (same_pair q p) (contains xs q) (λ same. ap (contains xs) (same_is q p same) ∙ there))

-- ---- searching

one_more : (n : ℕ) → 1 + n ≡ suc n
one_more n = omega arith

abbrev place : Pair → List Pair → ℕ
place p xs = prefix_len (λ x. comes_before x p) xs

pub order_at : (xs : List Pair) (i j : ℕ) (d : Pair) → AreInOrder xs → i < j → j < length xs → comes_before (get_or xs i d) (get_or xs j d) ≡ true
order_at [] i j d order less within = absurd (omega arith)
order_at (x ∷ xs) zero zero d order less within = absurd (omega arith)
order_at (x ∷ xs) zero (suc j) d order less within = after_at x xs j d order.0 (omega (arith, within))
  where
    after_at : (x : Pair) (xs : List Pair) (j : ℕ) (d : Pair) → AllAfter x xs → j < length xs → comes_before x (get_or xs j d) ≡ true
    after_at x [] j d all within = absurd (omega arith)
    after_at x (y ∷ ys) zero d all within = all.0
    after_at x (y ∷ ys) (suc j) d all within = after_at x ys j d all.1 (omega (arith, within))
order_at (x ∷ xs) (suc i) zero d order less within = absurd (omega arith)
order_at (x ∷ xs) (suc i) (suc j) d order less within = order_at xs i j d order.1 (omega (arith, less)) (omega (arith, within))

-- The place of a pair is behind each one before it, and before each other.
pub place_is : (p : Pair) (xs : List Pair) (i : ℕ) (d : Pair) → i ≤ length xs → ((k : ℕ) → k < i → comes_before (get_or xs k d) p ≡ true)
    → (i < length xs → comes_before (get_or xs i d) p ≡ false) → i ≡ prefix_len (λ x. comes_before x p) xs
place_is p [] i d within before behind = omega (arith, within)
place_is p (x ∷ xs) zero d within before behind = ap (λ b. cond b (1 + place p xs) 0) (sym (behind (omega arith)))
place_is p (x ∷ xs) (suc i) d within before behind =
    let rest : i ≡ place p xs = place_is p xs i d (omega (arith, within)) (λ k less. before (suc k) (omega (arith, less))) (λ less. behind (omega (arith, less))) in
    sym (one_more i) ∙ ap (λ n. 1 + n) rest ∙ ap (λ b. cond b (1 + place p xs) 0) (sym (before 0 (omega arith)))

absent_behind : (p x : Pair) (xs : List Pair) → comes_before x p ≡ false → same_pair p x ≡ false → AllAfter x xs → contains xs p ≡ false
absent_behind p x xs not_before other all =
    let before : comes_before p x ≡ true = before_total x p not_before other in absent p xs (after_trans p x xs before all)

-- At the end of the list there is none.
pub none_at_end : (p : Pair) (xs : List Pair) → AreInOrder xs → length xs ≤ place p xs → contains xs p ≡ false
none_at_end p [] order end = refl
none_at_end p (x ∷ xs) order end =
    elim (comes_before x p) as (λ b. comes_before x p ≡ b → suc (length xs) ≤ cond b (1 + place p xs) 0 → contains (x ∷ xs) p ≡ false) [
      | true ↦ λ before more. ap (λ b. b || contains xs p) (behind_apart x p before) ∙ none_at_end p xs order.1 (omega (arith, more))
      | false ↦ λ _ more. absurd (omega (arith, more))
    ] refl end

-- Else it is the one at its place, if any.
pub found_at_place : (p : Pair) (xs : List Pair) (d : Pair) → AreInOrder xs → place p xs < length xs → contains xs p ≡ same_pair p (get_or xs (place p xs) d)
found_at_place p [] d order within = absurd (omega arith)
found_at_place p (x ∷ xs) d order within =
    elim (comes_before x p) as (λ b. comes_before x p ≡ b → cond b (1 + place p xs) 0 < suc (length xs) → contains (x ∷ xs) p ≡ same_pair p (get_or (x ∷ xs) (cond b (1 + place p xs) 0) d)) [
      | true ↦ λ before less.
          ap (λ b. b || contains xs p) (behind_apart x p before) ∙ found_at_place p xs d order.1 (omega (arith, less))
          ∙ ap (λ n. same_pair p (get_or (x ∷ xs) n d)) (sym (one_more (place p xs)))
      | false ↦ λ not_before less. here (same_pair p x) refl not_before
    ] refl within
  where
    here : (same : Bool) → same_pair p x ≡ same → comes_before x p ≡ false → contains (x ∷ xs) p ≡ same_pair p x
    here true is not_before = ap (λ b. b || contains xs p) is ∙ sym is
    here false is not_before = ap (λ b. b || contains xs p) is ∙ absent_behind p x xs not_before is order.0 ∙ sym is

-- A pair that is not there goes to its place.
pub inserted_at_place : (p : Pair) (xs : List Pair) → contains xs p ≡ false → take (place p xs) xs ++ (p ∷ drop (place p xs) xs) ≡ inserted p xs
inserted_at_place p [] none = refl
inserted_at_place p (x ∷ xs) none =
    elim (comes_before x p) as (λ b. take (cond b (1 + place p xs) 0) (x ∷ xs) ++ (p ∷ drop (cond b (1 + place p xs) 0) (x ∷ xs)) ≡ (if b then x ∷ inserted p xs else (if same_pair p x then x ∷ xs else p ∷ x ∷ xs))) [
      | true ↦ ap (λ n. take n (x ∷ xs) ++ (p ∷ drop n (x ∷ xs))) (one_more (place p xs)) ∙ ap (λ l. x ∷ l) (inserted_at_place p xs (right_false (same_pair p x) (contains xs p) none))
      | false ↦ ap (λ b. if b then x ∷ xs else p ∷ x ∷ xs) (sym (left_false (same_pair p x) (contains xs p) none))
    ]
  where
    left_false : (a b : Bool) → (a || b) ≡ false → a ≡ false
    left_false true b is = cc
    left_false false b is = refl

    right_false : (a b : Bool) → (a || b) ≡ false → b ≡ false
    right_false true b is = cc
    right_false false b is = is

pub partitioned : (p : Pair) (xs : List Pair) → AreInOrder xs → IsPartitionedBy (λ x. comes_before x p) xs
partitioned p xs order i j d upward within before =
    elim (cases_lt i j) [
      | inl less ↦ before_trans (get_or xs i d) (get_or xs j d) p (order_at xs i j d order less within) before
      | inr not_less ↦ let same : i ≡ j = omega (arith, upward, not_less) in ap (λ n. comes_before (get_or xs n d) p) same ∙ before
    ]

pub not_less : (m n : ℕ) → n ≤ m → nat_lt m n ≡ false
not_less m n above = grind (arith, nat_tests)
