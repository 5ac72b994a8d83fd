-- What is kept, pair by pair and by marks.
use Rattle.std.proofs.Common.{◌≡◌, ℕ, zero, suc, ◌-◌, ◌<◌, ◌≤◌, ◌==◌, nat_lt, nat_le, Bool, true, false, ◌&&◌, ◌||◌, List, [], ◌∷◌, ◌++◌, if◌then◌else◌, refl, sym, ap, ◌∙◌, true≢false, arith}
use Rattle.std.specs.List.{list_any, flat_map}
use Rattle.std.proofs.lemmas.Bool.Decides.{nat_tests}
use Rattle.std.proofs.lemmas.List.Folds.{list_any-append}
use Rattle.alias_facts.specs.PairsOf.{Pair, ordered, same_pair, comes_before, is_proper, contains, AreInOrder, AreProper, inserted, all_inserted, pairs_up_to, pairs_before, with_all_before, kept_pairs}
use Rattle.alias_facts.proofs.Orders.{same_is}
use Rattle.alias_facts.proofs.PairLists.{contains-inserted, contains-all_inserted, order-inserted, order-all_inserted, same_pairs}

up_to_step : (k higher l h : ℕ) → ((l == suc k && h == higher) || (h == higher && (nat_lt 0 l && nat_le l k))) ≡ (h == higher && (nat_lt 0 l && nat_le l (suc k)))
up_to_step k higher l h = grind (arith, nat_tests)

up_to_none : (higher l h : ℕ) → false ≡ (h == higher && (nat_lt 0 l && nat_le l 0))
up_to_none higher l h = grind (arith, nat_tests)

contains-pairs_up_to : (k higher : ℕ) (p : Pair) → contains (pairs_up_to k higher) p ≡ (p.1 == higher && (nat_lt 0 p.0 && nat_le p.0 k))
contains-pairs_up_to zero higher p = up_to_none higher p.0 p.1
contains-pairs_up_to (suc k) higher p =
    ap (λ b. same_pair p (suc k, higher) || b) (contains-pairs_up_to k higher p) ∙ up_to_step k higher p.0 p.1

before_step : (r l h : ℕ) → (h == r && (nat_lt 0 l && nat_le l (r - 1))) ≡ ((nat_lt 0 l && nat_lt l h) && r == h)
before_step r l h = grind (arith, nat_tests)

pub contains-pairs_before : (r : ℕ) (p : Pair) → contains (pairs_before r) p ≡ (is_proper p && r == p.1)
contains-pairs_before r p = contains-pairs_up_to (r - 1) r p ∙ before_step r p.0 p.1

-- The reference of these is marked.
abbrev pub is_among : ℕ → List ℕ → Bool
is_among r marks = list_any (λ mark. mark == r) marks

and_or : (a b c : Bool) → ((a && b) || (a && c)) ≡ (a && (b || c))
and_or true b c = refl
and_or false b c = refl

and_none : (a : Bool) → false ≡ (a && false)
and_none true = refl
and_none false = refl

contains-marked : (marks : List ℕ) (p : Pair) → contains (flat_map pairs_before marks) p ≡ (is_proper p && is_among p.1 marks)
contains-marked [] p = and_none (is_proper p)
contains-marked (r ∷ marks) p =
    list_any-append (same_pair p) (pairs_before r) (flat_map pairs_before marks)
    ∙ ap (λ b. b || contains (flat_map pairs_before marks) p) (contains-pairs_before r p)
    ∙ ap (λ b. (is_proper p && r == p.1) || b) (contains-marked marks p) ∙ and_or (is_proper p) (r == p.1) (is_among p.1 marks)

or_none : (b : Bool) → (b || false) ≡ b
or_none true = refl
or_none false = refl

-- A pair is kept where it is one of the pairs, or is proper and its higher reference is marked.
pub contains-kept_pairs : (pairs : List Pair) (marks : List ℕ) (p : Pair) → contains (kept_pairs pairs marks) p ≡ ((is_proper p && is_among p.1 marks) || contains pairs p)
contains-kept_pairs pairs marks p =
    contains-all_inserted (flat_map pairs_before marks) (all_inserted pairs []) p
    ∙ ap (λ b. b || contains (all_inserted pairs []) p) (contains-marked marks p)
    ∙ ap (λ b. (is_proper p && is_among p.1 marks) || b) (contains-all_inserted pairs [] p ∙ or_none (contains pairs p))

pub order-kept_pairs : (pairs : List Pair) (marks : List ℕ) → AreInOrder (kept_pairs pairs marks)
order-kept_pairs pairs marks = order-all_inserted (flat_map pairs_before marks) (all_inserted pairs []) (order-all_inserted pairs [] tt)

-- ---- asking

pub proper_there : (p : Pair) (pairs : List Pair) → AreProper pairs → contains pairs p ≡ true → is_proper p ≡ true
proper_there p [] proper there = absurd (true≢false (sym there))
proper_there p (x ∷ xs) proper there =
    elim (same_pair p x) as (λ b. same_pair p x ≡ b → (b || contains xs p) ≡ true → is_proper p ≡ true) [
      | true ↦ λ same _. ap is_proper (same_is p x same) ∙ proper.0
      | false ↦ λ _ rest. proper_there p xs proper.1 rest
    ] refl there

asked : (proper among here : Bool) → (here ≡ true → proper ≡ true) → (proper && (among || here)) ≡ ((proper && among) || here)
asked true among here is = refl
asked false among true is = is refl
asked false among false is = refl

pub is_apart_is : (pairs : List Pair) (marks : List ℕ) (p : Pair) → AreProper pairs
    → (is_proper p && (is_among p.1 marks || contains pairs p)) ≡ contains (kept_pairs pairs marks) p
is_apart_is pairs marks p proper =
    asked (is_proper p) (is_among p.1 marks) (contains pairs p) (proper_there p pairs proper) ∙ sym (contains-kept_pairs pairs marks p)

-- ---- keeping one more

or_swap : (a b c : Bool) → (a || (b || c)) ≡ (b || (a || c))
or_swap true true c = refl
or_swap true false c = refl
or_swap false b c = refl

pub kept_one_more : (pairs later : List Pair) (marks : List ℕ) (p : Pair) → ((q : Pair) → contains later q ≡ (same_pair q p || contains pairs q))
    → kept_pairs later marks ≡ inserted p (kept_pairs pairs marks)
kept_one_more pairs later marks p more =
    same_pairs (kept_pairs later marks) (inserted p (kept_pairs pairs marks)) (order-kept_pairs later marks)
    (order-inserted p (kept_pairs pairs marks) (order-kept_pairs pairs marks))
    (λ q. contains-kept_pairs later marks q ∙ ap (λ b. (is_proper q && is_among q.1 marks) || b) (more q)
    ∙ or_swap (is_proper q && is_among q.1 marks) (same_pair q p) (contains pairs q)
    ∙ ap (λ b. same_pair q p || b) (sym (contains-kept_pairs pairs marks q)) ∙ sym (contains-inserted p q (kept_pairs pairs marks)))

pub proper_inserted : (p : Pair) (pairs : List Pair) → is_proper p ≡ true → AreProper pairs → AreProper (inserted p pairs)
proper_inserted p [] is all = (is, tt)
proper_inserted p (x ∷ xs) is all = step (comes_before x p) (same_pair p x) (proper_inserted p xs is all.1)
  where
    step : (before same : Bool) → AreProper (inserted p xs) → AreProper (if before then x ∷ inserted p xs else (if same then x ∷ xs else p ∷ x ∷ xs))
    step true same rest = (all.0, rest)
    step false true rest = all
    step false false rest = (is, all)

-- ---- marking one more

marked_step : (proper first rest here : Bool) → ((proper && (first || rest)) || here) ≡ ((proper && first) || ((proper && rest) || here))
marked_step true true rest here = refl
marked_step true false rest here = refl
marked_step false first rest here = refl

pub kept_marked : (pairs : List Pair) (marks later : List ℕ) (r : ℕ) → ((q : ℕ) → is_among q later ≡ (r == q || is_among q marks))
    → kept_pairs pairs later ≡ with_all_before r (kept_pairs pairs marks)
kept_marked pairs marks later r marked =
    same_pairs (kept_pairs pairs later) (with_all_before r (kept_pairs pairs marks)) (order-kept_pairs pairs later)
    (order-all_inserted (pairs_before r) (kept_pairs pairs marks) (order-kept_pairs pairs marks))
    (λ q. contains-kept_pairs pairs later q ∙ ap (λ b. (is_proper q && b) || contains pairs q) (marked q.1)
    ∙ marked_step (is_proper q) (r == q.1) (is_among q.1 marks) (contains pairs q)
    ∙ ap (λ b. (is_proper q && r == q.1) || b) (sym (contains-kept_pairs pairs marks q))
    ∙ ap (λ b. b || contains (kept_pairs pairs marks) q) (sym (contains-pairs_before r q))
    ∙ sym (contains-all_inserted (pairs_before r) (kept_pairs pairs marks) q))

-- ---- as the code asks

pub apart_answer : (pairs : List Pair) (marks : List ℕ) (p : Pair) (proper among here : Bool) → AreProper pairs → proper ≡ is_proper p → among ≡ is_among p.1 marks
    → here ≡ contains pairs p → (proper && (among || here)) ≡ contains (kept_pairs pairs marks) p
apart_answer pairs marks p proper among here all proper_is among_is here_is =
    ap (λ b. b && (among || here)) proper_is ∙ ap (λ b. is_proper p && (b || here)) among_is ∙ ap (λ b. is_proper p && (is_among p.1 marks || b)) here_is
    ∙ is_apart_is pairs marks p all

-- Without marks the pairs are those that are kept.
pub contains-alone : (pairs : List Pair) (q : Pair) → contains (kept_pairs pairs []) q ≡ contains pairs q
contains-alone pairs q = contains-kept_pairs pairs [] q ∙ ap (λ b. b || contains pairs q) (sym (and_none (is_proper q)))

-- ---- what is kept is proper

differ : (a b : ℕ) → (nat_lt 0 a && nat_lt a b) ≡ true → a ≡ b → ⊥
differ a b proper same = grind (arith, nat_tests)

pub proper_itself : (r q : ℕ) → is_proper (ordered r q) ≡ true → r ≡ q → ⊥
proper_itself r q proper same = by (nat_lt q r) refl proper
  where
    by : (less : Bool) → nat_lt q r ≡ less → is_proper (if less then (q, r) else (r, q)) ≡ true → ⊥
    by true is proper = differ q r proper (sym same)
    by false is proper = differ r q proper same

step_proper : (k higher : ℕ) → suc k < higher → is_proper (suc k, higher) ≡ true
step_proper k higher less = grind (arith, nat_tests)

up_to_proper : (k higher : ℕ) → k ≤ higher - 1 → AreProper (pairs_up_to k higher)
up_to_proper zero higher within = tt
up_to_proper (suc k) higher within = (step_proper k higher (omega (arith, within)), up_to_proper k higher (omega (arith, within)))

all_proper : (ps xs : List Pair) → AreProper ps → AreProper xs → AreProper (all_inserted ps xs)
all_proper [] xs each rest = rest
all_proper (p ∷ ps) xs each rest = proper_inserted p (all_inserted ps xs) each.0 (all_proper ps xs each.1 rest)

both_proper : (xs ys : List Pair) → AreProper xs → AreProper ys → AreProper (xs ++ ys)
both_proper [] ys left right = right
both_proper (x ∷ xs) ys left right = (left.0, both_proper xs ys left.1 right)

marked_proper : (marks : List ℕ) → AreProper (flat_map pairs_before marks)
marked_proper [] = tt
marked_proper (r ∷ marks) = both_proper (pairs_before r) (flat_map pairs_before marks) (up_to_proper (r - 1) r (omega arith)) (marked_proper marks)

pub proper-kept_pairs : (pairs : List Pair) (marks : List ℕ) → AreProper pairs → AreProper (kept_pairs pairs marks)
proper-kept_pairs pairs marks proper =
    all_proper (flat_map pairs_before marks) (all_inserted pairs []) (marked_proper marks) (all_proper pairs [] proper tt)
