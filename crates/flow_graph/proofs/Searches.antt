-- What searches in lists that rise find.
use Rattle.std.proofs.Common.{◌≡◌, ℕ, zero, suc, ◌-◌, ◌<◌, ◌≤◌, ◌==◌, Bool, true, false, nat_le, nat_lt, List, [], ◌∷◌, length, get_or, drop, take, filter, Some, None, option_map, Result, Ok, Err, is_ok, MatchResult, Fits, w32, refl, sym, ap, ◌∙◌, arith, inl, inr}
use Rattle.std.specs.List.{AllWithin, list_any}
use Rattle.std.specs.List.Sorted.{IsBinarySearchResult, IsNonDecreasing, IsStrictlyIncreasing}
use Rattle.std.specs.Ordering.{nat_cmp}
use Rattle.std.specs.Result.{result_ok}
use Rattle.std.proofs.lemmas.Bool.{cases_lt, eq-eqb, ne_eqb}
use Rattle.std.proofs.lemmas.Bool.Decides.{nat_tests}
use Rattle.std.proofs.lemmas.List.{get_or_default, length-drop, length-take-le, take_all}
use Rattle.std.proofs.lemmas.List.Folds.{list_any_at, list_any_none}
use Rattle.std.proofs.lemmas.List.Kept.{AllPairs-from_increasing}
use Rattle.std.proofs.lemmas.List.Sorted.{searched}
use Rattle.std.proofs.lemmas.List.Sums.{count_by-le-length, length-filter}
use Rattle.cil_model.specs.declared.instruction.Instr.{Instr}
use Rattle.cil_model.proofs.ShortCodes.{Rises, not_falling}
use Rattle.flow_graph.specs.BlocksOf.{block_at, place_of, last_place}

-- ---- what a binary search says

-- The number is not in the list.
abbrev IsNowhere : List ℕ → ℕ → Type 0
IsNowhere xs x = (k : ℕ) (d : ℕ) → k < length xs → get_or xs k d ≡ x → ⊥

-- It is at the place, or those below the place are less, and the others greater.
abbrev IsParted : List ℕ → ℕ → ℕ → Type 0
IsParted xs x i = (i ≤ length xs) × ((k : ℕ) → k < i → get_or xs k 0 < x) × ((k : ℕ) → i ≤ k → k < length xs → x < get_or xs k 0)

abbrev Finds : List ℕ → ℕ → Result ℕ ℕ → Type 0
Finds xs x r = MatchResult r (λ i. (i < length xs) × (get_or xs i 0 ≡ x)) (IsParted xs x)

nowhere : (xs : List ℕ) (x i : ℕ) → IsParted xs x i → IsNowhere xs x
nowhere xs x i (within, below, above) k d inside same =
    let here : get_or xs k 0 ≡ x = get_or_default xs k 0 d inside ∙ same in
    elim (cases_lt k i) [ inl h ↦ omega (arith, below k h, here) | inr h ↦ omega (arith, above k h inside, here) ]

among : (xs : List ℕ) (x : ℕ) (r : Result ℕ ℕ) → Finds xs x r → is_ok r ≡ list_any (λ n. n == x) xs
among xs x (Ok k) found = sym (list_any_at (λ n. n == x) xs k 0 found.0 (eq-eqb (get_or xs k 0) x found.1))
among xs x (Err i) parted =
    sym (list_any_none (λ n. n == x) xs (λ k d inside. ne_eqb (get_or xs k d) x (nowhere xs x i parted k d inside)))

pub found_among : (xs : List ℕ) (x : ℕ) (r : Result ℕ ℕ) → IsBinarySearchResult (λ y. nat_cmp y x) xs r → IsNonDecreasing xs
    → is_ok r ≡ list_any (λ n. n == x) xs
found_among xs x r search rise = among xs x r (searched xs x r search (λ i j le inside. rise i j 0 le inside))

-- ---- the place of a number

place_there : (xs : List ℕ) (x k : ℕ) → Rises xs → k < length xs → get_or xs k 0 ≡ x → place_of xs x ≡ Some k
place_there [] x k rise inside is = absurd (omega arith)
place_there (y ∷ ys) x zero rise inside is = rw (eq-eqb y x is) refl
place_there (y ∷ ys) x (suc k) rise inside is =
    let below : y < get_or ys k 0 = rise zero (suc k) 0 (omega arith) inside in
    let later : Rises ys = λ i j d less within. rise (suc i) (suc j) d (omega arith) (omega arith) in
    rw (ne_eqb y x (λ e. omega (arith, below, is, e))) (ap (option_map suc) (place_there ys x k later (omega arith) is))

place_nowhere : (xs : List ℕ) (x : ℕ) → IsNowhere xs x → place_of xs x ≡ None
place_nowhere [] x none = refl
place_nowhere (y ∷ ys) x none =
    rw (ne_eqb y x (λ e. none zero y (omega arith) e)) (ap (option_map suc) (place_nowhere ys x (λ k d inside same. none (suc k) d (omega arith) same)))

placed : (xs : List ℕ) (x : ℕ) (r : Result ℕ ℕ) → Rises xs → Finds xs x r → result_ok r ≡ place_of xs x
placed xs x (Ok k) rise found = sym (place_there xs x k rise found.0 found.1)
placed xs x (Err i) rise parted = sym (place_nowhere xs x (nowhere xs x i parted))

pub found_place : (xs : List ℕ) (x : ℕ) (r : Result ℕ ℕ) → IsBinarySearchResult (λ y. nat_cmp y x) xs r → IsStrictlyIncreasing xs
    → result_ok r ≡ place_of xs x
found_place xs x r search increase =
    let rise = AllPairs-from_increasing xs increase in
    placed xs x r rise (searched xs x r search (λ i j le inside. not_falling xs rise i j 0 le inside))

-- A place is no greater than the number there.
place_below : (xs : List ℕ) (k : ℕ) → Rises xs → k < length xs → k ≤ get_or xs k 0
place_below xs zero rise inside = omega arith
place_below xs (suc k) rise inside = omega (arith, place_below xs k rise (omega arith), rise k (suc k) 0 (omega arith) inside)

-- A place in a list of numbers of 32 bits is one too.
pub place_fits : (xs : List ℕ) (k : ℕ) → IsStrictlyIncreasing xs → ((i : ℕ) → Fits w32 (get_or xs i 0)) → k < length xs → Fits w32 k
place_fits xs k increase small inside = omega (arith, place_below xs k (AllPairs-from_increasing xs increase) inside, small k)

-- ---- the block in which an offset lies

module _ (xs : List ℕ) (at starts : ℕ) (are : starts ≡ length (filter (λ start. nat_le start at) xs)) where
  pub block_place_fits : IsStrictlyIncreasing xs → ((i : ℕ) → Fits w32 (get_or xs i 0)) → (starts ≡ 0 → ⊥) → Fits w32 (starts - 1)
  block_place_fits increase small some =
      let p : ℕ → Bool = λ start. nat_le start at in
      let few : length (filter p xs) ≤ length xs = rw (length-filter p xs) (count_by-le-length p xs) in
      let one : 0 < starts = omega (arith, some) in
      place_fits xs (starts - 1) increase small (omega arith)

  pub block_is_none : starts ≡ 0 → None ≡ block_at xs at
  block_is_none none = ap last_place (sym none ∙ are)

  pub block_is_last : (starts ≡ 0 → ⊥) → Some (starts - 1) ≡ block_at xs at
  block_is_last some = last_of_some starts (omega (arith, some)) ∙ ap last_place are
    where
      last_of_some : (n : ℕ) → 0 < n → Some (n - 1) ≡ last_place n
      last_of_some zero none = absurd (omega arith)
      last_of_some (suc n) one = let e : suc n - 1 ≡ n = omega arith in ap Some e

pub ruleset block_places = (block_place_fits, block_is_none, block_is_last)

-- ---- the parts of a list before and after a place

module _ {X : Type 0} (P : X → Type 0) (x : X) (xs : List X) where
  -- What holds between two places holds between those before them in the rest of the list.
  tail : (low high : ℕ) → AllWithin P (x ∷ xs) (suc low) (suc high) → AllWithin P xs low high
  tail low high all i d above below = all (suc i) d (omega arith) (omega arith)

  tail_from_start : (high : ℕ) → AllWithin P (x ∷ xs) 0 (suc high) → AllWithin P xs 0 high
  tail_from_start high all i d above below = all (suc i) d (omega arith) (omega arith)

-- Nothing stands before the start.
none_within : {X : Type 0} (P : X → Type 0) (xs : List X) → AllWithin P xs 0 0
none_within P xs i d above below = absurd (omega arith)

module _ {X : Type 0} (p : X → Bool) where
  abbrev Passes : Bool → X → Type 0
  Passes b x = p x ≡ b

  -- What passes is a prefix.
  pub passing_prefix : (xs : List X) (k : ℕ) → k ≤ length xs → AllWithin (λ x. p x ≡ true) xs 0 k → AllWithin (λ x. p x ≡ false) xs k (length xs)
      → take k xs ≡ filter p xs
  passing_prefix [] zero le prefix behind = refl
  passing_prefix [] (suc k) le prefix behind = refl
  passing_prefix (x ∷ xs) zero le prefix behind =
      rw (behind zero x (omega arith) (omega arith))
      (passing_prefix xs zero (omega arith) (none_within (Passes true) xs) (tail_from_start (Passes false) x xs (length xs) behind))
  passing_prefix (x ∷ xs) (suc k) le prefix behind =
      rw (prefix zero x (omega arith) (omega arith))
      (ap (λ (ys : List X). x ∷ ys) (passing_prefix xs k (omega arith) (tail_from_start (Passes true) x xs k prefix) (tail (Passes false) x xs k (length xs) behind)))

  pub length-passing_prefix : (xs : List X) (k : ℕ) → k ≤ length xs → AllWithin (λ x. p x ≡ true) xs 0 k → AllWithin (λ x. p x ≡ false) xs k (length xs)
      → length (filter p xs) ≡ k
  length-passing_prefix xs k le prefix behind = ap length (sym (passing_prefix xs k le prefix behind)) ∙ length-take-le k xs le

  -- What passes is a rest.
  pub passing_rest : (xs : List X) (k : ℕ) → k ≤ length xs → AllWithin (λ x. p x ≡ false) xs 0 k → AllWithin (λ x. p x ≡ true) xs k (length xs)
      → filter p xs ≡ drop k xs
  passing_rest [] zero le prefix behind = refl
  passing_rest [] (suc k) le prefix behind = refl
  passing_rest (x ∷ xs) zero le prefix behind =
      rw (behind zero x (omega arith) (omega arith))
      (ap (λ (ys : List X). x ∷ ys) (passing_rest xs zero (omega arith) (none_within (Passes false) xs) (tail_from_start (Passes true) x xs (length xs) behind)))
  passing_rest (x ∷ xs) (suc k) le prefix behind =
      rw (prefix zero x (omega arith) (omega arith))
      (passing_rest xs k (omega arith) (tail_from_start (Passes false) x xs k prefix) (tail (Passes true) x xs k (length xs) behind))

-- What begins at an offset or after it is a rest.
pub rest_from : (is : List Instr) (at start : ℕ) → start ≤ length is → AllWithin (λ i. nat_lt i.at at ≡ true) is 0 start
    → AllWithin (λ i. nat_lt i.at at ≡ false) is start (length is)
    → take (length is - start) (drop start is) ≡ filter (λ i. nat_le at i.at) is
rest_from is at start le prefix behind =
    take_all (length is - start) (drop start is) (omega (arith, length-drop start is))
    ∙ sym (passing_rest (λ i. nat_le at i.at) is start le
    (λ k d low high. let h = prefix k d low high in grind (arith, nat_tests)) (λ k d low high. let h = behind k d low high in grind (arith, nat_tests)))
