-- Lists of numbers that rise.
use Rattle.std.proofs.Common.{◌≡◌, ℕ, ◌<◌, ◌≤◌, ◌==◌, Bool, true, false, ◌||◌, List, ◌∷◌, length, get_or, Result, Ok, Err, is_ok, MatchResult, refl, sym, ap, ◌∙◌, subst, arith, inl, inr}
use Rattle.std.specs.List.{list_any, insert}
use Rattle.std.specs.List.Sorted.{IsBinarySearchResult, IsNonDecreasing}
use Rattle.std.specs.Ordering.{nat_cmp}
use Rattle.std.proofs.lemmas.Bool.{cases_lt, eq-eqb, ne_eqb}
use Rattle.std.proofs.lemmas.Bool.Decides.{Decides-eqb}
use Rattle.std.proofs.lemmas.List.{get_or_default}
use Rattle.std.proofs.lemmas.List.Folds.{list_any_at, list_any_none}
use Rattle.std.proofs.lemmas.List.Sorted.{searched, list_any-IsPermutation, IsPermutation-insert, IsNonDecreasingBy-insert}

-- The number is not in the list.
abbrev IsNowhere : List ℕ → ℕ → Type 0
IsNowhere xs x = (k : ℕ) (d : ℕ) → k < length xs → get_or xs k d ≡ x → ⊥

-- Those below the place are less, and the others greater.
abbrev IsParted : List ℕ → ℕ → ℕ → Type 0
IsParted xs x i = (i ≤ length xs) × ((k : ℕ) → k < i → get_or xs k 0 < x) × ((k : ℕ) → i ≤ k → k < length xs → x < get_or xs k 0)

abbrev Finds : List ℕ → ℕ → Result ℕ ℕ → Type 0
Finds xs x r = MatchResult r (λ i. (i < length xs) × (get_or xs i 0 ≡ x)) (IsParted xs x)

nowhere : (xs : List ℕ) (x i : ℕ) → IsParted xs x i → IsNowhere xs x
nowhere xs x i (within, below, above) k d inside same =
    let here : get_or xs k 0 ≡ x = get_or_default xs k 0 d inside ∙ same in
    elim (cases_lt k i) [ inl h ↦ omega (arith, below k h, here) | inr h ↦ omega (arith, above k h inside, here) ]

among : (xs : List ℕ) (x : ℕ) (r : Result ℕ ℕ) → Finds xs x r → is_ok r ≡ list_any (λ n. n == x) xs
among xs x (Ok k) found = sym (list_any_at (λ n. n == x) xs k 0 found.0 (eq-eqb (get_or xs k 0) x found.1))
among xs x (Err i) parted =
    sym (list_any_none (λ n. n == x) xs (λ k d inside. ne_eqb (get_or xs k d) x (nowhere xs x i parted k d inside)))

finds : (xs : List ℕ) (x : ℕ) (r : Result ℕ ℕ) → IsBinarySearchResult (λ y. nat_cmp y x) xs r → IsNonDecreasing xs → Finds xs x r
finds xs x r search rise = searched xs x r search (λ i j le inside. rise i j 0 le inside)

pub found_among : (xs : List ℕ) (x : ℕ) (r : Result ℕ ℕ) → IsBinarySearchResult (λ y. nat_cmp y x) xs r → IsNonDecreasing xs
    → is_ok r ≡ list_any (λ n. n == x) xs
found_among xs x r search rise = among xs x r (finds xs x r search rise)

-- One that is not there goes to its place.
rises_at : (xs : List ℕ) (x i : ℕ) → IsParted xs x i → IsNonDecreasing xs → IsNonDecreasing (insert xs i x)
rises_at xs x i (within, below, above) rise =
    IsNonDecreasingBy-insert (λ n. n) xs i x rise within (λ k d less. under k d less) (λ k d from inside. over k d from inside)
  where
    under : (k d : ℕ) → k < i → get_or xs k d ≤ x
    under k d less = let inside : k < length xs = omega (arith, within, less) in omega (arith, below k less, get_or_default xs k 0 d inside)

    over : (k d : ℕ) → i ≤ k → k < length xs → x ≤ get_or xs k d
    over k d from inside = omega (arith, above k from inside, get_or_default xs k 0 d inside)

pub insert_rises : (xs : List ℕ) (x i : ℕ) (r : Result ℕ ℕ) → IsBinarySearchResult (λ y. nat_cmp y x) xs r → IsNonDecreasing xs → r ≡ Err i
    → IsNonDecreasing (insert xs i x)
insert_rises xs x i r search rise is = rises_at xs x i (subst (Finds xs x) is (finds xs x r search rise)) rise

pub insert_adds : (xs : List ℕ) (x i r : ℕ) → list_any (λ n. n == r) (insert xs i x) ≡ (x == r || list_any (λ n. n == r) xs)
insert_adds xs x i r = sym (list_any-IsPermutation (λ n. n == r) (x ∷ xs) (insert xs i x) (IsPermutation-insert xs i x))

-- One that is there adds nothing.
there_step : (x r : ℕ) (any : Bool) → (x ≡ r → any ≡ true) → any ≡ (x == r || any)
there_step x r any there = by (x == r) refl
  where
    by : (b : Bool) → (x == r) ≡ b → any ≡ (b || any)
    by true is = there ((Decides-eqb x r).0 is)
    by false is = refl

pub there_adds : (xs : List ℕ) (x i r : ℕ) (o : Result ℕ ℕ) → IsBinarySearchResult (λ y. nat_cmp y x) xs o → IsNonDecreasing xs → o ≡ Ok i
    → list_any (λ n. n == r) xs ≡ (x == r || list_any (λ n. n == r) xs)
there_adds xs x i r o search rise is =
    there_step x r (list_any (λ n. n == r) xs) (λ same. ap (λ z. list_any (λ n. n == z) xs) (sym same) ∙ sym (found_among xs x o search rise) ∙ ap is_ok is)
