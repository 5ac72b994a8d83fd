-- Lists with an item for each of so many numbers.
use Rattle.std.proofs.Common.{◌≡◌, ◌≢◌, ℕ, zero, suc, ◌+◌, ◌<◌, List, [], ◌∷◌, ◌++◌, length, get_or, map, Some, refl, sym, ap, ◌∙◌, arith, set, inl, inr, get_or-set_same, get_or-set_other}
use Rattle.std.specs.List.{range_with_len, reduce}
use Rattle.std.proofs.lemmas.Bool.{cases_eq}
use Rattle.std.proofs.lemmas.List.{length-set}
use Rattle.std.proofs.lemmas.List.FromFn.{fill_by_all, length-map-range_with_len, get_or-map-range_with_len}
use Rattle.std.proofs.lemmas.List.Sums.{fold-append}
use Rattle.widening_engine.specs.Merging.{joined}

range-more : (i n : ℕ) → range_with_len i (n + 1) ≡ range_with_len i n ++ (i + n) ∷ []
range-more i zero = let e : i + 0 ≡ i = omega arith in rw e refl
range-more i (suc n) =
    let longer : suc n + 1 ≡ suc (n + 1) = omega arith in
    let there : (i + 1) + n ≡ i + suc n = omega arith in
    rw longer (ap (λ (numbers : List ℕ). i ∷ numbers) (range-more (i + 1) n ∙ ap (λ (k : ℕ). range_with_len (i + 1) n ++ k ∷ []) there))

-- The numbers below one more.
pub range_one_more : (n : ℕ) → range_with_len 0 (n + 1) ≡ range_with_len 0 n ++ n ∷ []
range_one_more n = let e : 0 + n ≡ n = omega arith in range-more 0 n ∙ ap (λ (k : ℕ). range_with_len 0 n ++ k ∷ []) e

pub map_map : {A B C : Type 0} (g : B → C) (f : A → B) (xs : List A) → map g (map f xs) ≡ map (λ x. g (f x)) xs
map_map g f [] = refl
map_map g f (x ∷ xs) = ap (λ (rest : List _). g (f x) ∷ rest) (map_map g f xs)

module _ {X : Type 0} (f g : ℕ → X) (n : ℕ) where
  pub map_same : ((k : ℕ) → f k ≡ g k) → map f (range_with_len 0 n) ≡ map g (range_with_len 0 n)
  map_same same = λ i. map (λ k. same k i) (range_with_len 0 n)

  -- An item for each number changes at one of them alone.
  pub map_set : (i : ℕ) (new : X) → i < n → g i ≡ new → ((k : ℕ) → k ≢ i → g k ≡ f k)
      → set (map f (range_with_len 0 n)) i new ≡ map g (range_with_len 0 n)
  map_set i new below here others =
      fill_by_all g (set (map f (range_with_len 0 n)) i new) n new (length-set (map f (range_with_len 0 n)) i new ∙ length-map-range_with_len f 0 n) at
    where
      at : (k : ℕ) → k < n → get_or (set (map f (range_with_len 0 n)) i new) k new ≡ g k
      at k h = elim (cases_eq k i) [
        | inl e ↦
            let inside : i < length (map f (range_with_len 0 n)) = rw (length-map-range_with_len f 0 n) below in
            rw e (get_or-set_same (map f (range_with_len 0 n)) i new new inside ∙ sym here)
        | inr ne ↦
            let there : 0 + k ≡ k = omega arith in
            get_or-set_other (map f (range_with_len 0 n)) i k new new ne ∙ get_or-map-range_with_len f 0 n k k new h there ∙ sym (others k ne)
      ]

-- One more item joined from the left.
pub reduce_more : {X : Type 0} (f : X → X → X) (xs : List X) (x : X) → reduce f (xs ++ x ∷ []) ≡ Some (joined f (reduce f xs) x)
reduce_more f [] x = refl
reduce_more f (y ∷ ys) x = ap Some (fold-append f y ys (x ∷ []))
