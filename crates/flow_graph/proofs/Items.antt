-- What holds of each item of a list, and what stands at a place of it.
use Rattle.std.proofs.Common.{◌≡◌, ℕ, zero, suc, Bool, true, List, [], ◌∷◌, ◌++◌, length, filter, slice_get, Some, refl, subst}
use Rattle.std.specs.List.{AllByRecursion, list_any}
use Rattle.std.proofs.lemmas.Bool.{or_right}
use Rattle.std.proofs.lemmas.List.Elements.{All-from_recursion, filter_passes, recursion_from_All}
use Rattle.std.proofs.lemmas.Option.{get_or_from_slice_get, none-some, slice_get_within}

module _ {X : Type 0} where
  pub all_weaker : (P Q : X → Type 0) → ((x : X) → P x → Q x) → (xs : List X) → AllByRecursion P xs → AllByRecursion Q xs
  all_weaker P Q weaker [] all = tt
  all_weaker P Q weaker (x ∷ xs) all = (weaker x all.0, all_weaker P Q weaker xs all.1)

  pub both : (P Q : X → Type 0) (xs : List X) → AllByRecursion P xs → AllByRecursion Q xs → AllByRecursion (λ x. P x × Q x) xs
  both P Q [] first second = tt
  both P Q (x ∷ xs) first second = ((first.0, second.0), both P Q xs first.1 second.1)

  pub passing_all : (p : X → Bool) (xs : List X) → AllByRecursion (λ x. p x ≡ true) (filter p xs)
  passing_all p xs = recursion_from_All (λ x. p x ≡ true) (filter p xs) (filter_passes p xs)

  -- Each item passes among all what it passes.
  pub each_passes : (xs : List X) → AllByRecursion (λ x. (q : X → Bool) → q x ≡ true → list_any q xs ≡ true) xs
  each_passes [] = tt
  each_passes (x ∷ xs) = (λ q e. rw e refl, all_weaker _ _ (λ y h q e. or_right (q x) (list_any q xs) (h q e)) xs (each_passes xs))

  -- ---- places

  pub of_place : (P : X → Type 0) (xs : List X) (n : ℕ) (x : X) → AllByRecursion P xs → slice_get xs n ≡ Some x → P x
  of_place P xs n x all there = subst P (get_or_from_slice_get xs n x x there) (All-from_recursion P xs all n x (slice_get_within xs n x there))

  pub in_prefix : (xs ys : List X) (n : ℕ) (x : X) → slice_get xs n ≡ Some x → slice_get (xs ++ ys) n ≡ Some x
  in_prefix [] ys n x there = absurd (none-some x there)
  in_prefix (y ∷ xs) ys zero x there = there
  in_prefix (y ∷ xs) ys (suc n) x there = in_prefix xs ys n x there

  pub last_there : (xs : List X) (x : X) → slice_get (xs ++ x ∷ []) (length xs) ≡ Some x
  last_there [] x = refl
  last_there (y ∷ xs) x = last_there xs x
