-- A list whose items are changed one after another, in their places.
use Rattle.std.proofs.Common.{◌≡◌, ℕ, zero, suc, ◌<◌, List, [], ◌∷◌, length, map, get_or, set, ◌+◌, refl, sym, ap, ap₂, ◌∙◌, add-one, arith}

module _ {X : Type 0} (f : X → X) where
  -- The list with so many of its first items changed.
  abbrev pub changed : ℕ → List X → List X
  changed zero xs = xs
  changed (suc n) [] = []
  changed (suc n) (x ∷ xs) = f x ∷ changed n xs

  pub next_unchanged : (n : ℕ) (xs : List X) (d : X) → get_or (changed n xs) n d ≡ get_or xs n d
  next_unchanged zero xs d = refl
  next_unchanged (suc n) [] d = refl
  next_unchanged (suc n) (x ∷ xs) d = next_unchanged n xs d

  pub change_next : (n : ℕ) (xs : List X) (d : X) → n < length xs → set (changed n xs) n (f (get_or xs n d)) ≡ changed (suc n) xs
  change_next n [] d inside = absurd (omega arith)
  change_next zero (x ∷ xs) d inside = refl
  change_next (suc n) (x ∷ xs) d inside = ap (λ ys. f x ∷ ys) (change_next n xs d (omega arith))

  pub change_item : (n : ℕ) (items xs : List X) (d y : X) → items ≡ changed n xs → n < length xs → y ≡ f (get_or items n d) → set items n y ≡ changed (n + 1) xs
  change_item n items xs d y are inside is =
      let here : y ≡ f (get_or xs n d) = is ∙ ap (λ zs. f (get_or zs n d)) are ∙ ap f (next_unchanged n xs d) in
      ap₂ (λ (zs : List X) (z : X). set zs n z) are here ∙ change_next n xs d inside ∙ ap (λ (k : ℕ). changed k xs) (sym (add-one n))

  pub all_changed : (xs : List X) → changed (length xs) xs ≡ map f xs
  all_changed [] = refl
  all_changed (x ∷ xs) = ap (λ ys. f x ∷ ys) (all_changed xs)
