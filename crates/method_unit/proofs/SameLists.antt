-- Two lists that are compared item by item: x and y are the items of one place.
use Rattle.std.proofs.Common.{◌≡◌, ◌≢◌, ℕ, ◌+◌, ◌<◌, ◌≤◌, List, [], ◌∷◌, ◌++◌, length, get_or, take, sym, ap, ap₂, subst, ◌∙◌}
use Rattle.std.proofs.lemmas.List.{get_or_default, take_all, take_more}

module _ {X : Type 0} (a b : List X) where
  pub one_more_same : (i : ℕ) (x y : X) → i < length a → i < length b → x ≡ get_or a i x → y ≡ get_or b i y → x ≡ y
      → take i a ≡ take i b → take (i + 1) a ≡ take (i + 1) b
  one_more_same i x y inside other here there same so_far =
      take_more a i x inside
      ∙ ap₂ (λ (prefix : List X) (item : X). prefix ++ item ∷ []) so_far (sym here ∙ same ∙ there)
      ∙ sym (take_more b i y other)

  pub all_same : (i : ℕ) → length a ≡ length b → length a ≤ i → take i a ≡ take i b → a ≡ b
  all_same i counted past same = sym (take_all i a past) ∙ same ∙ take_all i b (subst (λ n. n ≤ i) counted past)

  pub one_differs : (i : ℕ) (x y : X) → i < length a → x ≡ get_or a i x → y ≡ get_or b i y → x ≢ y → a ≢ b
  one_differs i x y inside here there differs same =
      differs (here ∙ ap (λ items. get_or items i x) same ∙ get_or_default b i x y (subst (λ items. i < length items) same inside) ∙ sym there)
