-- Lists of what some items give, as far as there is room.
use Rattle.std.proofs.Common.{◌≡◌, ℕ, zero, suc, ◌+◌, ◌<◌, ◌≤◌, List, [], ◌∷◌, ◌++◌, length, get_or, take, Option, Some, None, refl, sym, ap, ◌∙◌, length-append, arith}
use Rattle.std.specs.Prelude.{filter_map, option_to_list}
use Rattle.std.specs.List.{AllByRecursion, cons_option}
use Rattle.std.proofs.lemmas.List.{take-append-le, take_all, take_more}
use Rattle.std.proofs.lemmas.List.Elements.{filter_map-append}

-- ---- room

-- No more comes where there is no room.
pub full : {X : Type 0} (n : ℕ) (xs more : List X) → length xs ≡ n → xs ≡ take n (xs ++ more)
full n xs more no_room = sym (take-append-le n xs more (omega (arith, no_room)) ∙ take_all n xs (omega (arith, no_room)))

-- All comes where there is room for it.
pub all_fit : {X : Type 0} (n : ℕ) (xs more : List X) → length xs + length more ≤ n → xs ++ more ≡ take n (xs ++ more)
all_fit n xs more room = sym (take_all n (xs ++ more) (omega (arith, room, length-append xs more)))

-- What is taken of a list to which more comes is taken of that part of it that was taken.
pub taken_twice : {X : Type 0} (n : ℕ) (xs more : List X) → take n (take n xs ++ more) ≡ take n (xs ++ more)
taken_twice zero xs more = refl
taken_twice (suc n) [] more = refl
taken_twice {X} (suc n) (x ∷ xs) more = ap (λ (ys : List X). x ∷ ys) (taken_twice n xs more)

-- ---- what items give

listed : {Y : Type 0} (o : Option Y) → cons_option o [] ≡ option_to_list o
listed None = refl
listed (Some y) = refl

-- What one more item gives.
pub one_more_filtered : {X Y : Type 0} (f : X → Option Y) (xs : List X) (k : ℕ) (d : X) → k < length xs
    → filter_map f (take (k + 1) xs) ≡ filter_map f (take k xs) ++ option_to_list (f (get_or xs k d))
one_more_filtered {X} {Y} f xs k d below =
    let x = get_or xs k d in
    ap (filter_map f) (take_more xs k d below)
    ∙ (filter_map-append f (take k xs) (x ∷ []) ∙ ap (λ (ys : List Y). filter_map f (take k xs) ++ ys) (listed (f x)))

-- What is so of each.
pub all_filtered : {X Y : Type 0} (P : X → Type 0) (Q : Y → Type 0) (f : X → Option Y)
    → ((x : X) (y : Y) → P x → f x ≡ Some y → Q y) → (xs : List X) → AllByRecursion P xs
    → AllByRecursion Q (filter_map f xs)
all_filtered P Q f keep [] all = tt
all_filtered {X} {Y} P Q f keep (x ∷ xs) all = by (f x) refl (all_filtered P Q f keep xs all.1)
  where
    by : (o : Option Y) → f x ≡ o → AllByRecursion Q (filter_map f xs)
        → AllByRecursion Q (cons_option o (filter_map f xs))
    by None is others = others
    by (Some y) is others = (keep x y all.0 is, others)
