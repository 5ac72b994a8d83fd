-- What holds of each item of lists that are put together or taken apart, and of each instruction of code.
use Rattle.std.proofs.Common.{◌≡◌, ℕ, zero, suc, ◌==◌, List, [], ◌∷◌, ◌++◌, reverse, take, drop, Option, Some, subst, sym}
use Rattle.std.specs.List.{AllByRecursion}
use Rattle.std.proofs.lemmas.Bool.{cond_both}
use Rattle.std.proofs.lemmas.List.{reverse-append}
use Rattle.std.proofs.lemmas.Option.{none-some, same_Some}
use Rattle.cil_model.specs.Runs.{instr_at}
use Rattle.cil_model.specs.declared.instruction.Instr.{Instr}

module _ {X : Type 0} (P : X → Type 0) where
  pub all_append : (xs ys : List X) → AllByRecursion P xs → AllByRecursion P ys → AllByRecursion P (xs ++ ys)
  all_append [] ys h k = k
  all_append (x ∷ xs) ys h k = (h.0, all_append xs ys h.1 k)

  pub all_split : (xs ys : List X) → AllByRecursion P (xs ++ ys) → AllByRecursion P xs × AllByRecursion P ys
  all_split [] ys h = (tt, h)
  all_split (x ∷ xs) ys h = let rest = all_split xs ys h.1 in ((h.0, rest.0), rest.1)

  pub all_take : (n : ℕ) (xs : List X) → AllByRecursion P xs → AllByRecursion P (take n xs)
  all_take zero xs h = tt
  all_take (suc n) [] h = tt
  all_take (suc n) (x ∷ xs) h = (h.0, all_take n xs h.1)

  pub all_drop : (n : ℕ) (xs : List X) → AllByRecursion P xs → AllByRecursion P (drop n xs)
  all_drop zero xs h = h
  all_drop (suc n) [] h = tt
  all_drop (suc n) (x ∷ xs) h = all_drop n xs h.1

  pub all_reverse : (xs : List X) → AllByRecursion P xs → AllByRecursion P (reverse xs)
  all_reverse [] h = tt
  all_reverse (x ∷ xs) h =
      let parts : reverse (x ∷ xs) ≡ reverse xs ++ x ∷ [] = reverse-append (x ∷ []) xs in
      subst (AllByRecursion P) (sym parts) (all_append (reverse xs) (x ∷ []) (all_reverse xs h.1) (h.0, tt))

-- What holds of each instruction holds of the one that is found.
pub of_found : (P : Instr → Type 0) (is : List Instr) (at : ℕ) (i : Instr) → AllByRecursion P is → instr_at is at ≡ Some i → P i
of_found P [] at i all found = absurd (none-some i found)
of_found P (j ∷ is) at i all found =
    cond_both (j.at == at) _ _ (λ (other : Option Instr). other ≡ Some i → P i)
    (λ here e. subst P (same_Some j i e) all.0) (λ later e. of_found P is at i all.1 e) found
