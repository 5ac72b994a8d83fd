-- Lists that are made method by method.
use Rattle.std.proofs.Common.{◌≡◌, ℕ, suc, ◌+◌, ◌<◌, List, [], ◌∷◌, ◌++◌, length, get_or, take, sym, ap, refl, add-zero, zero-add, ◌∙◌, append_assoc, arith}
use Rattle.std.proofs.lemmas.List.{append-nil, take_more, length-take-le}
use Rattle.asm_writer.specs.declared.plan.MethodPlan.{MethodPlan}
use Rattle.asm_writer.specs.Each.{each_from}

pub each_after : {X : Type 0} (index : ℕ) (f : ℕ → MethodPlan → List X) (ms : List MethodPlan) (m : MethodPlan) → each_from index f (ms ++ m ∷ []) ≡ each_from index f ms ++ f (index + length ms) m
unfolding each_from
each_after index f [] m = simp (append-nil, add-zero)
each_after index f (x ∷ xs) m =
    let rest = each_after (index + 1) f xs m in
    let at : index + suc (length xs) ≡ index + 1 + length xs = omega arith in
    rw (rest, at, append_assoc) refl

pub each_more : {X : Type 0} (f : ℕ → MethodPlan → List X) (ms : List MethodPlan) (i : ℕ) (m : MethodPlan) → i < length ms → m ≡ get_or ms i m
    → each_from 0 f (take (i + 1) ms) ≡ each_from 0 f (take i ms) ++ f i m
each_more f ms i m lt is =
    let prefix : length (take i ms) ≡ i = length-take-le i ms (omega arith) in
    let more : take (i + 1) ms ≡ take i ms ++ m ∷ [] = take_more ms i m lt ∙ ap (λ (x : MethodPlan). take i ms ++ x ∷ []) (sym is) in
    rw more (each_after 0 f (take i ms) m ∙ ap (λ (k : ℕ). each_from 0 f (take i ms) ++ f k m) (zero-add _ ∙ prefix))

pub each_none : {X : Type 0} (index : ℕ) (f : ℕ → MethodPlan → List X) → each_from index f [] ≡ []
unfolding each_from
each_none index f = refl
