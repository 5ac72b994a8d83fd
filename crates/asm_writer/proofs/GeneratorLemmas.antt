-- Methods that are generated one after another.
use Rattle.std.proofs.Common.{◌≡◌, ℕ, suc, ◌+◌, ◌-◌, ◌<◌, ◌≤◌, List, [], ◌∷◌, ◌++◌, map, refl, sym, ap, ◌∙◌, arith, append_assoc}
use Rattle.std.proofs.lemmas.List.{append-nil, map-append}
use Rattle.asm_writer.specs.declared.plan.MethodPlan.{MethodPlan}
use Rattle.asm_writer.specs.Generator.{next, method_at, methods_from}
use Rattle.asm_writer.specs.Plans.{Method, method_value}

first_and_rest : (i x left : ℕ) → methods_from i x (suc left) ≡ method_at i (next x) ∷ methods_from (i + 1) (next x) left
unfolding methods_from
first_and_rest i x left = refl

none_left : (i x : ℕ) → methods_from i x 0 ≡ []
unfolding methods_from
none_left i x = refl

-- One more method is the first of those to come.
pub methods_more : (ms : List MethodPlan) (m : MethodPlan) (i x count : ℕ) (all : List Method) → i < count → method_value m ≡ method_at i (next x)
    → map method_value ms ++ methods_from i x (count - i) ≡ all
    → map method_value (ms ++ m ∷ []) ++ methods_from (i + 1) (next x) (count - (i + 1)) ≡ all
methods_more ms m i x count all within is so_far =
    let left : count - i ≡ suc (count - (i + 1)) = omega arith in
    rw (map-append, is, append_assoc) (ap (λ (rest : List Method). map method_value ms ++ rest) (sym (ap (methods_from i x) left ∙ first_and_rest i x (count - (i + 1)))) ∙ so_far)

-- There are no more.
pub methods_done : (ms : List MethodPlan) (i x count : ℕ) (all : List Method) → count ≤ i
    → map method_value ms ++ methods_from i x (count - i) ≡ all → map method_value ms ≡ all
methods_done ms i x count all past so_far =
    let left : count - i ≡ 0 = omega arith in
    sym (ap (λ (rest : List Method). map method_value ms ++ rest) (ap (methods_from i x) left ∙ none_left i x) ∙ append-nil (map method_value ms)) ∙ so_far
