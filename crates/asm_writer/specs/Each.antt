-- Lists that are made method by method.
use Rattle.std.specs.Prelude.{ℕ, ◌+◌, List, [], ◌∷◌, ◌++◌}
use Rattle.asm_writer.specs.declared.plan.MethodPlan.{MethodPlan}

-- What f gives of each method and its index, where this is the index of the first.
unfoldable pub each_from : {X : Type 0} → ℕ → (ℕ → MethodPlan → List X) → List MethodPlan → List X
each_from index f [] = []
each_from index f (m ∷ ms) = f index m ++ each_from (index + 1) f ms
