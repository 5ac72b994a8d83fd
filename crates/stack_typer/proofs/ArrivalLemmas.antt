-- A stack that comes to several instructions.
use Rattle.std.proofs.Common.{◌≡◌, ℕ, ◌+◌, ◌<◌, List, [], ◌∷◌, ◌++◌, length, drop, get_or, refl, sym, ap, ◌∙◌}
use Rattle.std.proofs.lemmas.List.{drop_more}
use Rattle.cil_model.specs.Passes.{Stacks, come_to, come_to_all}
use Rattle.cil_model.specs.declared.instruction.Instr.{Instr}
use Rattle.cil_model.specs.declared.place.Kind.{Kind}

pub one_more_comes : (is : List Instr) (stacks now : Stacks) (stack : List Kind) (offsets : List ℕ) (k d : ℕ) → k < length offsets → now ≡ come_to is stacks (get_or offsets k d) stack
    → come_to_all is now stack (drop (k + 1) offsets) ≡ come_to_all is stacks stack (drop k offsets)
one_more_comes is stacks now stack offsets k d within e =
    ap (λ s. come_to_all is s stack (drop (k + 1) offsets)) e ∙ ap (come_to_all is stacks stack) (sym (drop_more offsets k d within))

pub come_to_all-append : (is : List Instr) (stacks : Stacks) (stack : List Kind) (xs ys : List ℕ)
    → come_to_all is stacks stack (xs ++ ys) ≡ come_to_all is (come_to_all is stacks stack xs) stack ys
come_to_all-append is stacks stack [] ys = refl
come_to_all-append is stacks stack (x ∷ xs) ys = come_to_all-append is (come_to is stacks x stack) stack xs ys
