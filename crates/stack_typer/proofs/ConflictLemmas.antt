-- The lowest of the offsets where a stack does not merge.
use Rattle.std.proofs.Common.{◌≡◌, ℕ, ◌+◌, ◌<◌, length, take, get_or, Bool, true, false, List, [], ◌∷◌, ◌++◌, Option, Some, None, if◌then◌else◌, refl, sym, ap, ◌∙◌, arith}
use Rattle.std.proofs.lemmas.Bool.Decides.{nat_tests}
use Rattle.std.proofs.lemmas.List.{take_more}
use Rattle.cil_model.specs.Passes.{Stacks, conflicts, lower_of, lowest_conflict}
use Rattle.cil_model.specs.declared.instruction.Instr.{Instr}
use Rattle.cil_model.specs.declared.place.Kind.{Kind}
use Rattle.stack_typer.specs.Successors.{conflict_at, lower}

lower_first : (a : ℕ) (b : Option ℕ) → Some (lower_of b a) ≡ lower (Some a) b
lower_first a None = refl
lower_first a (Some b) = ap Some (grind (arith, nat_tests))

lower_assoc : (a b c : Option ℕ) → lower (lower a b) c ≡ lower a (lower b c)
lower_assoc None b c = refl
lower_assoc (Some a) None c = refl
lower_assoc (Some a) (Some b) None = refl
lower_assoc (Some a) (Some b) (Some c) = ap Some (omega arith)

one_lower : (clash : Bool) (at : ℕ) (others : Option ℕ) → (if clash then Some (lower_of others at) else others) ≡ lower (if clash then Some at else None) others
one_lower true at others = lower_first at others
one_lower false at others = refl

-- Of two lists of offsets.
pub lowest_conflict-append : (is : List Instr) (stacks : Stacks) (stack : List Kind) (xs ys : List ℕ)
    → lowest_conflict is stacks stack (xs ++ ys) ≡ lower (lowest_conflict is stacks stack xs) (lowest_conflict is stacks stack ys)
lowest_conflict-append is stacks stack [] ys = refl
lowest_conflict-append is stacks stack (x ∷ xs) ys =
    let lowest = lowest_conflict is stacks stack in
    let here = conflict_at is stacks stack x in
    one_lower (conflicts is stacks stack x) x (lowest (xs ++ ys))
    ∙ ap (lower here) (lowest_conflict-append is stacks stack xs ys)
    ∙ sym (lower_assoc here (lowest xs) (lowest ys))
    ∙ ap (λ first. lower first (lowest ys)) (sym (one_lower (conflicts is stacks stack x) x (lowest xs)))

-- One more offset.
pub one_more_offset : (is : List Instr) (stacks : Stacks) (stack : List Kind) (offsets : List ℕ) (k d : ℕ) → k < length offsets
    → lowest_conflict is stacks stack (take (k + 1) offsets) ≡ lower (lowest_conflict is stacks stack (take k offsets)) (conflict_at is stacks stack (get_or offsets k d))
one_more_offset is stacks stack offsets k d within =
    ap (lowest_conflict is stacks stack) (take_more offsets k d within) ∙ lowest_conflict-append is stacks stack (take k offsets) (get_or offsets k d ∷ [])
