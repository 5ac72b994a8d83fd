-- Where an operation goes on: to its targets, and to what stands behind it.
use Rattle.std.proofs.Common.{◌≡◌, ◌⊎◌, ℕ, ◌==◌, true, false, [], ◌∷◌, ◌++◌, slice_get, Some, refl, sym, inl, inr}
use Rattle.std.specs.List.{AllByRecursion, list_any}
use Rattle.std.proofs.lemmas.Bool.{cases_Bool, eq-eqb, false≢true}
use Rattle.cil_model.specs.Blocks.{branch_targets, ends_block}
use Rattle.cil_model.specs.Passes.{goes_behind, successors}
use Rattle.cil_model.specs.declared.instruction.Op.{Op}
use Rattle.cil_model.specs.declared.instruction.Op.TheVariants as ops
use Rattle.cil_model.specs.declared.instruction.Test.TheVariants as tests
use Rattle.cil_model.proofs.Lists.{all_append}
use Rattle.flow_graph.proofs.Items.{all_weaker, each_passes, of_place}

-- To its targets, and then to the next one.
pub successors_with_next : (op : Op) (next : ℕ) → goes_behind op ≡ true → successors op next ≡ branch_targets op ++ next ∷ []
successors_with_next ops.Return next e = absurd (false≢true e)
successors_with_next (ops.Branch tests.Always target) next e = absurd (false≢true e)
successors_with_next _ next e = refl

-- To its targets alone.
pub successors_alone : (op : Op) (next : ℕ) → goes_behind op ≡ false → successors op next ≡ branch_targets op
successors_alone ops.Return next e = refl
successors_alone (ops.Branch tests.Always target) next e = refl
successors_alone _ next e = absurd (false≢true (sym e))

-- An instruction that ends no block goes on to the next alone.
pub next_alone : (op : Op) (next : ℕ) → ends_block op ≡ false → successors op next ≡ next ∷ []
next_alone (ops.Branch test target) next e = absurd (false≢true (sym e))
next_alone (ops.Switch targets) next e = absurd (false≢true (sym e))
next_alone ops.Return next e = absurd (false≢true (sym e))
next_alone _ next e = refl

-- What holds of each target and of the next offset holds wherever the operation goes on.
pub all_successors : (P : ℕ → Type 0) (op : Op) (next : ℕ) → AllByRecursion P (branch_targets op) → P next → AllByRecursion P (successors op next)
all_successors P op next targets behind =
    elim (cases_Bool (goes_behind op)) [
      | inl goes ↦ rw (successors_with_next op next goes) (all_append P (branch_targets op) (next ∷ []) targets (behind, tt))
      | inr stays ↦ rw (successors_alone op next stays) targets
    ]

-- The offset is a target or the next one.
abbrev pub IsTargetOrNext : Op → ℕ → ℕ → Type 0
IsTargetOrNext op next at = (list_any (λ x. x == at) (branch_targets op) ≡ true) ⊎ (at ≡ next)

-- So is each to which the operation goes on.
pub target_or_next : (op : Op) (next n at : ℕ) → slice_get (successors op next) n ≡ Some at → IsTargetOrNext op next at
target_or_next op next n at =
    of_place (IsTargetOrNext op next) (successors op next) n at
    (all_successors (IsTargetOrNext op next) op next
    (all_weaker _ (IsTargetOrNext op next) (λ to found. inl (found (λ x. x == to) (eq-eqb to to refl))) (branch_targets op) (each_passes (branch_targets op)))
    (inr refl))

-- Where there is the next one alone, it is that one.
pub only_next : (next n at : ℕ) → slice_get (next ∷ []) n ≡ Some at → at ≡ next
only_next next n at there = of_place (λ to. to ≡ next) (next ∷ []) n at (refl, tt) there
