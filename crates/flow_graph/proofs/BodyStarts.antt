-- Where blocks start in the body of a unit.
use Rattle.std.proofs.Common.{◌≡◌, ℕ, ◌+◌, ◌==◌, Bool, true, ◌&&◌, List, [], ◌∷◌, map, filter, Some, refl, subst, ◌∙◌}
use Rattle.std.specs.List.{AllByRecursion, list_any}
use Rattle.std.proofs.lemmas.Bool.{cond_both, eq-eqb, or_right}
use Rattle.cil_model.specs.Blocks.{body_of, branch_targets, ends_block, is_block_start, starts_at}
use Rattle.cil_model.specs.Runs.{instr_at}
use Rattle.cil_model.specs.declared.instruction.Instr.{Instr}
use Rattle.cil_model.specs.declared.unit.Unit.{Unit as MethodUnit}
use Rattle.cil_model.proofs.KindsSettle.{found_at}
use Rattle.cil_model.proofs.Lists.{of_found}
use Rattle.flow_graph.specs.BlocksOf.{blocks_of, place_of}
use Rattle.flow_graph.proofs.EdgeOrder.{has_place}
use Rattle.flow_graph.proofs.Found.{found_passes}
use Rattle.flow_graph.proofs.Items.{all_weaker, each_passes}
use Rattle.flow_graph.proofs.Marks.{list_any-numbers}

-- What holds of each instruction at whose offset a block starts holds of each block.
pub blocks_all : (P : ℕ → Type 0) (q : ℕ → Bool) (is : List Instr) → AllByRecursion (λ i. q i.at ≡ true → P i.at) is
    → AllByRecursion P (map (λ i. i.at) (filter (λ i. q i.at) is))
blocks_all P q [] all = tt
blocks_all P q (i ∷ is) all =
    cond_both (q i.at) _ _ (λ (js : List Instr). AllByRecursion P (map (λ (j : Instr). j.at) js)) (λ e. (all.0 e, blocks_all P q is all.1)) (λ e. blocks_all P q is all.1)

-- Behind the last instruction of a block one starts.
pub starts_behind : (i : Instr) → ends_block i.op ≡ true → starts_at (i.at + i.size) i ≡ true
starts_behind i e = or_right (list_any (λ target. target == i.at + i.size) (branch_targets i.op)) _ (rw (e, eq-eqb (i.at + i.size) (i.at + i.size) refl) refl)

module _ (unit : MethodUnit) where
  -- Where an instruction of the body makes one start.
  pub marked_by : (at : ℕ) (i : Instr) → instr_at (body_of unit) i.at ≡ Some i → starts_at at i ≡ true → is_block_start unit at ≡ true
  marked_by at i found e = or_right (at == unit.body_start) (list_any (starts_at at) (body_of unit)) (found_passes (starts_at at) (body_of unit) i.at i found e)

  pub ends_start : AllByRecursion (λ i. ends_block i.op ≡ true → is_block_start unit (i.at + i.size) ≡ true) (body_of unit)
  ends_start =
      all_weaker _ (λ i. ends_block i.op ≡ true → is_block_start unit (i.at + i.size) ≡ true)
      (λ i found e. let next = i.at + i.size in or_right (next == unit.body_start) (list_any (starts_at next) (body_of unit)) (found (starts_at next) (starts_behind i e)))
      (body_of unit) (each_passes (body_of unit))

  -- A block that starts where an instruction does is among the blocks.
  pub starts_placed : AllByRecursion (λ i. is_block_start unit i.at ≡ true → (k : ℕ) × (place_of (blocks_of unit) i.at ≡ Some k)) (body_of unit)
  starts_placed =
      all_weaker _ (λ i. is_block_start unit i.at ≡ true → (k : ℕ) × (place_of (blocks_of unit) i.at ≡ Some k))
      (λ i found e. has_place (blocks_of unit) i.at
      (list_any-numbers (λ (j : Instr). j.at) (λ j. is_block_start unit j.at) i.at (body_of unit)
      ∙ found (λ j. j.at == i.at && is_block_start unit j.at) (rw (eq-eqb i.at i.at refl, e) refl)))
      (body_of unit) (each_passes (body_of unit))

  pub start_placed : (at : ℕ) (i : Instr) → instr_at (body_of unit) at ≡ Some i → is_block_start unit at ≡ true
      → (k : ℕ) × (place_of (blocks_of unit) at ≡ Some k)
  start_placed at i found =
      subst (λ (n : ℕ). is_block_start unit n ≡ true → (k : ℕ) × (place_of (blocks_of unit) n ≡ Some k)) (found_at (body_of unit) at i found)
      (of_found (λ j. is_block_start unit j.at ≡ true → (k : ℕ) × (place_of (blocks_of unit) j.at ≡ Some k)) (body_of unit) at i starts_placed found)
