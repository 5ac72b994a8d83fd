-- Where the bodies of some codes start, and how many blocks they have.
use Rattle.std.proofs.Common.{◌≡◌, pos, [], ◌∷◌, true, false, refl}
use Rattle.cil_model.specs.Blocks.{block_count, is_block_start, start_of_body}
use Rattle.cil_model.specs.UnitCalls.{unit_call}
use Rattle.cil_model.specs.declared.instruction.Op.TheVariants.{Nop, Const, Call, Return, Branch, Switch}
use Rattle.cil_model.specs.declared.instruction.Test.TheVariants.{Always, True}
use Rattle.cil_model.specs.declared.place.Place.TheVariants as places
use Rattle.cil_model.specs.declared.unit.Unit.{Unit as MethodUnit}
use Rattle.cil_model.proofs.Laid.{laid_from}
use Rattle.cil_model.proofs.SmallRuns.{small}
use Rattle.cil_model.proofs.SumUnit.{sum}

-- ---- where bodies start

body_of_sum : start_of_body sum.instrs ≡ 12
unfolding unit_call
body_of_sum = refl

-- The last closing call counts: EndContractBlock, where code of the block stands before it.
behind_the_end : start_of_body (laid_from 0 ((1, Const (pos 1)) ∷ (5, Call 1) ∷ (1, Nop) ∷ (5, Call 9) ∷ (1, Return) ∷ [])) ≡ 12
unfolding unit_call
behind_the_end = refl

-- Assert and Assume close nothing, nor does a callee.
no_block : start_of_body (laid_from 0 ((1, Const (pos 1)) ∷ (5, Call 5) ∷ (1, Const (pos 1)) ∷ (5, Call 8) ∷ (5, Call 100) ∷ (1, Return) ∷ [])) ≡ 0
unfolding unit_call
no_block = refl

-- ---- blocks

-- At offset 12, after the branch at 15, and at its target 17 after the return.
blocks_of_sum : block_count sum ≡ 3
unfolding unit_call
blocks_of_sum = refl

-- A branch back to 2, and a switch to 2 and to 13: at 0, 2, 4, 13 and after the switch at 12.
abbrev loops : MethodUnit
loops =
    small places.Void [] []
    ((1, Nop) ∷ (1, Const (pos 1)) ∷ (2, Branch True 2) ∷ (1, Const (pos 1)) ∷ (7, Switch (2 ∷ 13 ∷ [])) ∷ (1, Nop) ∷ (1, Return) ∷ [])

blocks_of_loops : block_count loops ≡ 5
blocks_of_loops = refl

target_starts_one : is_block_start loops 13 ≡ true
target_starts_one = refl

behind_the_branch : is_block_start loops 4 ≡ true
behind_the_branch = refl

behind_the_switch : is_block_start loops 12 ≡ true
behind_the_switch = refl

within_a_block : is_block_start loops 5 ≡ false
within_a_block = refl

-- What no way reaches has its block too, after a branch that is always taken.
blocks_not_reached : block_count (small places.Void [] [] ((2, Branch Always 3) ∷ (1, Nop) ∷ (1, Return) ∷ [])) ≡ 3
blocks_not_reached = refl

blocks_behind_returns : block_count (small places.Void [] [] ((1, Return) ∷ (1, Nop) ∷ (1, Return) ∷ [])) ≡ 2
blocks_behind_returns = refl
