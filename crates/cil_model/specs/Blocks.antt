-- Where a method's body starts, and the blocks that it has.
use Rattle.std.specs.Prelude.{ℕ, ◌+◌, ◌==◌, nat_le, Bool, true, false, ◌&&◌, ◌||◌, List, [], ◌∷◌, filter, count_by, Option, Some, if◌then◌else◌}
use Rattle.std.specs.List.{list_any}
use Rattle.cil_model.specs.UnitCalls.{unit_call}
use Rattle.cil_model.specs.declared.instruction.Instr.{Instr}
use Rattle.cil_model.specs.declared.instruction.Op.{Op}
use Rattle.cil_model.specs.declared.instruction.Op.TheVariants as ops
use Rattle.cil_model.specs.declared.unit.Unit.{Unit as MethodUnit}
use Rattle.cil_model.specs.declared.unit_numbers.UnitCall.{UnitCall}
use Rattle.cil_model.specs.declared.unit_numbers.UnitCall.TheVariants as calls

-- ---- the contract block

abbrev pub is_closing_call : Option UnitCall → Bool
is_closing_call (Some (calls.Requires message)) = true
is_closing_call (Some (calls.Ensures message)) = true
is_closing_call (Some calls.EndContractBlock) = true
is_closing_call _ = false

-- The operation closes a clause, or the contract block.
abbrev pub closes : Op → Bool
closes (ops.Call number) = is_closing_call (unit_call number)
closes _ = false

-- The IL offset after the last instruction that closes something, or this one where none does.
abbrev pub behind_last_closing : ℕ → List Instr → ℕ
behind_last_closing at [] = at
behind_last_closing at (i ∷ is) = behind_last_closing (if closes i.op then i.at + i.size else at) is

-- Where the body of this code starts.
abbrev pub start_of_body : List Instr → ℕ
start_of_body is = behind_last_closing 0 is

-- ---- blocks

-- The IL offsets to which an operation may branch.
abbrev pub branch_targets : Op → List ℕ
branch_targets (ops.Branch test target) = target ∷ []
branch_targets (ops.Switch targets) = targets
branch_targets _ = []

-- The operation is the last of its block: a branch, a switch or a return.
abbrev pub ends_block : Op → Bool
ends_block (ops.Branch test target) = true
ends_block (ops.Switch targets) = true
ends_block ops.Return = true
ends_block _ = false

-- The instructions of a unit's body.
abbrev pub body_of : MethodUnit → List Instr
body_of unit = filter (λ i. nat_le unit.body_start i.at) unit.instrs

-- Another instruction of the body makes a block start at this IL offset: it branches there, or it is the last
-- of its block and stands before.
abbrev pub starts_at : ℕ → Instr → Bool
starts_at at i = list_any (λ target. target == at) (branch_targets i.op) || (ends_block i.op && i.at + i.size == at)

-- A block starts at this IL offset.
abbrev pub is_block_start : MethodUnit → ℕ → Bool
is_block_start unit at = at == unit.body_start || list_any (starts_at at) (body_of unit)

-- How many blocks the body has.
abbrev pub block_count : MethodUnit → ℕ
block_count unit = count_by (λ i. is_block_start unit i.at) (body_of unit)
