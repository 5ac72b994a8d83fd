-- The blocks of a unit's body, and places in their list. A branch goes to the start of an instruction
-- (ECMA-335 III.1.7.2), so a block starts only where an instruction does.
use Rattle.std.specs.Prelude.{ℕ, zero, suc, ◌==◌, ◌||◌, nat_le, List, [], ◌∷◌, length, map, filter, Option, Some, None, option_map, if◌then◌else◌}
use Rattle.std.specs.List.{list_any}
use Rattle.cil_model.specs.Blocks.{starts_at}
use Rattle.cil_model.specs.declared.instruction.Instr.{Instr}
use Rattle.cil_model.specs.declared.unit.Unit.{Unit as MethodUnit}

-- The IL offsets at which the blocks of a body start that starts there itself, in order.
abbrev pub starts_among : ℕ → List Instr → List ℕ
starts_among start body = map (λ i. i.at) (filter (λ i. i.at == start || list_any (starts_at i.at) body) body)

-- The same of the body that starts at an IL offset of these instructions.
abbrev pub block_starts : List Instr → ℕ → List ℕ
block_starts is start = starts_among start (filter (λ i. nat_le start i.at) is)

-- The IL offsets at which the blocks of the unit's body start, in order.
abbrev pub blocks_of : MethodUnit → List ℕ
blocks_of unit = block_starts unit.instrs unit.body_start

-- The place of the block that starts at an IL offset, if one does.
abbrev pub place_of : List ℕ → ℕ → Option ℕ
place_of [] at = None
place_of (start ∷ starts) at = if start == at then Some 0 else option_map suc (place_of starts at)

-- The last of so many places, if there is one.
abbrev pub last_place : ℕ → Option ℕ
last_place zero = None
last_place (suc n) = Some n

-- The place of the block in which an IL offset lies: the last one that starts there or before, if one does.
abbrev pub block_at : List ℕ → ℕ → Option ℕ
block_at blocks at = last_place (length (filter (λ start. nat_le start at) blocks))
