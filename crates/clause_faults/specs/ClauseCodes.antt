-- The codes of a method's clauses, as they stand one after another in its contract block.
use Rattle.std.specs.Prelude.{ℕ, ◌+◌, Bool, ◌&&◌, nat_lt, nat_le, List, [], ◌∷◌, Option, Some, None, if◌then◌else◌}
use Rattle.cil_model.specs.Blocks.{closes}
use Rattle.cil_model.specs.declared.instruction.Instr.{Instr}

-- The first of these instructions that closes a clause, or the block.
abbrev pub closing_of : List Instr → Option Instr
closing_of [] = None
closing_of (i ∷ is) = if closes i.op then Some i else closing_of is

-- The IL offset where the code of a clause begins whose closing call comes next, when this instruction is passed: after
-- the instruction, where that one closes a clause.
abbrev pub start_behind : ℕ → Instr → ℕ
start_behind start i = if closes i.op then i.at + i.size else start

-- A way inside a clause may go on from this IL offset at that one: forward, and no further than to the closing call.
abbrev pub goes_forward : ℕ → ℕ → Instr → Bool
goes_forward at later closing = nat_lt at later && nat_le later closing.at
