-- The text of a unit's invariant.
use Rattle.std.specs.Prelude.{ℕ, Bool, true, false, List, [], ◌∷◌, ◌++◌, Some, None, if◌then◌else◌, codes}
use Rattle.cil_model.specs.declared.unit.Unit.{Unit as MethodUnit}
use Rattle.il_decoder.specs.Labels.{label}
use Rattle.state_facts.specs.StateFacts.{State}
use Rattle.invariant_text.specs.StateText.{state_lines}

abbrev pub block_end : Bool → List ℕ
block_end reached = if reached then codes "\n" else codes " unreachable\n"

-- The line of the block that starts at an IL offset.
unfoldable pub block_line : ℕ → Bool → List ℕ
block_line at reached = codes "  block " ++ label at ++ block_end reached

-- The block's line, and then what holds at its start.
abbrev pub block_text : MethodUnit → ℕ → State → List ℕ
block_text unit at None = block_line at false
block_text unit at (Some known) = block_line at true ++ state_lines unit known

-- The blocks that start at these IL offsets, with the state of each.
abbrev pub invariant_text : MethodUnit → List ℕ → List State → List ℕ
invariant_text unit (at ∷ blocks) (state ∷ states) = block_text unit at state ++ invariant_text unit blocks states
invariant_text _ _ _ = []
