-- What readers of blocks promise.
use Rattle.std.specs.Prelude.{◌≡◌, ℕ, Bool, true, false, List, ◌++◌, Option, Some, codes}
use Rattle.cil_model.specs.declared.unit.Unit.{Unit as MethodUnit}
use Rattle.il_decoder.specs.Labels.{label}
use Rattle.invariant_text.specs.InvariantText.{block_line, invariant_text}
use Rattle.state_facts.specs.StateFacts.{State}

-- The line of a block up to what it says of being reached.
abbrev pub line_prefix : ℕ → List ℕ
line_prefix at = codes "  block " ++ label at

-- Of the line of the block that starts at an IL offset, what it says is read, and the rest is left.
abbrev pub ReadsReached : ℕ → List ℕ → Option (Bool × List ℕ) → Type 0
ReadsReached at text read =
    (reached : Bool) (rest : List ℕ) → text ≡ block_line at reached ++ rest → read ≡ Some (reached, rest)

-- Whether the states have the text.
abbrev pub HasText : MethodUnit → List ℕ → List State → List ℕ → Bool → Type 0
HasText unit blocks states text true = invariant_text unit blocks states ≡ text
HasText unit blocks states text false = invariant_text unit blocks states ≡ text → ⊥
