-- What readers of states promise.
use Rattle.std.specs.Prelude.{◌≡◌, ℕ, ◌<◌, ◌^◌, true, List, ◌++◌, length, Option, Some, None}
use Rattle.std.specs.List.{AllByRecursion}
use Rattle.abs_state.specs.StateParts.{StateParts, parts_of}
use Rattle.alias_facts.specs.PairsOf.{Pair}
use Rattle.cil_model.specs.declared.unit.Unit.{Unit as MethodUnit}
use Rattle.frame_names.specs.declared.var.Var.{Var}
use Rattle.interval_domain.specs.Interval.{Interval}
use Rattle.invariant_reader.specs.ArrayReaders.{Arrays}
use Rattle.pentagon_domain.specs.declared.bound_row.BoundRow.{BoundRow}
use Rattle.symbolic_values.specs.declared.def.Def.{Def}
use Rattle.invariant_text.specs.InvariantText.{block_text, invariant_text}
use Rattle.invariant_text.specs.Shape.{IsPrintable}
use Rattle.invariant_text.specs.StateText.{state_lines}
use Rattle.invariant_text.proofs.LineReading.{line_kind}
use Rattle.invariant_reader.specs.Reading.{HasParts}
use Rattle.invariant_reader.specs.ReadsBack.{ReadsBack}
use Rattle.state_facts.specs.StateFacts.{State, StateFacts}

-- What is known can be printed, and 32 bits name its symbols and its references.
pub record IsReadable (known : StateFacts) : Type 0 where
  pub printable : IsPrintable known
  pub symbols : length known.facts.ranges < 2 ^ 32
  pub references : length known.references < 2 ^ 32

-- Its lists are those of a state.
pub record IsReadableKnown (known : StateFacts) : Type 0 where
  pub readable : IsReadable known
  pub ordered : HasParts (Some known)

abbrev pub IsReadableState : State → Type 0
IsReadableState None = Unit {0}
IsReadableState (Some known) = IsReadableKnown known

-- The parts of a state in which something is reached.
abbrev pub reached_parts : List Var → List Interval → Arrays → List BoundRow → List (ℕ × Def) → List Pair → StateParts
reached_parts variables ranges arrays bounds definitions apart = record {
  reached = true;
  variables = variables;
  ranges = ranges;
  definitions = definitions;
  bounds = bounds;
  references = arrays.references;
  apart = apart;
  contents = arrays.contents;
}

-- The text goes on with no line of a state.
abbrev pub EndsState : List ℕ → Type 0
EndsState rest = 6 < line_kind rest

-- Of the lines of a state, whatever the unit is, its parts are read.
abbrev pub ReadsParts : List ℕ → Option (StateParts × List ℕ) → Type 0
ReadsParts text read =
    (unit : MethodUnit) (known : StateFacts) (rest : List ℕ) → IsReadable known → EndsState rest
    → text ≡ state_lines unit known ++ rest → read ≡ Some (parts_of (Some known), rest)

-- The state is read.
abbrev pub ReadsState : List ℕ → Option (State × List ℕ) → Type 0
ReadsState text read =
    (unit : MethodUnit) (known : StateFacts) (rest : List ℕ) → IsReadableKnown known → EndsState rest
    → text ≡ state_lines unit known ++ rest → read ≡ Some (Some known, rest)

-- The state whose parts they are, if they are those of one.
abbrev pub StandsFor : StateParts → Option State → Type 0
StandsFor parts read = (state : State) → HasParts state → parts ≡ parts_of state → read ≡ Some state

-- Of a block that starts at an IL offset, its state is read.
abbrev pub ReadsBlock : ℕ → List ℕ → Option (State × List ℕ) → Type 0
ReadsBlock at text read = (unit : MethodUnit) → ReadsBack (block_text unit at) IsReadableState EndsState text read

-- Of the blocks that start at these IL offsets, the states are read.
abbrev pub ReadsBlocks : List ℕ → List ℕ → Option (List State) → Type 0
ReadsBlocks blocks text read =
    (unit : MethodUnit) (states : List State) → length states ≡ length blocks → AllByRecursion IsReadableState states
    → text ≡ invariant_text unit blocks states → read ≡ Some states
