-- States, as they stand in a file, one after another.
use Rattle.std.specs.Prelude.{ℕ, Bool, true, List, length, map}
use Rattle.abs_state.specs.StateParts.{StateParts, nothing_listed}
use Rattle.alias_facts.specs.PairsOf.{Pair}
use Rattle.frame_names.specs.declared.var.Var.{Var}
use Rattle.interval_domain.specs.Interval.{Interval}
use Rattle.pentagon_domain.specs.declared.bound_row.BoundRow.{BoundRow}
use Rattle.invariant_codec.specs.Formats.{Format, choice, each, last_part, only, part, to_end}
use Rattle.invariant_codec.specs.Numbers.{flag, number, ranges}
use Rattle.invariant_codec.specs.Parses.{Parse}
use Rattle.invariant_codec.specs.Segments.{KnownArray, arrays, with_contents}
use Rattle.invariant_codec.specs.Symbols.{Definition, definitions, pairs, rows, variables}

abbrev pub arrays_in : StateParts → List KnownArray
arrays_in parts = with_contents parts.references parts.contents

-- The parts of a state in which something is reached.
abbrev pub reached_parts : List Interval → List KnownArray → List Var → List BoundRow → List Definition
    → List Pair → StateParts
reached_parts ranges arrays variables bounds definitions apart = record {
  reached = true;
  variables = variables;
  ranges = ranges;
  definitions = definitions;
  bounds = bounds;
  references = map (λ a. a.reference) arrays;
  apart = apart;
  contents = map (λ a. a.segments) arrays;
}

-- What is known where something is reached: ranges of symbols, references, variables, bounds, definitions, and which
-- references are apart.
unfoldable pub known : Format StateParts
known =
    part (λ p. p.ranges) ranges (λ ranges.
    part arrays_in (arrays (length ranges)) (λ arrays.
    part (λ p. p.variables) (variables (length ranges) (length arrays)) (λ variables.
    part (λ p. p.bounds) (rows (length ranges)) (λ bounds.
    part (λ p. p.definitions) (definitions (length ranges) (length arrays)) (λ definitions.
    last_part (λ p. p.apart) (reached_parts ranges arrays variables bounds definitions) (pairs (length arrays)))))))

abbrev pub known_where : Bool → Format StateParts
known_where reached = choice reached known (only nothing_listed)

-- A state: whether something is reached, and what is known there.
unfoldable pub state : Format StateParts
state = part (λ p. p.reached) flag known_where

-- States, after their count.
unfoldable pub states : Format (List StateParts)
states = part length (number 2) (each state)

-- A file of states, behind which nothing stands.
unfoldable pub states_file : List ℕ → Parse (List StateParts)
states_file bytes = to_end states bytes
