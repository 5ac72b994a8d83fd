-- A state as lists, and which lists are one.
use Rattle.std.specs.Prelude.{◌≡◌, ℕ, Bool, true, false, List, [], Some, None}
use Rattle.alias_facts.specs.PairsOf.{Pair, AreInOrder, AreProper}
use Rattle.array_contents.specs.Contents.{Contents}
use Rattle.interval_domain.specs.Interval.{Interval}
use Rattle.pentagon_domain.specs.Rows.{AreBounds}
use Rattle.pentagon_domain.specs.declared.bound_row.BoundRow.{BoundRow}
use Rattle.symbolic_values.specs.declared.def.Def.{Def}
use Rattle.state_facts.specs.Forms.{HasForm}
use Rattle.state_facts.specs.StateFacts.{StateFacts, State}
use Rattle.frame_names.specs.declared.reference.Reference.{Reference}
use Rattle.frame_names.specs.declared.var.Var.{Var}

-- Whether something is reached, what each variable has, the range of each symbol from 1 on, definitions, bounds, what
-- is known of each reference from 1 on, which are apart, and the segments of each.
pub record StateParts : Type 0 where
  pub reached : Bool
  pub variables : List Var
  pub ranges : List Interval
  pub definitions : List (ℕ × Def)
  pub bounds : List BoundRow
  pub references : List Reference
  pub apart : List Pair
  pub contents : Contents

-- What is known where something is reached.
abbrev pub known_of : StateParts → StateFacts
known_of parts = record {
  variables = parts.variables;
  facts = record { ranges = parts.ranges; definitions = parts.definitions; bounds = parts.bounds };
  references = parts.references;
  apart = parts.apart;
  contents = parts.contents;
}

abbrev pub nothing_listed : StateParts
nothing_listed = record {
  reached = false;
  variables = [];
  ranges = [];
  definitions = [];
  bounds = [];
  references = [];
  apart = [];
  contents = [];
}

-- The parts of a state. Where nothing is reached all lists are empty.
abbrev pub parts_of : State → StateParts
parts_of None = nothing_listed
parts_of (Some known) = record {
  reached = true;
  variables = known.variables;
  ranges = known.facts.ranges;
  definitions = known.facts.definitions;
  bounds = known.facts.bounds;
  references = known.references;
  apart = known.apart;
  contents = known.contents;
}

-- Bounds and pairs are in order, each once.
pub record AreOrdered (known : StateFacts) : Type 0 where
  pub bounds : AreBounds known.facts.bounds
  pub in_order : AreInOrder known.apart
  pub proper : AreProper known.apart

-- What is known has its form, and bounds and pairs are in order.
pub record IsKnown (known : StateFacts) : Type 0 where
  pub form : HasForm known
  pub ordered : AreOrdered known

-- They are the parts of a state: something is reached and what is known is in order, or nothing is reached and nothing
-- is listed.
pub record AreParts (parts : StateParts) : Type 0 where
  pub reached : parts.reached ≡ true → IsKnown (known_of parts)
  pub not_reached : parts.reached ≡ false → parts ≡ nothing_listed
