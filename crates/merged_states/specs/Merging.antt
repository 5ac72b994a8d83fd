-- Two states as one, and the normal form.
use Rattle.std.specs.Prelude.{◌+◌, List, length, map, Option, Some, None}
use Rattle.std.specs.Option.{option_and_then, option_map}
use Rattle.alias_facts.specs.PairsOf.{Pair}
use Rattle.array_contents.specs.Contents.{Contents}
use Rattle.array_contents.specs.Merging.{Making}
use Rattle.frame_names.specs.ApartPairs.{joined_apart, kept_apart}
use Rattle.frame_names.specs.MergedReferences.{merged_references}
use Rattle.frame_names.specs.PairedFrames.{FramePairing, paired_frames}
use Rattle.interval_domain.specs.Joins as ranges
use Rattle.merged_numbers.specs.Known.{Known}
use Rattle.merged_numbers.specs.Merging as numbers
use Rattle.merged_numbers.specs.Merging.{Outcome}
use Rattle.symbolic_values.specs.declared.def.Def.{Def}
use Rattle.symbolic_values.specs.declared.pairs.Key.{Key}
use Rattle.merged_states.specs.Parts.{contents_of_both, contents_of_one, def_of_both, def_of_one, definitions_from, entry_of, if_numbered, numbers_known}
use Rattle.state_facts.specs.StateFacts.{StateFacts, State}

-- What is known of new symbols, given the keys that they stand for. None: nothing is reached.
abbrev pub NumberRule : Type 0
NumberRule = List Key → Known → Known → Option Outcome

-- How two states become one: what both know of numbers, and how two ranges of items become one.
pub record Rule : Type 0 where
  pub numbers : NumberRule
  pub making : Making

-- What is known in new names: of two states, which may be one state twice.
abbrev pub known_as : StateFacts → StateFacts → FramePairing → Outcome → (Key → Option Def) → List Pair → Contents
    → StateFacts
known_as a b frames outcome def apart contents = record {
  variables = frames.vars;
  facts = record {
    ranges = outcome.ranges;
    definitions = definitions_from def 1 frames.numbers.keys;
    bounds = outcome.bounds;
  };
  references = map entry_of (merged_references a.references b.references frames.references.keys frames.lengths);
  apart = apart;
  contents = if_numbered frames contents;
}

-- ---- two states

-- The frames are named together. What both states know is kept: of numbers and items by the rule, definitions where
-- both have the same one, and pairs that are apart in both.
abbrev pub merged_as : Making → StateFacts → StateFacts → FramePairing → Outcome → StateFacts
merged_as making a b frames outcome =
    known_as a b frames outcome (def_of_both frames a.facts.definitions b.facts.definitions)
    (joined_apart frames.references.keys a.references a.apart b.references b.apart)
    (contents_of_both making frames a.contents b.contents)

abbrev pub merged_by : Rule → StateFacts → StateFacts → FramePairing → State
merged_by rule a b frames =
    option_map (merged_as rule.making a b frames)
    (rule.numbers frames.numbers.keys (numbers_known a.facts) (numbers_known b.facts))

abbrev pub merged_known : Rule → StateFacts → StateFacts → State
merged_known rule a b =
    option_and_then (merged_by rule a b) (paired_frames a.variables a.references b.variables b.references)

-- Where one is not reached it is the other.
abbrev pub merged : Rule → State → State → State
merged rule None b = b
merged rule (Some a) None = Some a
merged rule (Some a) (Some b) = merged_known rule a b

abbrev pub joining : Rule
joining = record { numbers = numbers.joined; making = ranges.hull }

abbrev pub widening : Rule
widening = record { numbers = numbers.widened; making = ranges.widened }

-- What both states know.
abbrev pub join : State → State → State
join a b = merged joining a b

-- What both know, with ends that settle.
abbrev pub widen : State → State → State
widen a b = merged widening a b

-- ---- one state

-- The frame is named by its own first uses. Definitions stay as far as what they name does, and pairs that are kept,
-- and what is known of items, in the new names.
abbrev pub normal_as : StateFacts → FramePairing → Outcome → StateFacts
normal_as a frames outcome =
    known_as a a frames outcome
    (def_of_one frames (length a.facts.ranges + 1) (length a.references + 1) a.facts.definitions)
    (kept_apart frames.references.keys a.apart) (contents_of_one frames (length a.facts.ranges + 1) a.contents)

abbrev pub normal_by : StateFacts → FramePairing → State
normal_by a frames = option_map (normal_as a frames) (numbers.normed frames.numbers.keys (numbers_known a.facts))

abbrev pub normal_known : StateFacts → State
normal_known a = option_and_then (normal_by a) (paired_frames a.variables a.references a.variables a.references)

-- What is known of variables, and of the references and lengths of these, in the names of first uses.
abbrev pub normal : State → State
normal a = option_and_then normal_known a
