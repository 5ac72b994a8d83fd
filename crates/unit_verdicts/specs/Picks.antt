-- Under which states a unit is judged, and what is reported of it: the verdicts on its obligations, and the text of the
-- invariant that they rest on.
use Rattle.std.specs.Prelude.{ℕ, Bool, List, [], Option, Some, None, map, if◌then◌else◌}
use Rattle.abs_state.specs.StateParts.{StateParts, known_of}
use Rattle.cil_model.specs.declared.unit.Unit.{Unit as MethodUnit}
use Rattle.invariant_checker.specs.Inducts.{has_shape}
use Rattle.invariant_checker.specs.Verdicts.{verdicts}
use Rattle.invariant_checker.specs.declared.verdict.Verdict.{Verdict}
use Rattle.invariant_codec.specs.States.{states_file}
use Rattle.invariant_text.specs.InvariantText.{invariant_text}
use Rattle.result_cache.specs.Entries.{Entry, invariant_of}
use Rattle.state_facts.specs.StateFacts.{State}
use Rattle.unit_flow.specs.FlowOf.{flow_of}
use Rattle.unit_flow.specs.declared.unit_flow.UnitFlow.{UnitFlow}
use Rattle.unit_form.specs.Spelling.{unit_bytes}
use Rattle.unit_verdicts.specs.ProvedUnits.{states_for}
use Rattle.unit_verdicts.specs.declared.source.Source.{Source}
use Rattle.unit_verdicts.specs.declared.source.Source.TheVariants.{Cache as OfCache, Proof as OfProof}
use Rattle.widening_engine.specs.Limits.{limit_of}

-- A pick tells for each unit under which states its obligations are judged, one state for each block.
abbrev pub Pick : Type 0
Pick = MethodUnit → List State

-- The pick of what a finder answers.
abbrev pub limit_pick : Pick
limit_pick unit = limit_of (flow_of unit)

-- ---- what a cache holds

-- The state of these parts.
abbrev pub state_of : StateParts → State
state_of parts = if parts.reached then Some (known_of parts) else None

-- The states that the bytes of an invariant spell.
unfoldable pub states_in : List ℕ → List State
states_in bytes = map state_of (states_file bytes).value

-- The states of an invariant that is held for a unit, where there is one, and else what a finder answers.
abbrev pub held_or_limit : Option (List ℕ) → Pick
held_or_limit (Some bytes) unit = states_in bytes
held_or_limit None unit = limit_pick unit

-- The pick of what the entries of a cache hold for the whole bytes of a unit, and else of what a finder answers.
abbrev pub pick_of : List Entry → Pick
pick_of entries unit = held_or_limit (invariant_of entries (unit_bytes unit)) unit

-- ---- what either holds

-- The pick of what is held.
abbrev pub pick_from : Source → Pick
pick_from (OfCache entries) = pick_of entries
pick_from (OfProof entries) = λ unit. states_for entries (unit_bytes unit)

-- The entries of a cache file. A proof file has none of these.
abbrev pub entries_in : Source → List Entry
entries_in (OfCache entries) = entries
entries_in (OfProof entries) = []

-- ---- what is reported

-- The verdicts on the obligations of a unit under a pick.
unfoldable pub verdicts_under : Pick → MethodUnit → List Verdict
verdicts_under pick unit = verdicts (flow_of unit) (pick unit)

-- The text of states of a unit. Those that have not its shape have none.
abbrev pub states_text : UnitFlow → List State → List ℕ
states_text code states = if has_shape code states then invariant_text code.unit code.graph.blocks states else []

-- How a report is made: whether it shows invariants, and the pick under which obligations are judged.
pub record Manner : Type 0 where
  pub show : Bool
  pub pick : Pick

-- That of a report whose obligations are judged under what a finder answers.
abbrev pub limit_manner : Bool → Manner
limit_manner show = record { show = show; pick = limit_pick }

-- What is shown of a unit.
unfoldable pub shown_text : Manner → MethodUnit → List ℕ
shown_text manner unit = if manner.show then states_text (flow_of unit) (manner.pick unit) else []
