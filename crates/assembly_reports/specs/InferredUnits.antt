-- What is inferred of the methods of an assembly, and their units with it.
use Rattle.std.specs.Prelude.{ℕ, Bool, true, false, List, [], map}
use Rattle.std.specs.Option.{option_map_or}
use Rattle.asm_image.specs.Rows.{methods_of}
use Rattle.asm_image.specs.declared.method_row.MethodRow.{MethodRow}
use Rattle.cil_model.specs.declared.clause.Clause.{Clause}
use Rattle.cil_model.specs.declared.machine.World.{World}
use Rattle.cil_model.specs.declared.unit.Unit.{Unit as MethodUnit}
use Rattle.ensures_infer.specs.Candidates.{candidates_of}
use Rattle.safe_worlds.specs.Strengthened.{strengthen_world, strengthened}
use Rattle.unit_builder.specs.Outcomes.{entries_of, outcome_of}
use Rattle.unit_builder.specs.Walks.{calls_of, unit_at}
use Rattle.unit_builder.specs.WorldOf.{world_of, world_tokens}
use Rattle.unit_builder.specs.declared.entry.MethodEntry.{MethodEntry}
use Rattle.unit_builder.specs.declared.entry.Outcome.{Outcome}
use Rattle.unit_builder.specs.declared.entry.Outcome.TheVariants.{Analysed, Skipped}
use Rattle.unit_flow.specs.FlowOf.{flow_of}
use Rattle.unit_verdicts.specs.Picks.{Pick}

-- ---- what comes of methods

-- A method with its printed name, where this comes of methods.
abbrev pub entry_by : (MethodRow → Outcome) → MethodRow → MethodEntry
entry_by of method = record { token = method.token; name = method.name; outcome = of method }

-- ---- what is inferred

-- The Ensures that are inferred of a unit as it is written, under the states that a pick tells for it.
unfoldable pub unit_candidates : Pick → MethodUnit → List Clause
unit_candidates pick unit = candidates_of (flow_of unit) (pick unit)

-- Those of a method of which this comes. Of one that is not analysed nothing is inferred.
abbrev pub outcome_candidates : Pick → Outcome → List Clause
outcome_candidates pick (Analysed unit) = unit_candidates pick unit
outcome_candidates pick (Skipped reason) = []

-- Those of each of these methods.
abbrev pub all_candidates : Pick → List MethodEntry → List (List Clause)
all_candidates pick entries = map (λ entry. outcome_candidates pick entry.outcome) entries

-- Those of the method of a token.
unfoldable pub method_candidates : Pick → List ℕ → ℕ → List Clause
method_candidates pick asm token = option_map_or (unit_candidates pick) (unit_at asm token) []

-- ---- units with what is inferred

-- What comes of the method of a token where clauses are added to its unit: to its own those of its token, and to those
-- of each method that it calls those of that method's token.
abbrev pub outcome_with : (ℕ → List Clause) → ℕ → List ℕ → Outcome → Outcome
outcome_with added token calls (Analysed unit) = Analysed (strengthened unit (added token) (map added calls))
outcome_with added token calls (Skipped reason) = Skipped reason

-- What comes of a method of an assembly with what is inferred of it and of those that it calls.
unfoldable pub inferred_outcome : Pick → List ℕ → MethodRow → Outcome
inferred_outcome pick asm method =
    outcome_with (method_candidates pick asm) method.token.0 (calls_of asm method.token.0) (outcome_of asm method)

-- The same for each method, in the order of its rows.
unfoldable pub inferred_entries : Pick → List ℕ → List MethodEntry
inferred_entries pick asm = map (entry_by (inferred_outcome pick asm)) (methods_of asm)

-- The world of the method of a token, in which each method has what is inferred of it, under a pick, among its clauses,
-- and so has what its callers know of it.
abbrev pub inferred_world : Pick → List ℕ → ℕ → World
inferred_world pick asm from = strengthen_world (map (method_candidates pick asm) (world_tokens asm from)) (world_of asm from)

-- The methods of an assembly that is reported: as they are written, or with what is inferred.
abbrev pub reported_entries : Bool → Pick → List ℕ → List MethodEntry
reported_entries false pick asm = entries_of asm
reported_entries true pick asm = inferred_entries pick asm
