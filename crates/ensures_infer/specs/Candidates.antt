-- The Ensures that a method's returns show under an invariant of its unit.
use Rattle.std.specs.Prelude.{◌-◌, List, [], ◌∷◌, length, map, take, filter_map, if◌then◌else◌}
use Rattle.cil_model.specs.Limits.{MAX_CLAUSES}
use Rattle.cil_model.specs.declared.clause.Clause.{Clause}
use Rattle.cil_model.specs.declared.unit.Unit.{Unit as MethodUnit}
use Rattle.invariant_checker.specs.Inducts.{is_inductive}
use Rattle.state_facts.specs.StateFacts.{State}
use Rattle.unit_flow.specs.declared.unit_flow.UnitFlow.{UnitFlow}
use Rattle.ensures_infer.specs.Following.{ranges_at, shown_of}
use Rattle.ensures_infer.specs.Inferred.{clause_of}
use Rattle.ensures_infer.specs.Returns.{returns_of}
use Rattle.ensures_infer.specs.Rows.{rows}
use Rattle.ensures_infer.specs.declared.inferred.Inferred.{Inferred}

-- What is known at these returns of a unit, as far as its clauses leave room. Nothing is said where it does not return.
abbrev pub shown_at : MethodUnit → List State → List Inferred
shown_at unit [] = []
shown_at unit (state ∷ others) =
    let returns = state ∷ others in
    take (MAX_CLAUSES - length unit.clauses)
    (filter_map (shown_of returns) (rows unit.result unit.args (ranges_at returns)))

-- Nothing is said under states that are no invariant.
unfoldable pub inferred : UnitFlow → List State → List Inferred
inferred code states = if is_inductive code states then shown_at code.unit (returns_of code states) else []

-- The clauses that are inferred of a unit under states, one for each block.
abbrev pub candidates_of : UnitFlow → List State → List Clause
candidates_of code states = map clause_of (inferred code states)
