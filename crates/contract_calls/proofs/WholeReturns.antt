-- What is so of a whole return.
use Rattle.std.proofs.Common.{◌≡◌, None, ap, ◌∙◌}
use Rattle.std.specs.List.{AllByRecursion}
use Rattle.std.specs.Option.{ForSome}
use Rattle.cil_model.specs.Calls.{clauses_in_force}
use Rattle.cil_model.specs.Clauses.{clauses_of}
use Rattle.cil_model.specs.WellFormed.{IsWellFormed}
use Rattle.cil_model.specs.declared.clause.ClauseKind.TheVariants as clause_kinds
use Rattle.cil_model.specs.declared.unit.Unit.{Unit as MethodUnit}
use Rattle.state_facts.specs.Forms.{HasForm}
use Rattle.state_facts.specs.Holds.{variables_of}
use Rattle.state_facts.specs.StateFacts.{State}
use Rattle.contract_calls.specs.Arguments.{put_result}
use Rattle.contract_calls.specs.CallForms.{CanAssume, CanReturn, IsClauseOf}
use Rattle.contract_calls.specs.CallStates.{assumed_each, at_return, ensured, given_back}
use Rattle.contract_calls.specs.Meaning.{KeepsAllEnsured, KeepsReturn, reading_at_return, returning}
use Rattle.contract_calls.proofs.Assuming.{all_true, each_keeps, none_each, of_kind}
use Rattle.contract_calls.proofs.AtReturns.{none_result, reads_at_return, result_keeps, result_ready}
use Rattle.contract_calls.proofs.MethodClauses.{clauses_are}
use Rattle.contract_calls.proofs.OwnInts.{own_ints}
use Rattle.contract_calls.proofs.PassedArguments.{at_of, over_of}

-- The clauses of a well formed unit are those of a method.
pub own_clauses : (unit : MethodUnit) → IsWellFormed unit
    → AllByRecursion (IsClauseOf unit.args unit.result) unit.clauses
own_clauses unit formed = clauses_are unit.args unit.result unit.clauses formed.numbers (own_ints unit formed)

-- Each of them may be assumed.
pub return_assumes : (unit : MethodUnit) (state : State) → IsWellFormed unit → CanReturn unit state
    → CanAssume (at_return unit.result state) (clauses_in_force unit) state
return_assumes unit state formed ready = record {
  args = unit.args;
  result = unit.result;
  readable = ready.readable;
  tests = own_clauses unit formed;
}

-- All Ensures that are assumed are kept.
pub ensured_at_return : (unit : MethodUnit) (state : State) → IsWellFormed unit → CanReturn unit state
    → KeepsAllEnsured unit state (ensured unit state)
unfolding ensured
ensured_at_return unit state formed ready = λ p result returns none holds.
    let env = at_return unit.result state in
    let r = reading_at_return p.frame p.heap result in
    let clauses = clauses_of clause_kinds.Ensures (clauses_in_force unit) in
    at_of (assumed_each env clauses state) (returning result p) holds.machine
    (each_keeps env unit.args unit.result clauses state (variables_of (returning result p).frame) p.heap r
    ready.readable
    (of_kind unit.args unit.result clause_kinds.Ensures (clauses_in_force unit) (own_clauses unit formed))
    (reads_at_return unit state p result returns holds) (all_true 1 r clauses none)
    (over_of state (returning result p) holds))

return_form : (unit : MethodUnit) (state : State) → CanReturn unit state → ForSome state HasForm
return_form unit state ready = λ x is. (ready.readable x is).form

pub return_kept : (unit : MethodUnit) (state : State) → IsWellFormed unit → CanReturn unit state
    → KeepsReturn unit state (given_back unit state)
unfolding given_back
return_kept unit state formed ready = λ p result returns none holds.
    ensured_at_return unit (put_result unit.result state) formed (result_ready unit state ready) p result returns none
    (result_keeps unit.result state (return_form unit state ready) p result returns.result_is holds)

-- Where nothing is reached before, nothing is after.
none_ensured : (unit : MethodUnit) → ensured unit None ≡ None
unfolding ensured
none_ensured unit = none_each (at_return unit.result None) (clauses_of clause_kinds.Ensures (clauses_in_force unit))

pub none_given : (unit : MethodUnit) → given_back unit None ≡ None
unfolding given_back
none_given unit = ap (ensured unit) (none_result unit.result) ∙ none_ensured unit
