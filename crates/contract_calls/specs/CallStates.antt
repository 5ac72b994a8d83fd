-- What a call and a return owe, and what is known behind them. The arguments of a call lie on top of the stack, as
-- they were put into their places.
use Rattle.std.specs.Prelude.{ℕ, zero, suc, ◌+◌, ◌-◌, Bool, true, List, [], ◌∷◌, ◌++◌, length, take, drop, slice_get, Option, Some, None}
use Rattle.std.specs.Option.{option_map}
use Rattle.cil_model.specs.Calls.{clauses_in_force}
use Rattle.cil_model.specs.Clauses.{clauses_of}
use Rattle.cil_model.specs.declared.clause.Clause.{Clause}
use Rattle.cil_model.specs.declared.clause.ClauseKind.TheVariants as kinds
use Rattle.cil_model.specs.declared.place.Place.{Place}
use Rattle.cil_model.specs.declared.place.Place.TheVariants as places
use Rattle.cil_model.specs.declared.unit.CalleeInfo.{CalleeInfo}
use Rattle.cil_model.specs.declared.unit.Unit.{Unit as MethodUnit}
use Rattle.clause_trees.specs.ClauseStates.{assumed, shown}
use Rattle.clause_trees.specs.declared.reader.TreeEnv.{TreeEnv}
use Rattle.state_facts.specs.StateFacts.{StateFacts, State}
use Rattle.state_facts.specs.States.{forget}
use Rattle.contract_calls.specs.Arguments.{first_of, put_args, put_result}

-- Each clause is true.
abbrev pub assumed_each : TreeEnv → List Clause → State → State
assumed_each env [] state = state
assumed_each env (clause ∷ clauses) state = assumed_each env clauses (assumed env true clause.tree state)

-- The one of a number, counted from 1.
unfoldable pub numbered : List Clause → ℕ → Option Clause
numbered clauses zero = None
numbered clauses (suc number) = slice_get clauses number

-- The variable that has a result. There is none where it is void.
abbrev pub result_at : Place → ℕ → Option ℕ
result_at places.Void i = None
result_at place i = Some i

-- ---- before a call

-- A Requires of a method of so many parameters reads the arguments on top of the stack.
abbrev pub at_call : ℕ → State → TreeEnv
at_call count state = record { args = first_of count state; result = None }

-- A Requires of the callee is shown.
abbrev pub requires_shown : CalleeInfo → Clause → State → Bool
requires_shown callee clause state = shown (at_call (length callee.args) state) true clause.tree state

-- It is assumed.
abbrev pub requires_assumed : CalleeInfo → Clause → State → State
requires_assumed callee clause state = assumed (at_call (length callee.args) state) true clause.tree state

-- All Requires of the callee are assumed.
unfoldable pub required : CalleeInfo → State → State
required callee state =
    assumed_each (at_call (length callee.args) state) (clauses_of kinds.Requires callee.clauses) state

-- ---- behind a call

-- An Ensures reads the arguments in their slots, and the result in the variable on top of them.
abbrev pub behind_args : CalleeInfo → State → TreeEnv
behind_args callee state =
    let count = length callee.args in
    record { args = first_of count state; result = result_at callee.result (first_of count state + count) }

-- The call came back: what arrays hold may be other than it was, its result is on top of the arguments, and each
-- Ensures is true.
abbrev pub given : CalleeInfo → State → State
given callee state =
    let count = length callee.args in
    assumed_each (behind_args callee state) (clauses_of kinds.Ensures callee.clauses)
    (forget (first_of count state) count callee.result state)

-- The variables less so many uppermost ones.
abbrev pub without_top : ℕ → StateFacts → StateFacts
without_top count known = record known { variables = take (length known.variables - count) known.variables }

-- The variables less so many from a list index on.
abbrev pub less : ℕ → ℕ → StateFacts → StateFacts
less first count known =
    record known { variables = take first known.variables ++ drop (first + count) known.variables }

-- The arguments are gone, and the result lies on what was below them.
unfoldable pub after_call : CalleeInfo → State → State
after_call callee state =
    option_map (less (first_of (length callee.args) state) (length callee.args)) (given callee state)

-- ---- a whole call

-- The arguments of a call are put, and it came back.
unfoldable pub called : CalleeInfo → State → State
called callee state = after_call callee (required callee (put_args callee.args state))

-- ---- at a return

-- An Ensures of the unit itself reads the arguments at the entry, which are the first variables, and the result on top.
abbrev pub at_return : Place → State → TreeEnv
at_return result state = record { args = 0; result = result_at result (first_of 1 state) }

-- An Ensures of the unit is shown.
abbrev pub ensures_shown : MethodUnit → Clause → State → Bool
ensures_shown unit clause state = shown (at_return unit.result state) true clause.tree state

-- It is assumed.
abbrev pub ensures_assumed : MethodUnit → Clause → State → State
ensures_assumed unit clause state = assumed (at_return unit.result state) true clause.tree state

-- All Ensures of the unit are assumed.
unfoldable pub ensured : MethodUnit → State → State
ensured unit state =
    assumed_each (at_return unit.result state) (clauses_of kinds.Ensures (clauses_in_force unit)) state

-- ---- a whole return

-- What is returned is put into the place of the result, and then each Ensures of the unit is true.
unfoldable pub given_back : MethodUnit → State → State
given_back unit state = ensured unit (put_result unit.result state)
