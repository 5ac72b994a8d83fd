-- What is found of a unit, as the code has it.
use Rattle.std.specs.Prelude.{◌≡◌, ◌*◌, ◌<◌, ◌≤◌, Bool, List, [], length, if◌then◌else◌}
use Rattle.std.specs.List.{All}
use Rattle.cil_model.specs.Limits.{MAX_CLAUSES, MAX_CODE_BYTES, MAX_INSTRUCTIONS}
use Rattle.cil_model.specs.declared.unit.Unit.{Unit as MethodUnit}
use Rattle.invariant_checker.specs.Verdicts.{verdicts}
use Rattle.invariant_checker.specs.declared.verdict.Verdict.{Verdict}
use Rattle.state_facts.specs.StateFacts.{State}
use Rattle.unit_flow.specs.declared.unit_flow.UnitFlow.{UnitFlow}
use Rattle.unit_verdicts.specs.Picks.{Manner, shown_text, states_text, verdicts_under}
use Rattle.unit_verdicts.specs.declared.unit_verdicts.UnitVerdicts.{UnitVerdicts}

-- The verdicts are those of a unit that keeps the limits. An instruction has no more obligations than a method may have
-- clauses.
pub record AreWithin (found : List Verdict) : Type 0 where
  pub near : All (λ verdict. verdict.obligation.at < MAX_CODE_BYTES) found
  pub few : length found ≤ MAX_CLAUSES * MAX_INSTRUCTIONS

-- These are the verdicts under states, one for each block, and the text of these where they are shown.
pub record AreVerdictsUnder (show : Bool) (code : UnitFlow) (states : List State) (found : UnitVerdicts) : Type 0 where
  pub verdicts : found.verdicts.items ≡ verdicts code states
  pub shown : found.shown.items ≡ (if show then states_text code states else [])
  pub near : All (λ verdict. verdict.obligation.at < length code.unit.code) found.verdicts.items
  pub few : length found.verdicts.items ≤ MAX_CLAUSES * length code.unit.instrs

-- These are the verdicts on a unit under the pick of a manner.
pub record AreVerdictsOf (manner : Manner) (unit : MethodUnit) (found : UnitVerdicts) : Type 0 where
  pub verdicts : found.verdicts.items ≡ verdicts_under manner.pick unit
  pub shown : found.shown.items ≡ shown_text manner unit
  pub within : AreWithin found.verdicts.items
