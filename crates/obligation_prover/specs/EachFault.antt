-- That no fault is missing among the obligations.
use Rattle.std.specs.Prelude.{◌≡◌, ℕ, ◌≤◌, true, Contains, List, [], ◌∷◌, Option}
use Rattle.std.specs.Option.{ForSome}
use Rattle.cil_model.specs.Effects.{Faults, HasEffect, effects}
use Rattle.cil_model.specs.Runs.{LocalStep}
use Rattle.cil_model.specs.Values.{Heap}
use Rattle.cil_model.specs.declared.instruction.Instr.{Instr}
use Rattle.cil_model.specs.declared.instruction.Op.{Op}
use Rattle.cil_model.specs.declared.machine.Config.TheVariants.{Live, Fault}
use Rattle.cil_model.specs.declared.machine.FaultKind.{FaultKind}
use Rattle.cil_model.specs.declared.machine.Frame.{Frame}
use Rattle.cil_model.specs.declared.machine.Obligation.{Obligation}
use Rattle.cil_model.specs.declared.unit.Unit.{Unit as MethodUnit}
use Rattle.state_facts.specs.Forms.{HasForm}
use Rattle.state_facts.specs.StateFacts.{State}
use Rattle.obligation_prover.specs.Avoiding.{avoid}
use Rattle.obligation_prover.specs.Entailed.{rules_out}
use Rattle.obligation_prover.specs.Faults.{IsAmong}
use Rattle.obligation_prover.specs.Meaning.{RulesOut}

-- An instruction of the unit with this operation ends in no other fault than these.
abbrev pub EndsInNoOther : MethodUnit → Op → List FaultKind → Type 0
EndsInNoOther unit op kinds =
    (i : Instr) (f : Frame) (heap : Heap) (kind : FaultKind) → i.op ≡ op
    → HasEffect (effects unit i f heap) (Faults kind) → IsAmong kinds kind

-- Each of these faults is ruled out in the state in which those before it are assumed not to have come.
abbrev pub AreRuledOutInTurn : MethodUnit → Op → List FaultKind → State → Type 0
AreRuledOutInTurn unit op [] state = Unit {0}
AreRuledOutInTurn unit op (kind ∷ kinds) state =
    (rules_out unit op kind state ≡ true) × AreRuledOutInTurn unit op kinds (avoid unit op kind state)

-- Where these are ruled out in turn, no instruction of the unit with this operation ends in any fault.
abbrev pub RulesOutInTurn : MethodUnit → Op → List FaultKind → Type 0
RulesOutInTurn unit op kinds =
    (state : State) → ForSome state HasForm → AreRuledOutInTurn unit op kinds state → (kind : FaultKind)
    → RulesOut unit op kind state

-- The fault is listed at this IL offset.
abbrev pub IsListed : List Obligation → FaultKind → ℕ → Type 0
IsListed listed kind at = (callee : Option ℕ) × Contains listed (record { at = at; kind = kind; callee = callee })

-- Where a step of a frame in the body of a unit ends in a fault, that fault is listed at its IL offset.
abbrev pub ListsEachFault : MethodUnit → List Obligation → Type 0
ListsEachFault unit listed =
    (f : Frame) (heap : Heap) (kind : FaultKind) (index at : ℕ) → unit.body_start ≤ f.at
    → LocalStep unit (Live (f ∷ []) heap) (Fault kind index at) → IsListed listed kind at
