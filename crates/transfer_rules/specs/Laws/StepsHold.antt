-- A state that holds of a point holds, carried along, wherever the point goes through a block and along an edge.
use Rattle.std.proofs.Common.{◌≡◌, ℕ, List, [], ◌∷◌, refl}
use Rattle.std.specs.Option.{ForSome}
use Rattle.cil_model.specs.declared.instruction.Instr.{Instr}
use Rattle.cil_model.specs.declared.unit.Unit.{Unit as MethodUnit}
use Rattle.cil_model.proofs.Lists.{of_found}
use Rattle.machine_points.specs.declared.point.Point.{Point}
use Rattle.merged_states.specs.Laws.StatesHold.{normal_at}
use Rattle.state_facts.specs.Forms.{HasForm}
use Rattle.state_facts.specs.Holds.{HoldsAt}
use Rattle.state_facts.specs.StateFacts.{State}
use Rattle.transfer_rules.specs.Flow.{AreReady, along_edge, through}
use Rattle.transfer_rules.specs.Owed.{CanDo}
use Rattle.transfer_rules.specs.Post.{along, post}
use Rattle.transfer_rules.specs.Steps.{GoesBy}
use Rattle.transfer_rules.specs.Laws.PostLaws.{along_holds, post_holds}
use Rattle.unit_flow.specs.Flow.{GoesAlong, GoesThrough, IsLawful, Steps, block_instrs, edge_at}
use Rattle.unit_flow.specs.Ways.{IsShortSwitch, way_of}
use Rattle.unit_flow.specs.declared.unit_flow.UnitFlow.{UnitFlow}
use Rattle.unit_flow.proofs.KindsAlong.{step_values}
use Rattle.unit_flow.proofs.LawfulCode.{short_switches}

-- Each state on the way has the form, and so does the one at its end.
abbrev pub AreFormed : MethodUnit → ℕ → List Instr → State → Type 0
AreFormed unit number [] state = ForSome state HasForm
AreFormed unit number (i ∷ []) state = ForSome state HasForm × ForSome (along unit i.op number state) HasForm
AreFormed unit number (i ∷ j ∷ is) state = ForSome state HasForm × AreFormed unit number (j ∷ is) (post unit i.op state)

pub end_formed : (unit : MethodUnit) (number : ℕ) (is : List Instr) (state : State) → AreFormed unit number is state
    → ForSome (through unit number is state) HasForm
end_formed unit number [] state formed = formed
end_formed unit number (i ∷ []) state formed = formed.1
end_formed unit number (i ∷ j ∷ is) state formed = end_formed unit number (j ∷ is) (post unit i.op state) formed.1

module _ (code : UnitFlow) (lawful : IsLawful code) where
  pub by_step : (i : Instr) (state : State) (p q : Point) → Steps code.unit i p q → HoldsAt state p
      → GoesBy code.unit i.op state p q
  by_step i state p q step holds = record {
    instr = i;
    does = refl;
    holds = holds;
    steps = step;
    values = step_values code lawful i p q step;
  }

  pub step_holds : (i : Instr) (state : State) (p q : Point) → ForSome state HasForm → CanDo code.unit i.op state
      → Steps code.unit i p q → HoldsAt state p → HoldsAt (post code.unit i.op state) q
  step_holds i state p q form ready step holds =
      post_holds code.unit i.op state form ready p q (by_step i state p q step holds)

  pub last_holds : (i : Instr) (number : ℕ) (state : State) (p q : Point) → ForSome state HasForm
      → CanDo code.unit i.op state → Steps code.unit i p q → way_of i.op p.frame.stack ≡ number → HoldsAt state p
      → HoldsAt (along code.unit i.op number state) q
  last_holds i number state p q form ready step way holds =
      along_holds code.unit i.op number state
      (of_found (λ j. IsShortSwitch j.op) code.unit.instrs p.frame.at i (short_switches code lawful) step.to) form ready
      p q (by_step i state p q step holds) way

  pub through_holds : (number : ℕ) (is : List Instr) (state : State) (p q : Point)
      → AreFormed code.unit number is state → AreReady code.unit is state → GoesThrough code.unit number is p q
      → HoldsAt state p → HoldsAt (through code.unit number is state) q
  through_holds number [] state p q formed ready goes holds = elim goes [ ]
  through_holds number (i ∷ []) state p q formed ready goes holds =
      last_holds i number state p q formed.0 ready.0 goes.0 goes.1 holds
  through_holds number (i ∷ j ∷ is) state p q formed ready (mid, step, rest) holds =
      through_holds number (j ∷ is) (post code.unit i.op state) mid q formed.1 ready.1 rest
      (step_holds i state p mid formed.0 ready.0 step holds)

  -- Along an edge, where each state on the way has the form, and each rule may be asked of its state.
  pub along_keeps : (edge : ℕ) (state : State) (p q : Point)
      → AreFormed code.unit (edge_at code edge).number (block_instrs code (edge_at code edge).from) state
      → AreReady code.unit (block_instrs code (edge_at code edge).from) state
      → GoesAlong code edge p q → HoldsAt state p → HoldsAt (along_edge state code edge) q
  unfolding along_edge
  along_keeps edge state p q formed ready goes holds =
      let number = (edge_at code edge).number in
      let is = block_instrs code (edge_at code edge).from in
      normal_at (through code.unit number is state) q (end_formed code.unit number is state formed)
      (through_holds number is state p q formed ready goes holds)
