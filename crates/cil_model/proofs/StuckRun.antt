-- Configurations that have no row are not defined: a pop of nothing, and a call of Result in a body, which no unit has
-- that can run.
use Rattle.std.proofs.Common.{[], ◌∷◌, sym, subst, arith}
use Rattle.std.proofs.lemmas.Option.{same_Some}
use Rattle.cil_model.specs.Bodies.{CanRun}
use Rattle.cil_model.specs.Calls.{FreeCall}
use Rattle.cil_model.specs.Runs.{IsDefined, LocalStep, Row}
use Rattle.cil_model.specs.declared.instruction.Instr.{Instr}
use Rattle.cil_model.specs.UnitCalls.{unit_call}
use Rattle.cil_model.specs.declared.instruction.Op.TheVariants.{Call, Pop, Return}
use Rattle.cil_model.specs.declared.machine.Config.{Config}
use Rattle.cil_model.specs.declared.machine.Config.TheVariants.{Live}
use Rattle.cil_model.specs.declared.machine.Frame.{Frame}
use Rattle.cil_model.specs.declared.place.Place.TheVariants.{Int, Void}
use Rattle.cil_model.specs.declared.unit.Unit.{Unit as MethodUnit}
use Rattle.cil_model.proofs.SmallRuns.{small}

abbrev pops : MethodUnit
pops = small Void [] [] ((1, Pop) ∷ [])

abbrev frame : Frame
frame = record { unit = 0; at = 0; stack = []; locals = []; args = []; entry_args = []; entry_heap = [] }

no_step : (new : Config) → LocalStep pops (Live (frame ∷ []) []) new → ⊥
no_step new (i, found, row) =
    let pop : Instr = record { at = 0; size = 1; op = Pop } in
    let (effect, has, to) = subst (λ (j : Instr). Row (FreeCall pops) j.op [] pops j frame [] new) (sym (same_Some pop i found)) row in has

pub pop_of_nothing_is_undefined : IsDefined (LocalStep pops) (Live (frame ∷ []) []) → ⊥
pop_of_nothing_is_undefined (new, step) = no_step new step

-- int M() { return Contract.Result<int>(); }
abbrev asks : MethodUnit
asks = small Int [] [] ((5, Call 12) ∷ (1, Return) ∷ [])

no_row : (new : Config) → LocalStep asks (Live (frame ∷ []) []) new → ⊥
unfolding unit_call
no_row new (i, found, row) =
    let result : Instr = record { at = 0; size = 5; op = Call 12 } in
    let (effect, has, to) = subst (λ (j : Instr). Row (FreeCall asks) j.op [] asks j frame [] new) (sym (same_Some result i found)) row in has

pub result_in_a_body_is_undefined : IsDefined (LocalStep asks) (Live (frame ∷ []) []) → ⊥
result_in_a_body_is_undefined (new, step) = no_row new step

pub result_in_a_body_cannot_run : CanRun asks → ⊥
unfolding unit_call
result_in_a_body_cannot_run runs = absurd (let executed = runs.body.executed.0 (omega arith) in cc)
