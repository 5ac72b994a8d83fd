-- Where two of an instruction's ways conflict at once, the lower one is named.
use Rattle.std.proofs.Common.{pos, [], ◌∷◌, refl}
use Rattle.cil_model.specs.Passes.{HasTypeFault}
use Rattle.cil_model.specs.Shapes.{shape_of}
use Rattle.cil_model.specs.declared.instruction.Op.TheVariants.{Const, Branch, Return}
use Rattle.cil_model.specs.declared.instruction.Test.TheVariants.{True}
use Rattle.cil_model.specs.declared.place.Place.TheVariants as places
use Rattle.cil_model.specs.declared.type_fault.TypeFault.TheVariants.{Conflict}
use Rattle.cil_model.specs.declared.unit.Unit.{Unit as MethodUnit}
use Rattle.cil_model.proofs.SmallRuns.{small}

-- The branch at 8 brings a number to 11 and to 10, to which those at 4 and at 1 brought none.
abbrev forward : MethodUnit
forward =
    small places.Void [] []
    ((1, Const (pos 0)) ∷ (2, Branch True 10) ∷ (1, Const (pos 0)) ∷ (2, Branch True 11) ∷ (1, Const (pos 0)) ∷ (1, Const (pos 0)) ∷ (2, Branch True 11)
    ∷ (1, Return) ∷ (1, Return) ∷ [])

next_is_lower : HasTypeFault (shape_of forward) forward.instrs (Conflict 10)
next_is_lower = record { passes = 1; met = refl }

-- The branch at 5 brings a number to 0 and to 7, to which none was brought.
abbrev backward : MethodUnit
backward =
    small places.Void [] []
    ((1, Const (pos 0)) ∷ (2, Branch True 7) ∷ (1, Const (pos 0)) ∷ (1, Const (pos 0)) ∷ (2, Branch True 0) ∷ (1, Return) ∷ [])

target_is_lower : HasTypeFault (shape_of backward) backward.instrs (Conflict 0)
target_is_lower = record { passes = 1; met = refl }
