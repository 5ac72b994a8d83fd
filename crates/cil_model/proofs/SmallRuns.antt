-- Small methods by themselves and the runs of them that are computed. The machine reads instructions alone, so
-- these units have no bytes of code, and no contract block for their clauses.
use Rattle.std.proofs.Common.{◌≡◌, ℕ, true, List, [], Some, codes}
use Rattle.cil_model.specs.Runs.{Step, StepsTo, entry_config}
use Rattle.cil_model.specs.Values.{Heap}
use Rattle.cil_model.specs.declared.clause.Clause.{Clause}
use Rattle.cil_model.specs.declared.instruction.Op.{Op}
use Rattle.cil_model.specs.declared.machine.Config.{Config}
use Rattle.cil_model.specs.declared.machine.Value.{Value}
use Rattle.cil_model.specs.declared.place.Place.{Place}
use Rattle.cil_model.specs.declared.unit.Unit.{Unit as MethodUnit}
use Rattle.cil_model.proofs.Laid.{method, alone}
use Rattle.cil_model.proofs.Running.{after_steps, steps_to}

abbrev pub small : Place → List Place → List Clause → List (ℕ × Op) → MethodUnit
small result args clauses code = method (codes "Demo.Calc::M") result args [] clauses 0 [] code

-- The run of the method from these arguments over this heap comes to the configuration in n steps.
abbrev pub Comes : MethodUnit → List Value → Heap → ℕ → Config → Type 0
Comes unit args heap n c = StepsTo (Step (alone unit)) (entry_config unit 0 args heap) n c

pub computed : (unit : MethodUnit) (args : List Value) (heap : Heap) (n : ℕ) (c : Config)
    → after_steps (alone unit) true (entry_config unit 0 args heap) n ≡ Some c → Comes unit args heap n c
computed unit args heap n c e = steps_to (alone unit) true (entry_config unit 0 args heap) n c e
