-- Why a unit with callees is not said to be safe in every world: its entry of a callee asks for nothing, and the world
-- has a method there that requires what is false.
use Rattle.std.proofs.Common.{◌≡◌, true, pos, [], ◌∷◌, Some, codes, refl}
use Rattle.std.specs.Int.{int_wrap}
use Rattle.cil_model.specs.Clauses.{value_of}
use Rattle.cil_model.specs.Runs.{Runs, Safe, entry_config}
use Rattle.cil_model.specs.Terms as terms
use Rattle.cil_model.specs.UnitCalls.{unit_call}
use Rattle.cil_model.specs.declared.clause.ClauseKind.TheVariants.{Requires as RequiresClause}
use Rattle.cil_model.specs.declared.instruction.Op.TheVariants as ops
use Rattle.cil_model.specs.declared.machine.Config.{Config}
use Rattle.cil_model.specs.declared.machine.Config.TheVariants as configs
use Rattle.cil_model.specs.declared.machine.FaultKind.TheVariants.{Requires}
use Rattle.cil_model.specs.declared.machine.World.{World}
use Rattle.cil_model.specs.declared.place.Place.TheVariants as places
use Rattle.cil_model.specs.declared.unit.Unit.{Unit as MethodUnit}
use Rattle.cil_model.proofs.Running.{after_steps, steps_to}

-- void H() { K(); }
abbrev calls : MethodUnit
calls = record {
  name = codes "T::h";
  result = places.Void;
  args = [];
  locals = [];
  max_stack = 0;
  callees = record { name = codes "T::k"; result = places.Void; args = []; clauses = [] } ∷ [];
  code = 0x28 ∷ 100 ∷ 0 ∷ 0 ∷ 0 ∷ 0x2a ∷ [];
  clauses = [];
  body_start = 0;
  instrs = record { at = 0; size = 5; op = ops.Call 100 } ∷ record { at = 5; size = 1; op = ops.Return } ∷ [];
}

-- A method with another contract than the entry tells.
abbrev strict : MethodUnit
strict = record {
  name = codes "T::k";
  result = places.Void;
  args = [];
  locals = [];
  max_stack = 1;
  callees = [];
  code = 0x16 ∷ 0x28 ∷ 1 ∷ 0 ∷ 0 ∷ 0 ∷ 0x2a ∷ [];
  clauses = record { kind = RequiresClause; tree = terms.Const (pos 0) } ∷ [];
  body_start = 6;
  instrs = record { at = 0; size = 1; op = ops.Const (pos 0) } ∷ record { at = 1; size = 5; op = ops.Call 1 }
      ∷ record { at = 6; size = 1; op = ops.Return } ∷ [];
}

abbrev world : World
world = record { units = calls ∷ strict ∷ []; callee = (1 ∷ []) ∷ [] ∷ [] }

abbrev fault : Config
fault = configs.Fault (Requires 1) 0 0

faults_at_once : after_steps world true (entry_config calls 0 [] []) 1 ≡ Some fault
unfolding unit_call value_of int_wrap
faults_at_once = refl

pub callees_count : Safe world 0 → ⊥
callees_count safe =
    let runs : Runs world 0 [] [] 1 fault = record {
      unit = calls;
      unit_is = refl;
      begins = record { heap_is = tt; fit = tt; required = refl };
      steps = steps_to world true (entry_config calls 0 [] []) 1 fault faults_at_once;
    } in (safe [] [] 1 fault runs).0
