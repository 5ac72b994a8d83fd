-- Units of examples, laid out by hand.
use Rattle.std.proofs.Common.{ℕ, ◌+◌, List, [], ◌∷◌}
use Rattle.cil_model.specs.declared.clause.Clause.{Clause}
use Rattle.cil_model.specs.declared.instruction.Instr.{Instr}
use Rattle.cil_model.specs.declared.instruction.Op.{Op}
use Rattle.cil_model.specs.declared.machine.World.{World}
use Rattle.cil_model.specs.declared.place.Place.{Place}
use Rattle.cil_model.specs.declared.unit.CalleeInfo.{CalleeInfo}
use Rattle.cil_model.specs.declared.unit.Unit.{Unit as MethodUnit}

-- Operations with the sizes of their spellings, as instructions from an IL offset on.
abbrev pub laid_from : ℕ → List (ℕ × Op) → List Instr
laid_from at [] = []
laid_from at ((size, op) ∷ others) = record { at = at; size = size; op = op } ∷ laid_from (at + size) others

-- A method without locals.
abbrev pub method : List ℕ → Place → List Place → List CalleeInfo → List Clause → ℕ → List ℕ → List (ℕ × Op) → MethodUnit
method name result args callees clauses body code ops = record {
  name = name;
  result = result;
  args = args;
  locals = [];
  max_stack = 8;
  callees = callees;
  code = code;
  clauses = clauses;
  body_start = body;
  instrs = laid_from 0 ops;
}

-- The world of one unit that calls nothing.
abbrev pub alone : MethodUnit → World
alone unit = record { units = unit ∷ []; callee = [] ∷ [] }
