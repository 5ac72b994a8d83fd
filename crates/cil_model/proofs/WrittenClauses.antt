-- The clauses of a unit to which none was added.
use Rattle.std.proofs.Common.{◌≡◌, List, [], map, sym, append-nil}
use Rattle.cil_model.specs.ClauseTrees.{clauses_in}
use Rattle.cil_model.specs.WellFormed.{HasClauses, told_by_code}
use Rattle.cil_model.specs.declared.clause.Clause.{Clause}
use Rattle.cil_model.specs.declared.instruction.Instr.{Instr}

pub as_written : (is : List Instr) (clauses : List Clause) → clauses_in is ≡ map told_by_code clauses → HasClauses is clauses
as_written is clauses told = record { written = clauses; added = []; all = sym (append-nil clauses); told = told; ensures = tt }
