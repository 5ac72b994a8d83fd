-- What is spelled one after another lies so.
use Rattle.std.proofs.Common.{ℕ, ◌+◌, List, [], ◌∷◌, arith}
use Rattle.cil_model.specs.Code.{CodeFrom, CodeOf}
use Rattle.cil_model.specs.declared.instruction.Instr.{Instr}
use Rattle.cil_model.proofs.Forms.{spelling_some}
use Rattle.cil_model.specs.Offsets.{LieFrom, AreLaidOut}

lie_from : (at : ℕ) (is : List Instr) (code : List ℕ) → CodeFrom at is code → LieFrom at is
lie_from at [] code spelled = tt
lie_from at (i ∷ is) code (place, (bytes, rest, spells, there, behind)) =
    (place, omega (arith, spells.size, spelling_some i bytes spells), lie_from (at + i.size) is rest behind)

pub code_lies : (is : List Instr) (code : List ℕ) → CodeOf is code → AreLaidOut is
code_lies is code spelled = record { lie = lie_from 0 is code spelled.spelled }
