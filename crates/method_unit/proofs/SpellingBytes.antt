-- A unit is spelled in bytes.
use Rattle.std.proofs.Common.{ℕ, ◌+◌, List, [], ◌∷◌}
use Rattle.cc_base.proofs.ByteLemmas.{IsBytes-append, IsBytes-nil}
use Rattle.cc_base.specs.LittleEndian.{IsBytes}
use Rattle.cil_model.proofs.Forms.{spelling_bytes}
use Rattle.cil_model.specs.Code.{CodeFrom}
use Rattle.cil_model.specs.declared.instruction.Instr.{Instr}
use Rattle.cil_model.specs.declared.unit.Unit.{Unit as MethodUnit}
use Rattle.unit_form.proofs.SpellingBytes.{unit_fits}
use Rattle.unit_form.specs.Spelling.{unit_bytes}
use Rattle.method_unit.proofs.UnitAgain.{unit_has_fields}
use Rattle.method_unit.specs.Units.{IsUnit}

pub code_fits : (at : ℕ) (is : List Instr) (code : List ℕ) → CodeFrom at is code → IsBytes code
code_fits at [] code spelled = rw spelled IsBytes-nil
code_fits at (i ∷ is) code (place, (bytes, rest, spells, whole, behind)) =
    rw whole (IsBytes-append bytes rest (spelling_bytes i bytes spells) (code_fits (at + i.size) is rest behind))

pub spelling_is_bytes : (unit : MethodUnit) → IsUnit unit → IsBytes (unit_bytes unit)
spelling_is_bytes unit is = unit_fits unit (unit_has_fields unit is.well_formed) (code_fits 0 unit.instrs unit.code is.well_formed.code.spelled)
