-- What an answer says that the tests of a unit file judge.
use Rattle.std.proofs.Common.{◌≡◌, ℕ, List, Result, Ok, Err, sym, ◌∙◌}
use Rattle.std.proofs.lemmas.Option.{none-some}
use Rattle.cc_base.specs.LittleEndian.{IsBytes}
use Rattle.cc_base.specs.Tests.{GivesOnly, JudgesOrNoMemory}
use Rattle.cc_base.specs.declared.refusal.Refusal.{Refusal}
use Rattle.cc_base.specs.declared.refusal.Refusal.TheVariants.{Bad, NoMemory}
use Rattle.cil_model.specs.declared.unit.Unit.{Unit as MethodUnit}
use Rattle.unit_form.specs.Spelling.{IsSpelledBy}
use Rattle.method_unit.specs.UnitFile.{first_unit_fault}
use Rattle.method_unit.specs.UnitOf.{IsRead, IsUnitIn}
use Rattle.method_unit.specs.Units.{IsUnit}
use Rattle.unit_form.specs.declared.unit_fault.UnitFault.{UnitFault}
use Rattle.method_unit.proofs.UnitAgain.{spelled_again}
use Rattle.method_unit.proofs.UnitTaken.{unit_read}

-- What is read is what the bytes spell.
pub known : (bytes : List ℕ) (answer : Result MethodUnit (Refusal UnitFault)) → IsBytes bytes
    → JudgesOrNoMemory answer (first_unit_fault bytes) (IsUnitIn bytes) → JudgesOrNoMemory answer (first_unit_fault bytes) (IsRead bytes)
known bytes (Ok unit) fits judged = (judged.0, unit_read bytes unit fits judged.0 judged.1)
known bytes (Err (Bad fault)) fits judged = judged
known bytes (Err NoMemory) fits judged = tt

-- A unit that the bytes spell is what is read.
pub only_read : (bytes : List ℕ) (answer : Result MethodUnit (Refusal UnitFault)) → JudgesOrNoMemory answer (first_unit_fault bytes) (IsRead bytes)
    → (unit : MethodUnit) → IsUnit unit → IsSpelledBy unit bytes → GivesOnly answer (λ found. found ≡ unit)
only_read bytes (Ok found) judged unit is spelled = judged.1.same ∙ (spelled_again bytes unit is spelled).1
only_read bytes (Err (Bad fault)) judged unit is spelled = none-some fault (sym (spelled_again bytes unit is spelled).0 ∙ judged)
only_read bytes (Err NoMemory) judged unit is spelled = tt
