-- The parts of an answer by a proof file.
use Rattle.std.proofs.Common.{◌≡◌, ◌≢◌, ℕ, Bool, true, false, List, [], ◌∷◌, Result, Ok, Err, if◌then◌else◌, refl, arith}
use Rattle.std.specs.Prelude.{IfOk}
use Rattle.cc_base.proofs.SinkLemmas.{AppendsPrefix-all}
use Rattle.answer_lines.specs.LineCounts.{line_count}
use Rattle.answer_lines.specs.Writing.{Change, Writes}
use Rattle.answer_lines.specs.declared.interrupt.Interrupt.{Interrupt}
use Rattle.proof_files.specs.declared.proof_fault.ProofFault.{ProofFault}
use Rattle.proof_files.specs.declared.proof_fault.ProofFault.TheVariants as faults
use Rattle.unit_verdicts.specs.Picks.{Manner}
use Rattle.assembly_reports.specs.CheckText.{check_text}
use Rattle.check_driver.specs.Checked.{AreBegun}
use Rattle.assembly_reports.specs.Reportable.{IsReportable}
use Rattle.check_driver.specs.NothingOr.{NothingOr}
use Rattle.check_driver.specs.ProofText.{proof_fault_text}
use Rattle.check_driver.proofs.SeveralFiles.{begun_first}

-- The words for a fault of a proof file are no line.
pub proof_fault_plain : (fault : ProofFault) → line_count (proof_fault_text fault) ≡ 0
unfolding line_count
proof_fault_plain faults.Version = refl
proof_fault_plain (faults.Form at) = refl
proof_fault_plain faults.Large = refl

-- A report that was written, whole or in part, was begun.
pub begun_written : {X : Type 0} (r : Result X Interrupt) (manner : Manner) (name bytes : List ℕ) (out : Change) → Writes r out (check_text false name manner bytes)
    → NothingOr out.old out.new (IsReportable bytes) → AreBegun false manner ((name, bytes) ∷ []) out.old out.new
begun_written (Ok x) manner name bytes out w known = begun_first false manner name bytes [] out.old out.new known (AppendsPrefix-all out.old out.new (check_text false name manner bytes) w.whole)
begun_written (Err i) manner name bytes out w known = begun_first false manner name bytes [] out.old out.new known w.prefix

-- The status of a report does not tell that memory ran out.
few_of : (proved : Bool) (status : ℕ) → status ≡ (if proved then 0 else 1) → status ≢ 7
few_of true status is = λ e. omega (arith, is, e)
few_of false status is = λ e. omega (arith, is, e)

pub few_memory : (proved : Bool) (r : Result ℕ Interrupt) → IfOk r (λ status. status ≡ (if proved then 0 else 1)) → IfOk r (λ status. status ≢ 7)
few_memory proved (Ok status) is = few_of proved status is
few_memory proved (Err i) is = tt
