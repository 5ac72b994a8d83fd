use Rattle.std.proofs.Common.{[], Some, None, if◌then◌else◌, false, refl, ap, arith}
use Rattle.std.proofs.lemmas.Result.{err_from_is_err_and}
use Rattle.cc_base.proofs.CountLemmas.{Kept-refl}
use Rattle.answer_lines.specs.Answers.{refused_line}
use Rattle.answer_lines.proofs.Writings.{gives_error, gives_no_memory, gives_output}
use Rattle.proof_files.specs.Held.{entries_told}
use Rattle.proof_files.specs.Reading.{Refused, Whole}
use Rattle.unit_builder.specs.Outcomes.{entries_of}
use Rattle.unit_verdicts.specs.Picks.{pick_from}
use Rattle.unit_verdicts.specs.VerdictCache.{CachedUnits, manner_under}
use Rattle.unit_verdicts.specs.declared.source.Source.TheVariants.{Proof as OfProof}
use Rattle.assembly_reports.specs.JudgedUnits.{judged_keys}
use Rattle.assembly_reports.specs.CheckText.{all_methods_proved, check_text}
use Rattle.check_driver.specs.ProofText.{proof_fault_at, proof_fault_text}
use Rattle.assembly_reports.proofs.Judging.{asks_by_proof}
use Rattle.check_driver.proofs.SeveralFiles.{begun_none}
use Rattle.check_driver.proofs.Statuses.{status_below}
use Rattle.check_driver.proofs.VerifyParts.{begun_written, few_memory, proof_fault_plain}
use Rattle.check_driver.proofs.verify_answer.answer_by.Goals as goal

-- ---- the proof file is refused

pub answer_refused-requires : goal.answer_refused-requires
answer_refused-requires g c = rw c.proof_fault_text-text.ensures (proof_fault_plain _)

pub returns-in-Err-Bad-clause-answer : goal.returns-in-Err-Bad-clause-answer
returns-in-Err-Bad-clause-answer g c =
    let fault = c.in-Err-Bad.fault in (
      Some (Refused fault),
      rw c.in-Err-Bad.field-0-is at c.in-Err-Bad.ensures.err,
      gives_error 5 (refused_line c.args.by.now (proof_fault_text fault) (proof_fault_at fault)) c.answer_refused.result
          (g.O.Sink.written c.args.out.now) (g.O.Sink.puts c.args.out.now) (g.O.Sink.faults c.args.out.now) _ c.answer_refused.ensures.status
          (rw (c.proof_fault_text-text.ensures, c.proof_fault_at.ensures, c.in-Err-Bad.fault-is) at c.answer_refused.ensures.written),
    )

pub returns-in-Err-Bad-clause-begun : goal.returns-in-Err-Bad-clause-begun
returns-in-Err-Bad-clause-begun g c = (manner_under false (OfProof []), begun_none _ _ _ _ _ refl)

pub returns-in-Err-Bad-clause-memory : goal.returns-in-Err-Bad-clause-memory
returns-in-Err-Bad-clause-memory g c = status_below 5 7 c.answer_refused.result (omega arith) c.answer_refused.ensures.status

-- ---- memory runs out

pub returns-in-Err-NoMemory-clause-answer : goal.returns-in-Err-NoMemory-clause-answer
returns-in-Err-NoMemory-clause-answer g c = (None, tt, gives_no_memory _ _ _ refl refl (Kept-refl _) (Kept-refl _))

pub returns-in-Err-NoMemory-clause-begun : goal.returns-in-Err-NoMemory-clause-begun
returns-in-Err-NoMemory-clause-begun g c = (manner_under false (OfProof []), begun_none _ _ _ _ _ refl)

pub returns-in_err-units-in-Ok-clause-answer : goal.returns-in_err-units-in-Ok-clause-answer
returns-in_err-units-in-Ok-clause-answer g c =
    let p = err_from_is_err_and c.from_residual.result c.from_residual.ensures.1 in
    (None, tt, rw (p.1, p.2) (gives_no_memory _ _ _ refl refl (Kept-refl _) (Kept-refl _)))

pub returns-in_err-units-in-Ok-clause-begun : goal.returns-in_err-units-in-Ok-clause-begun
returns-in_err-units-in-Ok-clause-begun g c = (manner_under false (OfProof []), begun_none _ _ _ _ _ refl)

-- ---- the report

pub answer_assembly-requires : goal.answer_assembly-requires
answer_assembly-requires g c = record { keeps = λ never. absurd cc }

pub returns-in_ok-units-in-Ok-clause-answer : goal.returns-in_ok-units-in-Ok-clause-answer
returns-in_ok-units-in-Ok-clause-answer g c =
    let entries = entries_told c.in-Ok.entries.items in
    let units = c.in_ok-units-in-Ok.ensures in (
      Some (Whole entries),
      c.in-Ok.ensures.ok,
      gives_output (if all_methods_proved false (pick_from (OfProof entries)) c.args.assembly.now then 0 else 1) (check_text false c.args.name.now (manner_under false (OfProof entries)) c.args.assembly.now)
          c.answer_assembly.result _ (g.E.Sink.written c.args.err.now) (g.E.Sink.puts c.args.err.now) (g.E.Sink.faults c.args.err.now)
          (rw units at c.answer_assembly.ensures.status) (rw units at c.answer_assembly.ensures.written),
    )

pub returns-in_ok-units-in-Ok-clause-begun : goal.returns-in_ok-units-in-Ok-clause-begun
returns-in_ok-units-in-Ok-clause-begun g c =
    (_, begun_written c.answer_assembly.result _ c.args.name.now c.args.assembly.now _ c.answer_assembly.ensures.written c.answer_assembly.ensures.reportable)

pub returns-in_ok-units-in-Ok-clause-memory : goal.returns-in_ok-units-in-Ok-clause-memory
returns-in_ok-units-in-Ok-clause-memory g c = few_memory _ c.answer_assembly.result c.answer_assembly.ensures.status

pub returns-in_ok-units-in-Ok-clause-asked : goal.returns-in_ok-units-in-Ok-clause-asked
returns-in_ok-units-in-Ok-clause-asked g c =
    asks_by_proof c.in_ok-units-in-Ok.units (entries_told c.in-Ok.entries.items) (judged_keys (entries_of c.args.assembly.now)) c.answer_assembly.result _ _
    (ap (λ (units : CachedUnits). units.held) c.in_ok-units-in-Ok.ensures) c.answer_assembly.ensures.asked
