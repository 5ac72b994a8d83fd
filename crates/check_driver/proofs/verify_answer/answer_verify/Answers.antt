use Rattle.std.proofs.Common.{◌≡◌, [], Some, None, false, refl, ap, arith}
use Rattle.asm_image.specs.Faults.{FirstBroken}
use Rattle.cc_base.proofs.CountLemmas.{Kept-refl}
use Rattle.answer_lines.specs.Answers.{refused_line}
use Rattle.answer_lines.proofs.Writings.{gives_error, gives_no_memory}
use Rattle.assembly_answers.specs.FaultText.{assembly_fault_text}
use Rattle.assembly_answers.proofs.PlainFaults.{assembly_fault_plain}
use Rattle.unit_verdicts.specs.VerdictCache.{manner_under}
use Rattle.unit_verdicts.specs.declared.source.Source.TheVariants.{Proof as OfProof}
use Rattle.check_driver.specs.Expected.{verify_answer}
use Rattle.check_driver.proofs.SeveralFiles.{begun_none, gives_is}
use Rattle.check_driver.proofs.Statuses.{status_below}
use Rattle.check_driver.proofs.verify_answer.answer_verify.Goals as goal

-- ---- the assembly is refused

pub answer_refused-requires : goal.answer_refused-requires
answer_refused-requires g c = rw c.assembly_fault_text.ensures (assembly_fault_plain _)

pub returns-in-Err-Bad-clause-answer : goal.returns-in-Err-Bad-clause-answer
returns-in-Err-Bad-clause-answer g c =
    let fault = c.in-Err-Bad.fault in
    let first : FirstBroken c.args.bytes.now ≡ Some fault = (rw c.in-Err-Bad.field-0-is at c.in-Err-Bad.ensures.refused) fault refl in (
      None,
      tt,
      gives_is _ _ _ _ _ (ap (verify_answer c.args.name.now c.args.by.now None c.args.bytes.now) first)
          (gives_error 5 (refused_line c.args.name.now (assembly_fault_text fault.cause) fault.at) c.answer_refused.result
          (g.O.Sink.written c.args.out.now) (g.O.Sink.puts c.args.out.now) (g.O.Sink.faults c.args.out.now) _ c.answer_refused.ensures.status
          (rw (c.assembly_fault_text.ensures, c.in-Err-Bad.fault-is) at c.answer_refused.ensures.written)),
    )

pub returns-in-Err-Bad-clause-begun : goal.returns-in-Err-Bad-clause-begun
returns-in-Err-Bad-clause-begun g c = (manner_under false (OfProof []), begun_none _ _ _ _ _ refl)

pub returns-in-Err-Bad-clause-memory : goal.returns-in-Err-Bad-clause-memory
returns-in-Err-Bad-clause-memory g c = status_below 5 7 c.answer_refused.result (omega arith) c.answer_refused.ensures.status

-- ---- memory runs out

pub returns-in-Err-NoMemory-clause-answer : goal.returns-in-Err-NoMemory-clause-answer
returns-in-Err-NoMemory-clause-answer g c = (None, tt, gives_no_memory _ _ _ refl refl (Kept-refl _) (Kept-refl _))

pub returns-in-Err-NoMemory-clause-begun : goal.returns-in-Err-NoMemory-clause-begun
returns-in-Err-NoMemory-clause-begun g c = (manner_under false (OfProof []), begun_none _ _ _ _ _ refl)

-- ---- it is accepted

pub returns-in-Ok-clause-answer : goal.returns-in-Ok-clause-answer
returns-in-Ok-clause-answer g c =
    let answer = rw c.in-Ok.ensures.value.same at c.answer_by.ensures.answer in (
      answer.0,
      answer.1,
      gives_is _ _ _ _ _ (ap (verify_answer c.args.name.now c.args.by.now answer.0 c.args.bytes.now) c.in-Ok.ensures.accepted) answer.2,
    )

pub returns-in-Ok-clause-begun : goal.returns-in-Ok-clause-begun
returns-in-Ok-clause-begun g c = rw c.in-Ok.ensures.value.same at c.answer_by.ensures.begun
