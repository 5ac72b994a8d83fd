use Rattle.std.proofs.Common.{◌≡◌, Some, inr}
use Rattle.answer_lines.specs.Answers.{refused_line}
use Rattle.assembly_answers.specs.FaultText.{unit_fault_text}
use Rattle.unit_form.specs.Faults.{fault_at}
use Rattle.method_unit.specs.UnitFile.{first_unit_fault}
use Rattle.answer_lines.proofs.Writings.{gives_error}
use Rattle.check_driver.proofs.SpelledUnits.{are_spelled}
use Rattle.assembly_answers.proofs.PlainFaults.{unit_fault_plain}
use Rattle.check_driver.proofs.unit_answer.answer_unit.Goals as goal

pub answer_refused-requires : goal.answer_refused-requires
answer_refused-requires g c = rw c.unit_fault_text.ensures (unit_fault_plain c.in-Err-Bad.fault)

pub returns-in-Err-Bad-clause-answer : goal.returns-in-Err-Bad-clause-answer
returns-in-Err-Bad-clause-answer g c =
    let fault = c.in-Err-Bad.fault in
    let first : first_unit_fault c.args.bytes.now ≡ Some fault = rw c.in-Err-Bad.field-0-is at c.in-Err-Bad.ensures.judged in
    rw first
    (gives_error 5 (refused_line c.args.name.now (unit_fault_text fault) (fault_at fault)) c.answer_refused.result
    (g.O.Sink.written c.args.out.now) (g.O.Sink.puts c.args.out.now) (g.O.Sink.faults c.args.out.now) _ c.answer_refused.ensures.status
    (rw (c.unit_fault_text.ensures, c.at.ensures) at c.answer_refused.ensures.written))

pub returns-in_err-proved-in-Ok-clause-spelled : goal.returns-in_err-proved-in-Ok-clause-spelled
returns-in_err-proved-in-Ok-clause-spelled g c =
    inr (are_spelled c.args.bytes.now c.in-Ok.unit c.requires c.in-Ok.ensures.spelled c.in-Ok.ensures.judged.1 c.in-Ok.ensures.unit)

pub returns-in_ok-proved-in-Ok-clause-spelled : goal.returns-in_ok-proved-in-Ok-clause-spelled
returns-in_ok-proved-in-Ok-clause-spelled g c =
    inr (are_spelled c.args.bytes.now c.in-Ok.unit c.requires c.in-Ok.ensures.spelled c.in-Ok.ensures.judged.1 c.in-Ok.ensures.unit)
