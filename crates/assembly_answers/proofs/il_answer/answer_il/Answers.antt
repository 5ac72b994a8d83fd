use Rattle.std.proofs.Common.{◌≡◌, Some, refl}
use Rattle.asm_image.specs.Faults.{FirstBroken}
use Rattle.answer_lines.specs.Answers.{refused_line}
use Rattle.assembly_answers.specs.FaultText.{assembly_fault_text}
use Rattle.answer_lines.proofs.Writings.{gives_error}
use Rattle.assembly_answers.proofs.PlainFaults.{assembly_fault_plain}
use Rattle.assembly_answers.proofs.il_answer.answer_il.Goals as goal

pub answer_refused-requires : goal.answer_refused-requires
answer_refused-requires g c = rw c.assembly_fault_text.ensures (assembly_fault_plain c.in-Err-Bad.fault.cause)

pub returns-in-Err-Bad : goal.returns-in-Err-Bad
returns-in-Err-Bad g c =
    let fault = c.in-Err-Bad.fault in
    let first : FirstBroken c.args.bytes.now ≡ Some fault = (rw c.in-Err-Bad.field-0-is at c.in-Err-Bad.ensures.refused) fault refl in
    rw first
    (gives_error 5 (refused_line c.args.name.now (assembly_fault_text fault.cause) fault.at) c.answer_refused.result
    (g.O.Sink.written c.args.out.now) (g.O.Sink.puts c.args.out.now) (g.O.Sink.faults c.args.out.now) _ c.answer_refused.ensures.status
    (rw c.assembly_fault_text.ensures at c.answer_refused.ensures.written))
