use Rattle.std.proofs.Common.{◌≡◌, None, Some, refl}
use Rattle.std.proofs.lemmas.Result.{err_from_is_err_and}
use Rattle.asm_image.specs.Faults.{FirstBroken}
use Rattle.answer_lines.specs.Answers.{refused_line}
use Rattle.assembly_answers.specs.FaultText.{assembly_fault_text}
use Rattle.assembly_answers.specs.ListText.{list_text}
use Rattle.answer_lines.proofs.Writings.{gives_error, gives_output_stop}
use Rattle.assembly_answers.proofs.PlainFaults.{assembly_fault_plain}
use Rattle.assembly_answers.proofs.list_answer.answer_list.Goals as goal

pub answer_refused-requires : goal.answer_refused-requires
answer_refused-requires g c = rw c.assembly_fault_text.ensures (assembly_fault_plain c.in-Err.fault.cause)

pub returns-in-Err : goal.returns-in-Err
returns-in-Err g c =
    let fault = c.in-Err.fault in
    let first : FirstBroken c.args.bytes.now ≡ Some fault = c.in-Err.ensures.refused in
    rw first
    (gives_error 5 (refused_line c.args.name.now (assembly_fault_text fault.cause) fault.at) c.answer_refused.result
    (g.O.Sink.written c.args.out.now) (g.O.Sink.puts c.args.out.now) (g.O.Sink.faults c.args.out.now) _ c.answer_refused.ensures.status
    (rw c.assembly_fault_text.ensures at c.answer_refused.ensures.written))

pub returns-in_err-put_list-in-Ok : goal.returns-in_err-put_list-in-Ok
returns-in_err-put_list-in-Ok g c =
    let p = err_from_is_err_and c.from_residual.result c.from_residual.ensures.1 in
    let first : FirstBroken c.args.bytes.now ≡ None = c.in-Ok.ensures.accepted.0 refl in
    rw (p.1, p.2, first)
    (gives_output_stop 0 (list_text c.args.bytes.now) c.in_err-put_list-in-Ok.field-0.0 _
    (g.E.Sink.written c.args.err.now) (g.E.Sink.puts c.args.err.now) (g.E.Sink.faults c.args.err.now) (rw c.in-Ok.ensures.value at c.in_err-put_list-in-Ok.ensures))
