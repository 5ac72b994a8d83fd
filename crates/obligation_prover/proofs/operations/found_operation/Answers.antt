use Rattle.std.proofs.Common.{ap, ◌∙◌}
use Rattle.std.specs.Option.{option_and_then}
use Rattle.obligation_prover.specs.Operations.{array_of, binary_of, call_operation, element_of, length_of}
use Rattle.obligation_prover.proofs.Reading.{address_read, array_read, binary_read, both_read, call_read, length_read, load_read, store_read, top_in}
use Rattle.obligation_prover.proofs.operations.found_operation.Goals as goal

pub returns-in-Length : goal.returns-in-Length
returns-in-Length c = c.length_of.ensures ∙ ap length_of c.from_top.ensures.value ∙ length_read c.args.op.now c.args.state.now c.in-Length.is

pub returns-in-LoadElem : goal.returns-in-LoadElem
returns-in-LoadElem c =
    both_read element_of c.element_of.result c.from_top-in-LoadElem.result c.from_top-in-LoadElem-2.result (top_in c.args.state.now 1) (top_in c.args.state.now 0)
    c.element_of.ensures c.from_top-in-LoadElem.ensures.value c.from_top-in-LoadElem-2.ensures.value
    ∙ load_read c.args.op.now c.in-LoadElem.field-0 c.args.state.now c.in-LoadElem.is

pub returns-in-StoreElem : goal.returns-in-StoreElem
returns-in-StoreElem c =
    both_read element_of c.element_of-in-StoreElem.result c.from_top-in-StoreElem.result c.from_top-in-StoreElem-2.result (top_in c.args.state.now 2)
    (top_in c.args.state.now 1) c.element_of-in-StoreElem.ensures c.from_top-in-StoreElem.ensures.value c.from_top-in-StoreElem-2.ensures.value
    ∙ store_read c.args.op.now c.in-StoreElem.field-0 c.args.state.now c.in-StoreElem.is

pub returns-in-LoadAddr : goal.returns-in-LoadAddr
returns-in-LoadAddr c =
    both_read element_of c.element_of-in-LoadAddr.result c.from_top-in-LoadAddr.result c.from_top-in-LoadAddr-2.result
    (top_in c.args.state.now 1) (top_in c.args.state.now 0) c.element_of-in-LoadAddr.ensures
    c.from_top-in-LoadAddr.ensures.value c.from_top-in-LoadAddr-2.ensures.value
    ∙ address_read c.args.op.now c.in-LoadAddr.field-0 c.args.state.now c.in-LoadAddr.is

pub returns-in-NewArray : goal.returns-in-NewArray
returns-in-NewArray c =
    c.array_of.ensures ∙ ap array_of c.from_top-in-NewArray.ensures.value ∙ array_read c.args.op.now c.in-NewArray.field-0 c.args.state.now c.in-NewArray.is

pub returns-in-Bin : goal.returns-in-Bin
returns-in-Bin c =
    both_read (binary_of c.in-Bin.op) c.binary_of.result c.from_top-in-Bin.result c.from_top-in-Bin-2.result (top_in c.args.state.now 1)
    (top_in c.args.state.now 0) c.binary_of.ensures c.from_top-in-Bin.ensures.value c.from_top-in-Bin-2.ensures.value
    ∙ binary_read c.args.op.now c.in-Bin.op c.args.state.now c.in-Bin.is

pub returns-in-Call : goal.returns-in-Call
returns-in-Call c =
    c.call_operation.ensures ∙ ap (λ call. option_and_then (call_operation call) c.args.state.now) c.unit_call.ensures
    ∙ call_read c.args.op.now c.in-Call.number c.args.state.now c.in-Call.is
