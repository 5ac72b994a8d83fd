use Rattle.std.proofs.Common.{rules, ◌≡◌, length, get_or, ap, ◌∙◌}
use Rattle.std.proofs.Math.Seq.{take-append_seam}
use Rattle.cil_model.specs.declared.instruction.Op.{Op}
use Rattle.method_code.specs.Numbering.{numbered_instr}
use Rattle.method_code.proofs.NumberedItems.{all_changed, change_item}
use Rattle.method_code.proofs.numbers.number_code.Goals as goal

pub loop-instr-preserved : goal.loop-instr-preserved
loop-instr-preserved g c =
    let old = get_or c.loop-instr.instr-items c.loop-instr.instr-index c.instr-item.result in
    change_item (numbered_instr (g.T.Tokens.meaning c.args.tokens.now) c.args.callees.now) c.loop-instr.instr-index c.loop-instr.instr-items c.args.instrs.now.items c.instr-item.result _
    c.loop-instr.invariant (search rules) (ap (λ (op : Op). record { at = old.at; size = old.size; op = op }) c.number_op.ensures)

pub returns : goal.returns
returns g c =
    let f = numbered_instr (g.T.Tokens.meaning c.args.tokens.now) c.args.callees.now in
    let long : c.args.instrs.now.len ≡ length c.loop-instr.instr-items = search rules in
    let last : c.loop-instr.instr-index ≡ length c.args.instrs.now.items = search rules in
    rw long (take-append_seam c.loop-instr.instr-items _) ∙ c.loop-instr.invariant ∙ rw last (all_changed f c.args.instrs.now.items)
