use Rattle.std.proofs.Common.{◌≡◌, ◌++◌, false, List, append-nil, ap, sym, ◌∙◌}
use Rattle.std.specs.List.{list_any}
use Rattle.cil_model.specs.declared.instruction.Instr.{Instr}
use Rattle.invariant_checker.proofs.Judgeable.{block_judged}
use Rattle.state_facts.specs.StateFacts.{State}
use Rattle.unit_flow.specs.Flow.{block_instrs}
use Rattle.ensures_infer.specs.Returns.{is_return}
use Rattle.ensures_infer.proofs.Returning.{none_returns}
use Rattle.ensures_infer.proofs.returns.push_block.Goals as goal

pub returns-then-not-has_return : goal.returns-then-not-has_return
returns-then-not-has_return c =
    let code = c.args.code.now in
    let found = c.args.found.now.items in
    let is = block_instrs code c.args.block in
    let none : list_any (λ i. is_return i.op) is ≡ false =
    ap (λ (js : List Instr). list_any (λ i. is_return i.op) js) (sym c.block-instrs.ensures)
    ∙ (sym c.has_return.ensures ∙ c.if-not-has_return.true) in
    sym (append-nil found)
    ∙ ap (λ (states : List State). found ++ states) (sym (none_returns code.unit is c.args.state.now none))

pub push_each-requires-clause-ready : goal.push_each-requires-clause-ready
push_each-requires-clause-ready c =
    rw (c.block-instrs.ensures, c.in_ok-before.ensures)
    (block_judged c.args.code.now c.requires.lawful c.args.block c.args.state.now c.requires.there c.requires.fits)
