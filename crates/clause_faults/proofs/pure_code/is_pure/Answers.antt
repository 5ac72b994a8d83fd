use Rattle.std.proofs.Common.{Option, false, ap, sym, ◌∙◌}
use Rattle.std.specs.Option.{option_map_or}
use Rattle.cil_model.specs.declared.instruction.Instr.{Instr}
use Rattle.clause_faults.specs.PureCode.{calls_with_message, is_pure_before}
use Rattle.clause_faults.proofs.WayLemmas.Lying.{next_there}
use Rattle.clause_faults.proofs.pure_code.is_pure.Goals as goal

pub returns : goal.returns
returns c =
    let next = next_there c.args.instrs.now c.args.index c.args.instr.now c.requires.lie c.requires.there in
    c.is_pure_before.ensures
    ∙ ap (λ message. is_pure_before message c.args.instr.now.op)
    (c.takes_message_at.ensures ∙ ap (λ (i : Option Instr). option_map_or (λ next. calls_with_message next.op) i false) (sym next))
