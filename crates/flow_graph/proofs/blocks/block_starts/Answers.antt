use Rattle.std.proofs.Common.{List, nat_le, subst, sym, ap, ◌∙◌}
use Rattle.std.specs.List.{All}
use Rattle.std.proofs.lemmas.Result.{IfOk-weaker}
use Rattle.cil_model.specs.declared.instruction.Instr.{Instr}
use Rattle.cil_model.specs.ShortCode.{IsOfShortCode}
use Rattle.cil_model.proofs.ShortCodes.{offsets_rise}
use Rattle.flow_graph.specs.BlocksOf.{starts_among}
use Rattle.flow_graph.proofs.Lying.{all_by_index, all_passing}
use Rattle.flow_graph.proofs.Marks.{blocks_by_numbers}
use Rattle.flow_graph.proofs.blocks.block_starts.Goals as goal

pub from_offset-body-requires : goal.from_offset-body-requires
from_offset-body-requires c = offsets_rise c.args.instrs.now c.requires

pub start_offsets-requires : goal.start_offsets-requires
start_offsets-requires c =
    let start = c.args.body_start in
    subst (λ (is : List Instr). All IsOfShortCode is) (sym c.from_offset-body.ensures)
    (all_by_index IsOfShortCode _ (all_passing IsOfShortCode (λ i. nat_le start i.at) c.args.instrs.now c.requires.each))

pub returns : goal.returns
returns c =
    IfOk-weaker c.offsets_among.result _ _
    (λ offsets are. are ∙ blocks_by_numbers c.args.body_start _ _ _ _ c.in_ok-start_offsets.ensures c.sorted-offsets.ensures.same
    c.as_slice.ensures.value ∙ ap (starts_among c.args.body_start) c.from_offset-body.ensures)
    c.offsets_among.ensures
