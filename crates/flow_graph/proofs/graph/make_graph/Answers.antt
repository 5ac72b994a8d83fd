use Rattle.std.proofs.Common.{List, ℕ, length, ap, subst, sym, arith, ◌∙◌}
use Rattle.std.specs.List.{All}
use Rattle.std.specs.List.Sorted.{IsStrictlyIncreasing}
use Rattle.cil_model.specs.declared.instruction.Instr.{Instr}
use Rattle.cil_model.specs.ShortCode.{IsOfShortCode}
use Rattle.flow_graph.proofs.Lying.{blocks_increase, body_short, few_blocks}
use Rattle.cil_model.proofs.ShortCodes.{offsets_rise}
use Rattle.flow_graph.proofs.graph.make_graph.Goals as goal

pub body-body-requires : goal.body-body-requires
body-body-requires c = offsets_rise c.args.unit.now.instrs c.requires

pub edges-requires-clause-rise : goal.edges-requires-clause-rise
edges-requires-clause-rise c =
    subst (λ (starts : List ℕ). IsStrictlyIncreasing starts) (sym (c.as_slice.ensures.value ∙ c.in_ok-blocks.ensures))
    (blocks_increase c.args.unit.now c.requires)

pub edges-requires-clause-short : goal.edges-requires-clause-short
edges-requires-clause-short c = subst (λ (is : List Instr). All IsOfShortCode is) (sym c.body-body.ensures) (body_short c.args.unit.now c.requires)

pub overflow_cast-len : goal.overflow_cast-len
overflow_cast-len c =
    omega (arith, few_blocks c.args.unit.now c.requires, c.len.ensures, c.as_slice.ensures.len, ap length (c.as_slice.ensures.value ∙ c.in_ok-blocks.ensures))
