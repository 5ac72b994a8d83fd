use Rattle.std.proofs.Common.{nat_le, get_or}
use Rattle.std.proofs.lemmas.List.Kept.{IsNonDecreasingBy-filter}
use Rattle.unit_flow.proofs.Slicing.{inner_block, instrs_rise, last_block}
use Rattle.unit_flow.proofs.unit_flow.UnitFlow.block.Goals as goal

pub from_offset-rest-requires : goal.from_offset-rest-requires
from_offset-rest-requires c = instrs_rise c.args.self.now c.as_slice.result.now c.as_slice.ensures c.requires.lawful

pub before_offset-requires : goal.before_offset-requires
before_offset-requires c = rw c.from_offset-rest.ensures
    (IsNonDecreasingBy-filter (λ i. i.at) (λ i. nat_le
    (get_or c.as_slice-blocks.result.now c.args.block 0) i.at) c.as_slice.result.now
    (instrs_rise c.args.self.now c.as_slice.result.now c.as_slice.ensures c.requires.lawful))

pub returns-then-next-blocks : goal.returns-then-next-blocks
returns-then-next-blocks c = rw (c.before_offset.ensures, c.from_offset-rest.ensures)
    (inner_block c.args.self.now c.args.block c.as_slice-blocks.result.now c.as_slice.result.now
    c.as_slice-blocks.ensures c.as_slice.ensures c.if-next-blocks.true)

pub returns-else-next-blocks : goal.returns-else-next-blocks
returns-else-next-blocks c = rw c.from_offset-rest.ensures
    (last_block c.args.self.now c.args.block c.as_slice-blocks.result.now c.as_slice.result.now
    c.as_slice-blocks.ensures c.as_slice.ensures c.if-next-blocks.false)
