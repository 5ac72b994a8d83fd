use Rattle.std.proofs.Common.{◌∙◌}
use Rattle.method_unit.proofs.Places.{blocks_within, few_blocks}
use Rattle.method_unit.proofs.unit_clauses.check_blocks.Goals as goal

pub check_starts-requires : goal.check_starts-requires
check_starts-requires c =
    blocks_within c.args.base c.args.instrs.now c.args.body_start _ c.requires.small c.requires.inside (c.deref.ensures.value ∙ c.in_ok-starts.ensures)

pub returns-then-instrs-le-MAX_BLOCKS : goal.returns-then-instrs-le-MAX_BLOCKS
returns-then-instrs-le-MAX_BLOCKS c = (few_blocks c.args.base c.args.instrs.now c.if-instrs-le-MAX_BLOCKS.true, tt)
