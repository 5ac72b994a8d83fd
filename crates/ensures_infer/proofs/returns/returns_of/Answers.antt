use Rattle.std.proofs.Common.{arith}
use Rattle.invariant_checker.proofs.JudgeSteps.{few_blocks_there}
use Rattle.transfer_rules.proofs.Inducing.{item_is}
use Rattle.ensures_infer.proofs.Returning.{block_passed}
use Rattle.ensures_infer.proofs.returns.returns_of.Goals as goal

pub overflow_cast-block : goal.overflow_cast-block
overflow_cast-block c =
    omega (
      arith,
      few_blocks_there c.args.code.now c.args.states.now c.requires.lawful c.requires.shape c.loop-block.block
          c.loop-block-test.true,
    )

pub loop-block-preserved : goal.loop-block-preserved
loop-block-preserved c =
    block_passed c.args.code.now c.args.states.now c.loop-block.block c.index-states-block.result
    c.loop-block.found.items c.push_block.new.found.items
    (item_is c.args.states.now c.loop-block.block c.index-states-block.result c.loop-block-test.true
    c.index-states-block.is) c.loop-block.invariant c.in_ok-push_block.ensures
