use Rattle.std.proofs.Common.{arith}
use Rattle.transfer_rules.proofs.Inducing.{before_more, item_is}
use Rattle.invariant_checker.proofs.JudgeSteps.{block_judged, few_blocks_there}
use Rattle.invariant_checker.proofs.judging.judge_blocks.Goals as goal

pub overflow_cast-block : goal.overflow_cast-block
overflow_cast-block c =
    omega (
      arith,
      few_blocks_there c.args.code.now c.args.states.now c.requires.lawful c.requires.shape c.loop-block.block
          c.loop-block-test.true,
    )

pub loop-block-preserved : goal.loop-block-preserved
loop-block-preserved c =
    record {
      found =
          block_judged c.args.code.now c.args.states.now c.loop-block.block c.index-states-block.result
          c.loop-block.found.items c.judge_block.new.found.items
          (item_is c.args.states.now c.loop-block.block c.index-states-block.result c.loop-block-test.true
          c.index-states-block.is) c.loop-block.invariant.found c.in_ok-before.ensures.found;
      befores =
          before_more c.args.code.now c.args.states.now c.loop-block.block c.loop-block.befores.items
          c.push.new.self.items c.index-states-block.result c.in_ok-before.before c.loop-block.invariant.befores
          c.loop-block-test.true c.index-states-block.is c.in_ok-before.ensures.before c.in_ok-push.ensures.items;
    }
