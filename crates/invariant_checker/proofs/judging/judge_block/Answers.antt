use Rattle.transfer_rules.specs.Flow.{before_last}
use Rattle.invariant_checker.proofs.Judgeable.{block_judged}
use Rattle.invariant_checker.proofs.judging.judge_block.Goals as goal

pub judge_instrs-requires-clause-formed : goal.judge_instrs-requires-clause-formed
judge_instrs-requires-clause-formed c = c.requires.lawful.formed

pub judge_instrs-requires-clause-ready : goal.judge_instrs-requires-clause-ready
judge_instrs-requires-clause-ready c =
    rw (c.block.ensures, c.in_ok-begun.ensures)
    (block_judged c.args.code.now c.requires.lawful c.args.block c.args.state.now c.requires.there c.requires.fits)

pub returns-clause-before : goal.returns-clause-before
unfolding before_last
returns-clause-before c = rw (← c.in_ok-begun.ensures, ← c.block.ensures) c.judge_instrs.ensures.before
