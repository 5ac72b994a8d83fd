use Rattle.transfer_rules.specs.Flow.{before_last}
use Rattle.transfer_rules.specs.Laws.FlowSteps.{block_ready}
use Rattle.transfer_rules.proofs.walks.before_last.Goals as goal

pub walk-requires-clause-few : goal.walk-requires-clause-few
walk-requires-clause-few c = c.requires.lawful.formed.limits.variables

pub walk-requires-clause-ready : goal.walk-requires-clause-ready
walk-requires-clause-ready c =
    rw (c.block.ensures, c.in_ok-begun.ensures)
    (block_ready c.args.code.now c.args.block c.args.state.now c.requires.lawful c.requires.there c.requires.fits)

pub returns : goal.returns
unfolding before_last
returns c = rw (← c.in_ok-begun.ensures, ← c.block.ensures) c.walk.ensures
