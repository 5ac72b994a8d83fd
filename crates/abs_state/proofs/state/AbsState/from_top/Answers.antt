use Rattle.abs_state.proofs.ThereVars.{tops_there}
use Rattle.abs_state.proofs.state.AbsState.from_top.Goals as goal

pub returns-clause-form : goal.returns-clause-form
returns-clause-form c =
    tops_there c.args.self.now c.args.above c.listed_from_top.result c.listed_from_top.ensures.form c.listed_from_top.ensures.value
