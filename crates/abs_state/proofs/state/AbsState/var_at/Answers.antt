use Rattle.abs_state.proofs.ThereVars.{vars_there}
use Rattle.abs_state.proofs.state.AbsState.var_at.Goals as goal

pub returns-clause-form : goal.returns-clause-form
returns-clause-form c =
    vars_there c.args.self.now c.args.i c.listed_at.result c.listed_at.ensures.form c.listed_at.ensures.value
