use Rattle.abs_state.proofs.ThereVars.{var_there}
use Rattle.abs_state.proofs.state.AbsState.var.Goals as goal

pub returns-clause-form : goal.returns-clause-form
returns-clause-form c =
    var_there c.args.self.now c.args.i c.listed_var.result c.listed_var.ensures.form c.listed_var.ensures.value
