use Rattle.transfer_rules.proofs.Inducing.{holds_in_runs, holds_there}
use Rattle.transfer_rules.proofs.induction.inductive.Goals as goal

pub returns-clause-sound : goal.returns-clause-sound
returns-clause-sound c = λ e. holds_there c.args.code.now c.requires.lawful c.args.states.now (c.in_ok-yes.ensures.exact.0 e)

pub returns-clause-runs : goal.returns-clause-runs
returns-clause-runs c = λ e. holds_in_runs c.args.code.now c.requires.lawful c.args.states.now (c.in_ok-yes.ensures.exact.0 e)
