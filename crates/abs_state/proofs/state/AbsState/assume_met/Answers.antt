use Rattle.state_facts.specs.StateFacts.{State}
use Rattle.state_obligations.proofs.StateLaws.{assumes_it}
use Rattle.state_obligations.specs.Assumed as rule
use Rattle.state_obligations.specs.Meaning.{AssumesIt}
use Rattle.abs_state.proofs.KeptWhereOk.{kept_in_answer}
use Rattle.abs_state.proofs.state.AbsState.assume_met.Goals as goal

pub returns-clause-keeps : goal.returns-clause-keeps
returns-clause-keeps c =
    kept_in_answer c.met_by_rule.result (λ (s : State). s) (AssumesIt c.args.condition c.args.self)
    (rule.assume c.args.condition c.args.self)
    (assumes_it c.args.condition c.args.self c.met_by_rule.ensures.form c.requires.there) c.met_by_rule.ensures.ok
