use Rattle.state_obligations.proofs.AssumptionLaws.{assumes_where_ok}
use Rattle.state_obligations.proofs.assumption.assume.Goals as goal

pub returns-clause-keeps : goal.returns-clause-keeps
returns-clause-keeps c =
    assumes_where_ok c.assume_by_rule.result c.args.condition c.args.known.now c.assume_by_rule.new.known
    c.requires.form c.requires.there
    c.assume_by_rule.ensures.reached c.assume_by_rule.ensures.ok
