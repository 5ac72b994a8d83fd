use Rattle.unit_builder.proofs.Outcomes.{is_skipped}
use Rattle.unit_builder.proofs.units.skipped.Goals as goal

pub returns-in-Bad-clause-value : goal.returns-in-Bad-clause-value
returns-in-Bad-clause-value c scope method judged = is_skipped scope method c.in-Bad.reason (rw c.in-Bad.is at judged)
