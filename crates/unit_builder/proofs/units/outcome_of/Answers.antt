use Rattle.unit_builder.proofs.Outcomes.{is_analysed}
use Rattle.unit_builder.proofs.units.outcome_of.Goals as goal

pub returns-in-Ok-clause-value : goal.returns-in-Ok-clause-value
returns-in-Ok-clause-value c scope method judged =
    let both = rw c.in-Ok.is at judged in is_analysed scope method c.in-Ok.unit both.0 both.1

pub returns-in-Err-clause-value : goal.returns-in-Err-clause-value
returns-in-Err-clause-value c scope method judged = c.skipped.ensures.value scope method (rw c.in-Err.is at judged)
