use Rattle.unit_verdicts.proofs.FoundOf.{states_read}
use Rattle.unit_verdicts.proofs.analysis.invariant_in.Goals as goal

pub returns-in-Ok-clause-value : goal.returns-in-Ok-clause-value
returns-in-Ok-clause-value c = states_read c.args.bytes.now c.in-Ok.invariant.states.items c.in-Ok.ensures.judged.1
