use Rattle.invariant_codec.proofs.PutSteps.{held}
use Rattle.invariant_codec.proofs.put_states.put_state.Goals as goal

pub returns-clause-spellable : goal.returns-clause-spellable
returns-clause-spellable c = held c.put_parts.result c.in_ok-parts.ensures.spellable
