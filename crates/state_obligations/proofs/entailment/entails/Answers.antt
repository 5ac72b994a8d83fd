use Rattle.std.proofs.Common.{sym, ◌∙◌}
use Rattle.state_obligations.proofs.ConditionLaws.{entailed_is_met}
use Rattle.state_obligations.proofs.entailment.entails.Goals as goal

pub returns-clause-sound : goal.returns-clause-sound
returns-clause-sound c =
    λ is. entailed_is_met c.args.condition c.args.known.now c.requires.form c.requires.there
    (sym c.is_entailed.ensures ∙ is)
