use Rattle.std.proofs.Common.{sym, ◌∙◌}
use Rattle.state_obligations.proofs.StateLaws.{entails_it}
use Rattle.abs_state.proofs.state.AbsState.entails.Goals as goal

pub returns-clause-sound : goal.returns-clause-sound
returns-clause-sound c =
    λ is. entails_it c.args.condition c.args.self.now c.is_entailed.ensures.form c.requires.there (sym c.is_entailed.ensures.value ∙ is)
