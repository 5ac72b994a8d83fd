use Rattle.state_obligations.proofs.StateLaws.{assumes_them, entails_them}
use Rattle.state_obligations.specs.Conditions.{conditions_of}
use Rattle.state_obligations.specs.Judged.{judged}
use Rattle.state_obligations.specs.Meaning.{AssumesThem, EntailsThem}
use Rattle.abs_state.specs.declared.obligations.Judged.{Judged}
use Rattle.abs_state.proofs.KeptWhereOk.{kept_in_answer, sound_in_answer}
use Rattle.abs_state.proofs.state.AbsState.judge.Goals as goal

pub returns-clause-sound : goal.returns-clause-sound
returns-clause-sound c =
    let cs = conditions_of c.args.operation in
    sound_in_answer c.judged_by_rule.result (λ (found : Judged). found.entailed) (EntailsThem cs c.args.self)
    (judged cs c.args.self).entailed (entails_them cs c.args.self c.judged_by_rule.ensures.form c.requires.there)
    c.judged_by_rule.ensures.entailed

pub returns-clause-keeps : goal.returns-clause-keeps
returns-clause-keeps c =
    let cs = conditions_of c.args.operation in
    kept_in_answer c.judged_by_rule.result (λ (found : Judged). found.state) (AssumesThem cs c.args.self)
    (judged cs c.args.self).state (assumes_them cs c.args.self c.judged_by_rule.ensures.form c.requires.there)
    c.judged_by_rule.ensures.state
