use Rattle.std.proofs.Common.{sym, subst, ◌∙◌}
use Rattle.unit_flow.specs.Flow.{IsLawful}
use Rattle.unit_verdicts.proofs.FoundOf.{cached_proved}
use Rattle.unit_verdicts.proofs.UnitSafety.{lawful_flow}
use Rattle.unit_verdicts.proofs.analysis.judge_proved.Goals as goal

pub judge_stated-requires : goal.judge_stated-requires
judge_stated-requires c = subst IsLawful (sym c.requires.flow) (lawful_flow c.args.code.now.unit c.requires.unit)

pub judge_stated-requires-in-None : goal.judge_stated-requires-in-None
judge_stated-requires-in-None c = subst IsLawful (sym c.requires.flow) (lawful_flow c.args.code.now.unit c.requires.unit)

pub returns-in-Some : goal.returns-in-Some
returns-in-Some c =
    cached_proved c.judge_stated.result c.args.show c.args.proved.now c.args.code.now c.args.key.now c.in-Some.invariant.now.states.items c.requires.unit
    c.requires.flow c.requires.key c.in-Some.ensures c.judge_stated.ensures

pub returns-in-None : goal.returns-in-None
returns-in-None c =
    cached_proved c.judge_stated-in-None.result c.args.show c.args.proved.now c.args.code.now c.args.key.now c.new.result.items c.requires.unit c.requires.flow
    c.requires.key (c.new.ensures.items ∙ c.in-None.ensures) c.judge_stated-in-None.ensures
