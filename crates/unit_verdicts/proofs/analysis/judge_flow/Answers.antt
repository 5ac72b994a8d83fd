use Rattle.std.proofs.Common.{subst, sym}
use Rattle.unit_flow.specs.Flow.{IsLawful}
use Rattle.unit_verdicts.proofs.Asking.{asks_all}
use Rattle.unit_verdicts.proofs.FoundOf.{found_of}
use Rattle.unit_verdicts.proofs.UnitSafety.{lawful_flow}
use Rattle.unit_verdicts.proofs.analysis.judge_flow.Goals as goal

pub find-requires : goal.find-requires
find-requires g c = record { lawful = subst IsLawful (sym c.requires.flow) (lawful_flow c.args.code.now.unit c.requires.unit) }

pub judge_under-requires : goal.judge_under-requires
judge_under-requires g c = record { lawful = subst IsLawful (sym c.requires.flow) (lawful_flow c.args.code.now.unit c.requires.unit) }

pub returns-clause-value : goal.returns-clause-value
returns-clause-value g c =
    found_of c.judge_under.result c.args.show c.args.code.now c.in_ok-invariant.invariant.states.items c.requires.unit c.requires.flow c.in_ok-invariant.ensures.value c.judge_under.ensures

pub returns-clause-asked : goal.returns-clause-asked
returns-clause-asked g c = asks_all _ c.judge_under.result _ _ c.in_ok-invariant.ensures.asked
