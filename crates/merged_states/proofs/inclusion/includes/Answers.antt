use Rattle.std.proofs.lemmas.Result.{IfOk-weaker}
use Rattle.merged_states.proofs.InclusionLaws.{answer_tells}
use Rattle.merged_states.proofs.inclusion.includes.Goals as goal

pub returns-clause-holds : goal.returns-clause-holds
returns-clause-holds c = IfOk-weaker c.is_included.result _ _
    (answer_tells c.args.a.now c.args.b.now c.requires.first c.requires.second) c.is_included.ensures
