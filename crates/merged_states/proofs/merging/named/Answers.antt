use Rattle.std.proofs.lemmas.Result.{IfOk-weaker}
use Rattle.merged_states.proofs.Made.{one_formed, one_keeps}
use Rattle.merged_states.proofs.merging.named.Goals as goal

pub returns-clause-form : goal.returns-clause-form
returns-clause-form c =
    IfOk-weaker c.known_of_one.result _ _ (λ known is. one_formed c.args.a.now known c.requires is) c.known_of_one.ensures

pub returns-clause-keeps : goal.returns-clause-keeps
returns-clause-keeps c =
    IfOk-weaker c.known_of_one.result _ _ (λ known is. one_keeps c.args.a.now known c.requires is) c.known_of_one.ensures
