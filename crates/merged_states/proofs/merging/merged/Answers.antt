use Rattle.std.proofs.lemmas.Result.{IfOk-weaker}
use Rattle.merged_states.proofs.Made.{both_formed, first_keeps, second_keeps}
use Rattle.merged_states.proofs.merging.merged.Goals as goal

pub returns-clause-form : goal.returns-clause-form
returns-clause-form c =
    IfOk-weaker c.known_of_both.result _ _
    (λ known is. both_formed c.args.rule c.args.a.now c.args.b.now known c.requires.first c.requires.second c.requires.alike is)
    c.known_of_both.ensures

pub returns-clause-left : goal.returns-clause-left
returns-clause-left c = λ like.
    IfOk-weaker c.known_of_both.result _ _ (λ known is. first_keeps c.args.rule c.args.a.now c.args.b.now known like is) c.known_of_both.ensures

pub returns-clause-right : goal.returns-clause-right
returns-clause-right c = λ like.
    IfOk-weaker c.known_of_both.result _ _ (λ known is. second_keeps c.args.rule c.args.a.now c.args.b.now known like is) c.known_of_both.ensures
