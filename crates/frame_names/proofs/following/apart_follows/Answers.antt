use Rattle.std.proofs.Common.{sym, ◌∙◌}
use Rattle.std.proofs.lemmas.Result.{IfOk-weaker}
use Rattle.frame_names.proofs.TableLaws.{apart_bound}
use Rattle.frame_names.proofs.following.apart_follows.Goals as goal

pub returns-clause-differ : goal.returns-clause-differ
returns-clause-differ c =
    IfOk-weaker c.all_apart.result _ _
    (λ follows is. λ so. apart_bound c.args.a.now c.args.a_apart.now c.args.binding.now.references c.args.b_apart.now (sym is ∙ so))
    c.all_apart.ensures
