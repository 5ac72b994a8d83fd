use Rattle.std.proofs.lemmas.Result.{IfOk-weaker}
use Rattle.frame_names.proofs.TableLaws.{joined_differ}
use Rattle.frame_names.proofs.apart_pairs.joined_apart.Goals as goal

pub returns-clause-differ : goal.returns-clause-differ
returns-clause-differ c =
    IfOk-weaker c.pairs.result _ _
    (λ apart is. joined_differ c.args.keys.now c.args.a.now c.args.a_apart.now c.args.b.now c.args.b_apart.now apart is) c.pairs.ensures
