use Rattle.std.proofs.lemmas.Result.{IfOk-weaker}
use Rattle.frame_names.proofs.TableLaws.{kept_differ}
use Rattle.frame_names.proofs.apart_pairs.kept_apart.Goals as goal

pub returns-clause-differ : goal.returns-clause-differ
returns-clause-differ c =
    IfOk-weaker c.old_pairs.result _ _ (λ apart is. kept_differ c.args.keys.now c.args.kept.now apart is) c.old_pairs.ensures
