use Rattle.std.proofs.Common.{drop, sym, ◌∙◌}
use Rattle.frame_names.proofs.TableLaws.{entailed_bound}
use Rattle.frame_names.proofs.following.nullness_follows.Goals as goal

pub returns-clause-agree : goal.returns-clause-agree
returns-clause-agree c = λ is array nulls.
    entailed_bound c.args.a.now c.args.b.now (drop 1 c.args.binding.now.references) array (sym c.all_entailed.ensures ∙ is) nulls
