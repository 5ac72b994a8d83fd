use Rattle.std.proofs.lemmas.Result.{IfOk-weaker}
use Rattle.frame_names.proofs.TableLaws.{merged_nulls, merged_places}
use Rattle.frame_names.proofs.merging.merged_references.Goals as goal

pub returns-clause-nulls : goal.returns-clause-nulls
returns-clause-nulls c =
    IfOk-weaker c.new_references.result _ _
    (λ merged is. merged_nulls c.args.a.now c.args.b.now c.args.frames.now.references.keys c.args.frames.now.lengths merged.items is) c.new_references.ensures

pub returns-clause-places : goal.returns-clause-places
returns-clause-places c =
    IfOk-weaker c.new_references.result _ _
    (λ merged is. merged_places c.args.a.now c.args.b.now c.args.frames.now.references.keys c.args.frames.now.lengths merged.items is) c.new_references.ensures
