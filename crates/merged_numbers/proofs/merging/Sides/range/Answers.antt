use Rattle.merged_numbers.specs.Known.{known}
use Rattle.merged_numbers.proofs.CutLaws.{merged_span_cut}
use Rattle.merged_numbers.proofs.merging.Sides.range.Goals as goal

pub stored-requires : goal.stored-requires
stored-requires c =
    merged_span_cut c.args.self.now.rule (known c.args.self.now.a) (known c.args.self.now.b) c.args.key.now c.span.result c.span.ensures
