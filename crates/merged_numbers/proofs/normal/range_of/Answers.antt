use Rattle.merged_numbers.specs.Known.{known}
use Rattle.merged_numbers.proofs.CutLaws.{own_span_cut}
use Rattle.merged_numbers.proofs.normal.range_of.Goals as goal

pub stored-requires : goal.stored-requires
stored-requires c = own_span_cut (known c.args.a.now) c.args.key.now c.span_of.result c.span_of.ensures
