use Rattle.std.proofs.Common.{to_z-of_z}
use Rattle.merged_numbers.proofs.TermLaws.{met_whole}
use Rattle.merged_numbers.proofs.measures.met.Goals as goal

pub returns-then-is_none : goal.returns-then-is_none
returns-then-is_none c =
    rw (to_z-of_z c.ranges.lo, to_z-of_z c.ranges.hi)
    (met_whole c.args.lo c.args.hi c.args.hole c.is_none.result c.is_none.ensures c.if-is_none.true)
