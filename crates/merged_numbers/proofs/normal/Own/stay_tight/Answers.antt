use Rattle.std.proofs.Common.{rules}
use Rattle.merged_numbers.specs.Known.{known}
use Rattle.merged_numbers.proofs.SettledSides.{norm_tight}
use Rattle.merged_numbers.proofs.normal.Own.stay_tight.Goals as goal

pub returns : goal.returns
returns c = λ yes.
    norm_tight c.args.self.now.keys.now (known c.args.self.now.a) c.args.self.now.ranges.now (c.is_settled.ensures (search rules)) (c.are_named.ensures yes)
    c.requires
