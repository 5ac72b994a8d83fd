use Rattle.std.proofs.Common.{rules}
use Rattle.merged_numbers.specs.Known.{known}
use Rattle.merged_numbers.proofs.OwnLaws.{kept_bounds}
use Rattle.merged_numbers.proofs.normal.Own.is_kept.Goals as goal

pub returns : goal.returns
returns c = λ yes.
    kept_bounds (known c.args.self.now.a) c.args.self.now.keys.now c.args.self.now.ranges.now c.requires.tight c.say_more.ensures.form
    (c.are_own.ensures (search rules)) c.requires.ranges (c.say_more.ensures.value yes)
