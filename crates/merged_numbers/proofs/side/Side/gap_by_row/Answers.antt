use Rattle.std.proofs.Common.{◌≡◌, rules}
use Rattle.merged_numbers.specs.Known.{known}
use Rattle.merged_numbers.proofs.RowLaws.{gap_itself}
use Rattle.merged_numbers.proofs.side.Side.gap_by_row.Goals as goal

pub returns-then-s-t : goal.returns-then-s-t
returns-then-s-t c =
    let same : c.args.s ≡ c.args.t = search rules in
    gap_itself (known c.args.self.now) c.args.s c.args.t same
