use Rattle.std.proofs.Common.{◌≡◌, pos, negsuc, ◌+ℤ◌, ◌-ℤ◌, FitsSigned, to_z-of_z, rules}
use Rattle.std.specs.Int.{w128}
use Rattle.number_spans.proofs.Along.{above_by}
use Rattle.number_spans.proofs.exact.stays_above.Goals as goal

pub returns : goal.returns
returns c =
    let moved_fits : FitsSigned w128 c.moved_by.result = search rules in
    let far : c.distance.result ≡ negsuc 2147483647 -ℤ c.args.lo = search rules in
    let moved : c.moved_by.result ≡ c.args.from +ℤ c.distance.result = search rules in
    rw (to_z-of_z moved_fits, to_z-of_z c.ranges.to) (above_by c.args.lo c.args.from c.args.to c.moved_by.result c.distance.result far moved)
