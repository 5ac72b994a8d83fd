use Rattle.std.proofs.Common.{to_z-of_z}
use Rattle.number_spans.proofs.Products.{product_bounded, product_fits}
use Rattle.number_spans.proofs.exact.times.Goals as goal

pub returns-clause-value : goal.returns-clause-value
returns-clause-value c =
    rw (to_z-of_z c.ranges.m, to_z-of_z c.ranges.n) (to_z-of_z (product_fits c.args.m c.args.n c.requires.first c.requires.second))

pub returns-clause-bound : goal.returns-clause-bound
returns-clause-bound c =
    rw (to_z-of_z c.ranges.m, to_z-of_z c.ranges.n)
    (rw (to_z-of_z (product_fits c.args.m c.args.n c.requires.first c.requires.second)) (product_bounded c.args.m c.args.n c.requires.first c.requires.second))
