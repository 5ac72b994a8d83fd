use Rattle.std.proofs.Common.{to_z-of_z}
use Rattle.clause_eval.proofs.Products.{product_fits}
use Rattle.clause_eval.proofs.arithmetic.product.Goals as goal

pub returns : goal.returns
returns c = rw (to_z-of_z c.ranges.a, to_z-of_z c.ranges.b) (to_z-of_z (product_fits c.args.a c.args.b c.requires.first c.requires.second))
