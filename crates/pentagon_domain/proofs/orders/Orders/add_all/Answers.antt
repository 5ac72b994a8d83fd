use Rattle.std.proofs.Common.{rules}
use Rattle.pentagon_domain.proofs.IdleSums.{bounds_up_to}
use Rattle.pentagon_domain.proofs.orders.Orders.add_all.Goals as goal

pub invariant_of-self : goal.invariant_of-self
invariant_of-self c = (
  c.add_all.ensures.form,
  c.add_all.ensures.targets,
  bounds_up_to c.add_all.result c.self.inside.rows.items c.add_all.new.rows.items c.args.bounds.now c.self.inside.most _ (search rules) (search rules)
      (search rules) (search rules) (search rules),
)
