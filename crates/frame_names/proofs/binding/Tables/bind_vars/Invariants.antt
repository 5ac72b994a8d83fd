use Rattle.std.proofs.Common.{◌≡◌, drop}
use Rattle.frame_names.specs.Binding.{with_vars}
use Rattle.frame_names.proofs.binding.Tables.bind_vars.Given as goal

abbrev pub invariant-loop-index : goal.invariant-loop-index
invariant-loop-index g l =
    with_vars (g.O.Order.gap l.self.order.now) l.self.a.now l.self.b.now (drop l.index l.xs) (drop l.index l.ys) l.slots
    ≡ with_vars (g.O.Order.gap l.self.order.now) l.self.a.now l.self.b.now l.xs l.ys l.initial.slots
