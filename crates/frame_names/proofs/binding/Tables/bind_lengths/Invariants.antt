use Rattle.std.proofs.Common.{◌≡◌, drop}
use Rattle.frame_names.specs.Binding.{with_lengths}
use Rattle.frame_names.proofs.binding.Tables.bind_lengths.Given as goal

abbrev pub invariant-loop-index : goal.invariant-loop-index
invariant-loop-index g l =
    with_lengths (g.O.Order.gap l.self.order.now) l.self.a.now (drop l.index l.self.b.now) (drop l.index l.slots) l.symbols
    ≡ with_lengths (g.O.Order.gap l.self.order.now) l.self.a.now l.self.b.now l.slots l.initial.symbols
