use Rattle.std.proofs.Common.{◌∙◌}
use Rattle.frame_names.proofs.ListSteps.{lengths_stop}
use Rattle.frame_names.proofs.binding.Tables.bind_lengths.Goals as goal

pub returns-then-not-bind_length : goal.returns-then-not-bind_length
returns-then-not-bind_length g c =
    lengths_stop (g.O.Order.gap c.args.self.now.order.now) c.args.self.now.a.now c.args.self.now.b.now c.args.slots.now c.loop-index.symbols
    c.bind_length.new.symbols c.slot_at.result c.bind_length.result c.loop-index.index _ c.loop-index-test.true c.slot_at.ensures
    c.if-not-bind_length.true c.bind_length.ensures
    ∙ c.loop-index.invariant
