use Rattle.std.proofs.Common.{◌∙◌}
use Rattle.frame_names.proofs.FrameLemmas.{same_length}
use Rattle.frame_names.proofs.ListSteps.{vars_end, vars_step, vars_stop}
use Rattle.frame_names.proofs.binding.Tables.bind_vars.Goals as goal

pub loop-index-preserved : goal.loop-index-preserved
loop-index-preserved g c =
    vars_step (g.O.Order.gap c.args.self.now.order.now) c.args.self.now.a.now c.args.self.now.b.now c.args.xs.now c.args.ys.now c.loop-index.slots
    c.bind_var.new.slots c.bind_var.result c.loop-index.index _ _ c.loop-index-test.true (same_length c.args.xs.now c.args.ys.now c.requires)
    c.if-not-bind_var.false c.bind_var.ensures
    ∙ c.loop-index.invariant

pub returns-then-not-bind_var : goal.returns-then-not-bind_var
returns-then-not-bind_var g c =
    vars_stop (g.O.Order.gap c.args.self.now.order.now) c.args.self.now.a.now c.args.self.now.b.now c.args.xs.now c.args.ys.now c.loop-index.slots
    c.bind_var.new.slots c.bind_var.result c.loop-index.index _ _ c.loop-index-test.true (same_length c.args.xs.now c.args.ys.now c.requires)
    c.if-not-bind_var.true c.bind_var.ensures
    ∙ c.loop-index.invariant

pub returns : goal.returns
returns g c =
    vars_end (g.O.Order.gap c.args.self.now.order.now) c.args.self.now.a.now c.args.self.now.b.now c.args.xs.now c.args.ys.now c.loop-index.slots
    c.loop-index.index c.loop-index-test.false (same_length c.args.xs.now c.args.ys.now c.requires)
    ∙ c.loop-index.invariant
