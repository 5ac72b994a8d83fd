use Rattle.std.proofs.lemmas.Result.{IfOk-weaker}
use Rattle.frame_names.proofs.BindingLaws.{frames_have_same_lengths, frames_say_same}
use Rattle.frame_names.proofs.binding.bind_frames.Goals as goal

pub returns-clause-says : goal.returns-clause-says
returns-clause-says g c =
    IfOk-weaker c.bound.result _ _
    (λ binding is. frames_say_same (g.O.Order.gap c.args.order.now) c.args.a.now.vars.now c.args.b.now.vars.now c.args.a.now.references.now
    c.args.b.now.references.now c.args.symbols binding is)
    c.bound.ensures

pub returns-clause-lengths : goal.returns-clause-lengths
returns-clause-lengths g c =
    IfOk-weaker c.bound.result _ _
    (λ binding is. frames_have_same_lengths (g.O.Order.gap c.args.order.now) c.args.a.now.vars.now c.args.b.now.vars.now c.args.a.now.references.now
    c.args.b.now.references.now c.args.symbols binding is)
    c.bound.ensures
