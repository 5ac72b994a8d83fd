use Rattle.transfer_rules.proofs.GoingOn.{can_along, ready_along}
use Rattle.transfer_rules.proofs.rules.go_along.Goals as goal

pub act-requires-clause-ready : goal.act-requires-clause-ready
act-requires-clause-ready c =
    ready_along c.args.op.now c.args.way c.args.state c.in_ok-after.after c.choose.new.state
    c.reached.ensures.form c.in_ok-after.ensures.value c.in_ok-choose.ensures

pub act-requires-clause-calls : goal.act-requires-clause-calls
act-requires-clause-calls c =
    can_along c.args.unit.now c.args.op.now c.args.way c.args.state c.in_ok-after.after c.choose.new.state
    c.requires.calls c.in_ok-after.ensures.value c.in_ok-choose.ensures
