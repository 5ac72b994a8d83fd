use Rattle.transfer_rules.proofs.GoingOn.{can_behind, ready_behind}
use Rattle.transfer_rules.proofs.rules.go_on.Goals as goal

pub act-requires-clause-ready : goal.act-requires-clause-ready
act-requires-clause-ready c =
    ready_behind c.args.op.now c.args.state c.in_ok-after.after c.reached.ensures.form c.in_ok-after.ensures.value

pub act-requires-clause-calls : goal.act-requires-clause-calls
act-requires-clause-calls c =
    can_behind c.args.unit.now c.args.op.now c.args.state c.in_ok-after.after c.requires.calls
    c.in_ok-after.ensures.value
