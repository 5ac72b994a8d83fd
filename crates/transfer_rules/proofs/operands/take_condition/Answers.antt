use Rattle.std.proofs.Common.{refl}
use Rattle.transfer_rules.proofs.Taking.{took_no_pair, took_pair}
use Rattle.transfer_rules.proofs.operands.take_condition.Goals as goal

pub returns-in-Some-clause-took : goal.returns-in-Some-clause-took
returns-in-Some-clause-took c =
    took_pair c.args.message c.args.state.now c.take_two.new.state c.in_ok-condition.field-0 (c.in-Some.condition, c.in-Some.field-0-1) c.in-Some.condition
    c.if-message.true c.in_ok-condition.ensures.took c.in-Some.is refl

pub returns-in-None-clause-took : goal.returns-in-None-clause-took
returns-in-None-clause-took c =
    took_no_pair c.args.message c.args.state.now c.take_two.new.state c.in_ok-condition.field-0 c.if-message.true c.in_ok-condition.ensures.took c.in-None.is
