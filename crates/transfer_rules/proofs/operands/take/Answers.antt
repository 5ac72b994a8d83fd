use Rattle.std.proofs.Common.{◌∙◌}
use Rattle.transfer_rules.proofs.Taking.{top_is, top_taken}
use Rattle.transfer_rules.proofs.operands.take.Goals as goal

pub returns-clause-taken : goal.returns-clause-taken
returns-clause-taken c =
    top_taken c.args.state.now c.pop.new.self c.from_top-top.result (c.from_top-top.ensures.value ∙ top_is c.args.state.now) c.in_ok-pop.ensures.ok
    c.from_top-top.ensures.form
