use Rattle.std.proofs.Common.{ap, ◌∙◌}
use Rattle.state_facts.specs.States.{pop}
use Rattle.transfer_rules.proofs.Calculating.{calculated_where_ok}
use Rattle.transfer_rules.proofs.Passing.{two_popped}
use Rattle.transfer_rules.proofs.acts.pass_test.Goals as goal

pub returns-in_ok-pop-in-Cmp : goal.returns-in_ok-pop-in-Cmp
returns-in_ok-pop-in-Cmp c =
    calculated_where_ok c.pop-in-Cmp-2.result c.pop-in-Cmp-2.new.self _ _ c.pop-in-Cmp-2.ensures.ok
    (ap pop c.in_ok-pop-in-Cmp.ensures.ok ∙ two_popped c.args.test c.in-Cmp.field-0 c.args.state.now c.in-Cmp.is)
