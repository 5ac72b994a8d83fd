use Rattle.number_facts.proofs.SettledSpans.{never_cut}
use Rattle.number_facts.proofs.numbers.Numbers.cut_stored.Goals as goal

pub returns-else-not-leave_ends-clause-ends : goal.returns-else-not-leave_ends-clause-ends
returns-else-not-leave_ends-clause-ends c =
    never_cut c.args.self.now c.args.spans.now (c.leave_ends.ensures c.if-not-leave_ends.false) c.requires
