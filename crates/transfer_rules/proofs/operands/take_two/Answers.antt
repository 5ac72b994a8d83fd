use Rattle.transfer_rules.proofs.Taking.{still_taken}
use Rattle.transfer_rules.proofs.operands.take_two.Goals as goal

pub returns-in-Some-Some-clause-upper : goal.returns-in-Some-Some-clause-upper
returns-in-Some-Some-clause-upper c =
    still_taken c.take.new.state c.take-2.new.state c.in_ok-lower.lower c.in-Some-Some.upper (rw c.in-Some-Some.is-1 at c.in_ok-upper.ensures.taken)
    c.in_ok-lower.ensures.top c.in_ok-lower.ensures.pops
