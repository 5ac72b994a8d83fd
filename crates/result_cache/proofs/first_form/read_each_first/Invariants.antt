use Rattle.result_cache.proofs.FirstWalk.{AreWalked}
use Rattle.result_cache.proofs.first_form.read_each_first.Given as goal

abbrev pub invariant-loop-entry : goal.invariant-loop-entry
invariant-loop-entry l = AreWalked l.bytes l.count l._entry l.at l.held.seconds l.held.others
