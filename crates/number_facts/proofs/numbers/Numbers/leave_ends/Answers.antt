use Rattle.std.proofs.Common.{◌≡◌, rules}
use Rattle.number_facts.proofs.SettledSpans.{settled_leave}
use Rattle.number_facts.proofs.numbers.Numbers.leave_ends.Goals as goal

pub returns-in-Some : goal.returns-in-Some
returns-in-Some c = λ yes.
    let same : c.self.inside.bounds ≡ c.args.self.now.bounds = search rules in
    settled_leave c.args.self.now c.in-Some.ends.now (c.have_ends.ensures yes) (rw same at c.in-Some.ensures.tight)
    (rw same at c.in-Some.ensures.settled)
