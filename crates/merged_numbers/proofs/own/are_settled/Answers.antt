use Rattle.merged_numbers.proofs.SettledTests.{settled_say_more}
use Rattle.merged_numbers.proofs.own.are_settled.Goals as goal

pub returns-in-Some : goal.returns-in-Some
returns-in-Some c = λ yes.
    settled_say_more c.in-Some.ends.now c.args.ranges.now c.args.bounds.now c.requires c.in-Some.ensures.tight c.in-Some.ensures.settled
    (c.are_of.ensures yes)
