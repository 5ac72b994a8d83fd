use Rattle.state_obligations.proofs.AssumptionLaws.{length_named}
use Rattle.state_obligations.proofs.assumption.assume_by_rule.Goals as goal

pub assume_numbers-requires-clause-second : goal.assume_numbers-requires-clause-second
assume_numbers-requires-clause-second c =
    length_named c.args.known.now c.args.condition c.in-Upper.r c.in-Upper.i c.length.result c.requires.form
    c.requires.there c.in-Upper.is c.length.ensures
