use Rattle.std.proofs.Common.{rules}
use Rattle.state_obligations.proofs.Following.{ready_behind}
use Rattle.state_obligations.proofs.assumption.assume_amount.Goals as goal

pub assume_numbers-requires-clause-form : goal.assume_numbers-requires-clause-form
assume_numbers-requires-clause-form c =
    (ready_behind c.args.n c.args.known.now c.assume_not_negative.new.known c.requires.form c.requires.there
    (c.in_ok-assume_not_negative.ensures.ok (search rules))).form

pub assume_numbers-requires-clause-first : goal.assume_numbers-requires-clause-first
assume_numbers-requires-clause-first c =
    (ready_behind c.args.n c.args.known.now c.assume_not_negative.new.known c.requires.form c.requires.there
    (c.in_ok-assume_not_negative.ensures.ok (search rules))).named
