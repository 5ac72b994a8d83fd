use Rattle.std.proofs.Common.{◌∙◌}
use Rattle.alias_facts.proofs.TurnedLaws.{rows_are, rows_proper}
use Rattle.alias_facts.proofs.apart.Apart.of_pairs.Goals as goal

pub of_rows-requires-clause-in_order : goal.of_rows-requires-clause-in_order
of_rows-requires-clause-in_order c = c.in_ok-rows.ensures.in_order

pub of_rows-requires-clause-proper : goal.of_rows-requires-clause-proper
of_rows-requires-clause-proper c =
    rows_proper c.args.pairs.now c.in_ok-rows.rows.items (c.are_kept_pairs.ensures.0 c.if-not-are_kept_pairs.false).1 c.in_ok-rows.ensures.members

pub returns-clause-value : goal.returns-clause-value
returns-clause-value c =
    c.of_rows.ensures
    ∙ rows_are c.args.pairs.now c.in_ok-rows.rows.items (c.are_kept_pairs.ensures.0 c.if-not-are_kept_pairs.false).0 c.in_ok-rows.ensures.members
