use Rattle.std.proofs.Common.{nat_le, ◌∙◌}
use Rattle.std.proofs.lemmas.List.Kept.{IsNonDecreasingBy-filter}
use Rattle.pentagon_domain.proofs.Searches.{symbols_rise, from_and_up_to}
use Rattle.pentagon_domain.proofs.search.rows_from.Goals as goal

pub rows_from_on-requires : goal.rows_from_on-requires
rows_from_on-requires c = symbols_rise c.args.rows.now c.requires

pub rows_up_to-requires : goal.rows_up_to-requires
rows_up_to-requires c =
    rw c.rows_from_on.ensures
    (IsNonDecreasingBy-filter (λ row. row.s) (λ row. nat_le c.args.s row.s) c.args.rows.now (symbols_rise c.args.rows.now c.requires))

pub returns : goal.returns
returns c = c.rows_up_to.ensures ∙ (rw c.rows_from_on.ensures (from_and_up_to (λ row. row.s) c.args.rows.now c.args.s))
