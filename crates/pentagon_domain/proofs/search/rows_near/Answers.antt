use Rattle.std.proofs.Common.{nat_le, ◌∙◌}
use Rattle.std.proofs.lemmas.List.Kept.{IsNonDecreasingBy-filter}
use Rattle.pentagon_domain.proofs.Searches.{symbols_rise, from_and_up_to}
use Rattle.pentagon_domain.proofs.search.rows_near.Goals as goal

pub rows_on_near-rest-requires : goal.rows_on_near-rest-requires
rows_on_near-rest-requires c = symbols_rise c.args.rows.now c.requires

pub rows_until_near-found-requires : goal.rows_until_near-found-requires
rows_until_near-found-requires c =
    rw c.rows_on_near-rest.ensures
    (IsNonDecreasingBy-filter (λ row. row.s) (λ row. nat_le c.args.s row.s) c.args.rows.now (symbols_rise c.args.rows.now c.requires))

pub returns : goal.returns
returns c = c.rows_until_near-found.ensures ∙ (rw c.rows_on_near-rest.ensures (from_and_up_to (λ row. row.s) c.args.rows.now c.args.s))
