use Rattle.std.proofs.Common.{nat_le, ◌∙◌}
use Rattle.std.proofs.lemmas.List.Kept.{IsNonDecreasingBy-filter}
use Rattle.pentagon_domain.proofs.Searches.{from_and_up_to}
use Rattle.pentagon_domain.proofs.TargetLists.{targets_rise}
use Rattle.pentagon_domain.proofs.search.rows_to.Goals as goal

pub rows_to_on-requires : goal.rows_to_on-requires
rows_to_on-requires c = targets_rise c.args.targets.now c.requires

pub rows_to_until-requires : goal.rows_to_until-requires
rows_to_until-requires c =
    rw c.rows_to_on.ensures
    (IsNonDecreasingBy-filter (λ row. row.t) (λ row. nat_le c.args.t row.t) c.args.targets.now (targets_rise c.args.targets.now c.requires))

pub returns : goal.returns
returns c = c.rows_to_until.ensures ∙ (rw c.rows_to_on.ensures (from_and_up_to (λ row. row.t) c.args.targets.now c.args.t))
