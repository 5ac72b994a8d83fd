use Rattle.pentagon_domain.proofs.Searches.{high_from}
use Rattle.pentagon_domain.proofs.search.is_high_from.Goals as goal

pub returns-else-rows-place : goal.returns-else-rows-place
returns-else-rows-place c = λ yes.
    high_from c.args.rows.now c.args.n c.args.place _ c.requires c.if-rows-place.false (rw c.from.ensures at yes)
