use Rattle.pentagon_domain.proofs.TightWithin.{tight_within}
use Rattle.pentagon_domain.proofs.bounds.Bounds.stay_tight.Goals as goal

pub returns-in-Some : goal.returns-in-Some
returns-in-Some c = λ yes. tight_within c.in-Some.wide.now c.args.ends.now c.args.self.now (c.are_within.ensures yes) c.in-Some.ensures
