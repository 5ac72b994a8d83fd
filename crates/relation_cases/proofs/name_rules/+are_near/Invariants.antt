use Rattle.std.proofs.Common.{length}
use Rattle.relation_cases.proofs.name_rules.+are_near.Given as goal

abbrev pub decreases-are_near : goal.decreases-are_near
decreases-are_near l = length l.exprs.now
