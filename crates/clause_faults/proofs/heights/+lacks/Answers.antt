use Rattle.clause_faults.proofs.FaultLemmas.HeightLemmas.{none_of_all}
use Rattle.clause_faults.proofs.heights.+lacks.Goals as goal

pub any_lacks-returns-then-count-eq0 : goal.any_lacks-returns-then-count-eq0
any_lacks-returns-then-count-eq0 t c = none_of_all c.args.stacks.now c.args.count c.args.tops.now c.if-count-eq0.true
