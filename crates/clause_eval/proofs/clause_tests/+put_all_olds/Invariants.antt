use Rattle.std.proofs.Common.{length}
use Rattle.clause_eval.proofs.clause_tests.+put_all_olds.Given as goal

abbrev pub decreases-put_all_olds : goal.decreases-put_all_olds
decreases-put_all_olds l = length l.all.now
