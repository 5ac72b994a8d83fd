use Rattle.std.proofs.Common.{length}
use Rattle.check_driver.proofs.check_answer.+answer_each.Given as goal

abbrev pub decreases-answer_each : goal.decreases-answer_each
decreases-answer_each g l = length l.given.now.indexes.now
