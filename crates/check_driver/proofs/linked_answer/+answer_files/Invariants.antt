use Rattle.std.proofs.Common.{length}
use Rattle.check_driver.proofs.linked_answer.+answer_files.Given as goal

abbrev pub decreases-answer_files : goal.decreases-answer_files
decreases-answer_files g l = length l.indexes.now
