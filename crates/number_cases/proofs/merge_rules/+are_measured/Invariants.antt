use Rattle.std.proofs.Common.{length}
use Rattle.number_cases.proofs.merge_rules.+are_measured.Given as goal

abbrev pub decreases-are_measured : goal.decreases-are_measured
decreases-are_measured l = length l.spans.now
