use Rattle.std.proofs.Common.{length}
use Rattle.flow_cases.proofs.flows.+go_behind.Given as goal

abbrev pub decreases-go_behind : goal.decreases-go_behind
decreases-go_behind l = length l.instrs.now
