-- Each way goes forward: a branch goes on later, and is no earlier than where its stretch starts.
use Rattle.std.proofs.Common.{◌+◌, ◌-◌, ◌*◌, ◌^◌}
use Rattle.contract_extract.proofs.trees.tree_of.+growth.Given as goal

abbrev pub decreases-fork : goal.decreases-fork
decreases-fork l = 2 * (2 ^ 32 - l.branch.now.instr.now.at)

abbrev pub decreases-grow : goal.decreases-grow
decreases-grow l = 2 * (2 ^ 32 - l.at) + 1
