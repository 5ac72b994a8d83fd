use Rattle.std.proofs.Common.{ℕ, ◌+◌, subst}
use Rattle.contract_extract.specs.Dropping.{IsBelow, ahead_at, takes}
use Rattle.contract_extract.proofs.TreeLemmas.Looking.{branch_lies, settled}
use Rattle.contract_extract.proofs.trees.ahead.before_branch.Goals as goal

pub returns : goal.returns
returns c = λ is ahead to short all jump of_target of_next.
    let i = c.args.instr.now in
    let low : IsBelow (takes i.op) c.both.result c.below.result = subst (λ (n : ℕ). IsBelow n c.both.result c.below.result) c.takes.ensures c.below.ensures in
    branch_lies is (ahead_at is ahead) i to c.both.result c.below.result c.args.target c.args.next jump low c.both.ensures.first c.both.ensures.second
    (settled is ahead to c.args.target short all of_target).own (settled is ahead (i.at + i.size) c.args.next short all of_next).own
