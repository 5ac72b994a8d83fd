use Rattle.std.proofs.Common.{◌-◌, length, take, drop, arith}
use Rattle.clause_eval.proofs.ClauseTests.{all_olds_put, olds_first}
use Rattle.clause_eval.proofs.clause_tests.+put_all_olds.Goals as goal

pub put_olds-requires : goal.put_olds-requires
put_olds-requires t c =
    let first = olds_first c.args.all.now c.first-item.result c.in-len1-up.len_at_least c.first-item.is in
    let others = all_olds_put (take (length c.args.all.now - 1) (drop 1 c.args.all.now)) c.args.args.now.top c.args.memory.now.heap c.args.olds.now in
    rw c.put_all_olds.ensures (omega (arith, first, others, c.requires))
