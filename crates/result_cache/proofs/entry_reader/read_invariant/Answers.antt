use Rattle.result_cache.proofs.InvariantRead.{read_good}
use Rattle.result_cache.proofs.entry_reader.read_invariant.Goals as goal

pub returns-in-Ok : goal.returns-in-Ok
returns-in-Ok c =
    let read = c.in_ok-invariant.ensures in
    read_good c.args.bytes.now c.args.at c.in_ok-invariant.invariant.now c.in_ok-invariant.next read.0 read.1.0 c.in-Ok.ensures.judged.0
