use Rattle.std.proofs.Common.{arith}
use Rattle.result_cache.proofs.CacheAnswers.{fault_behind, told}
use Rattle.result_cache.proofs.cache_reader.read_told.Goals as goal

pub returns : goal.returns
returns c =
    let read = c.in_ok-form.ensures in
    told c.args.bytes.now c.in_ok-form.form c.read_counted.result read.1
    (fault_behind c.args.bytes.now (omega (arith, c.if-bytes-gt-MAX_CACHE_BYTES.false)) read.0) c.read_counted.ensures
