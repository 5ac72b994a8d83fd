use Rattle.cc_base.proofs.ByteLemmas.{IsBytes-from_fits}
use Rattle.result_cache.proofs.CacheAnswers.{read_firsts, read_judged, read_only, read_spelled}
use Rattle.result_cache.proofs.FirstKeys.{first_key}
use Rattle.result_cache.proofs.ShortEntries.{read_short}
use Rattle.result_cache.proofs.cache.Cache.read.Goals as goal

pub returns-clause-judged : goal.returns-clause-judged
returns-clause-judged c = read_judged c.args.bytes.now c.read_told.result c.read_told.ensures

pub returns-clause-spelled : goal.returns-clause-spelled
returns-clause-spelled c =
    read_spelled c.args.bytes.now c.read_told.result (IsBytes-from_fits c.args.bytes.now c.type_inv.bytes) c.read_told.ensures

pub returns-clause-only : goal.returns-clause-only
returns-clause-only c form entries is = read_only c.args.bytes.now c.read_told.result form entries is c.read_told.ensures

pub returns-clause-first : goal.returns-clause-first
returns-clause-first c = first_key

pub returns-clause-firsts : goal.returns-clause-firsts
returns-clause-firsts c = read_firsts c.args.bytes.now c.read_told.result c.read_told.ensures

pub returns-clause-short : goal.returns-clause-short
returns-clause-short c =
    read_short c.args.bytes.now c.read_told.result
    (read_spelled c.args.bytes.now c.read_told.result (IsBytes-from_fits c.args.bytes.now c.type_inv.bytes) c.read_told.ensures)
