use Rattle.std.proofs.Common.{rules, refl}
use Rattle.cc_base.proofs.TestLemmas.{refusal-carried}
use Rattle.result_cache.specs.CacheFile.{entry_field}
use Rattle.invariant_codec.proofs.Counted.{read_next, read_fault}
use Rattle.result_cache.proofs.entry_reader.read_each.Goals as goal

pub loop-entry-preserved : goal.loop-entry-preserved
loop-entry-preserved c =
    let read = c.in_ok-next.ensures in (
      rw read.1.0 (read_next (entry_field c.args.bytes.now) c.args.count c.args.start c.loop-entry._entry
          c.loop-entry.at c.in_ok-next.next c.loop-entry.cache _
          (search rules) c.loop-entry.invariant.0 read.0 refl read.1.1),
      read.1.2,
    )

pub returns-in_err-next : goal.returns-in_err-next
returns-in_err-next c =
    refusal-carried _ _ _ _ _ _ c.from_residual-in_err-next.ensures.1 c.in_err-next.ensures
    (λ fault failed. read_fault (entry_field c.args.bytes.now) c.args.count c.args.start c.loop-entry._entry
    c.loop-entry.at c.loop-entry.cache fault (search rules) c.loop-entry.invariant.0 failed)
