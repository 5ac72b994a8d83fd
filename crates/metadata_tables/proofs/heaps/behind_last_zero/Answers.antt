use Rattle.std.proofs.Common.{arith}
use Rattle.metadata_tables.proofs.TextLemmas.{none_at_end, none_before_other, ends_texts}
use Rattle.metadata_tables.proofs.heaps.behind_last_zero.Goals as goal

pub loop-end-init : goal.loop-end-init
loop-end-init c = record { within = omega arith; none = none_at_end c.args.bytes.now }

pub loop-end-preserved : goal.loop-end-preserved
loop-end-preserved c = record {
  within = omega arith;
  none = none_before_other c.args.bytes.now c.loop-end.end (omega arith) c.loop-end.invariant.within c.if-bytes-end-ne0.true c.loop-end.invariant.none;
}

pub returns-else-bytes-end-ne0 : goal.returns-else-bytes-end-ne0
returns-else-bytes-end-ne0 c = ends_texts c.args.bytes.now c.loop-end.end c.loop-end.invariant.within (λ some. c.if-bytes-end-ne0.false) c.loop-end.invariant.none
