use Rattle.std.proofs.Common.{rules}
use Rattle.cc_base.proofs.TestLemmas.{fault-carried}
use Rattle.invariant_codec.specs.Numbers.{range}
use Rattle.invariant_codec.proofs.Counted.{read_next, read_fault}
use Rattle.invariant_codec.proofs.ranges.read_each.Goals as goal

pub loop-range-preserved : goal.loop-range-preserved
loop-range-preserved c =
    let read = c.in_ok-range.ensures in (
      rw c.in_ok-push.ensures.items (read_next
          (λ before. range.read c.args.bytes.now) c.args.count c.args.start c.loop-range._range c.loop-range.at
          c.in_ok-range.next c.loop-range.ranges.items _
          (search rules) c.loop-range.invariant.0 read.0 read.1.0 read.1.1),
      read.1.2,
    )

pub returns-in_err-range : goal.returns-in_err-range
returns-in_err-range c =
    fault-carried _ _ _ _ c.from_residual.ensures.1
    (read_fault (λ before. range.read c.args.bytes.now) c.args.count c.args.start c.loop-range._range c.loop-range.at
    c.loop-range.ranges.items _ (search rules) c.loop-range.invariant.0 c.in_err-range.ensures)
