use Rattle.std.proofs.Common.{◌+◌, rules}
use Rattle.invariant_codec.specs.Symbols.{next_pair}
use Rattle.invariant_codec.proofs.Passed.{all_passed, judged_err, passed_fault, passed_next}
use Rattle.invariant_codec.proofs.pairs.check_each.Goals as goal

pub loop-pair-preserved : goal.loop-pair-preserved
loop-pair-preserved c =
    let read = c.in_ok-pair.ensures in (
      passed_next (λ last. (next_pair c.args.references last).read c.args.bytes.now) c.args.count c.args.start
          c.loop-pair._pair c.loop-pair.at (c.loop-pair.at + 4) c.loop-pair.last _ (search rules) c.loop-pair.invariant.0
          read.0 read.1.0 read.1.1,
      read.1.2,
    )

pub returns-in_err-pair : goal.returns-in_err-pair
returns-in_err-pair c =
    judged_err _ _ _ _ c.from_residual.ensures.1
    (passed_fault (λ last. (next_pair c.args.references last).read c.args.bytes.now) c.args.count c.args.start
    c.loop-pair._pair c.loop-pair.at c.loop-pair.last _ (search rules) c.loop-pair.invariant.0
    c.in_err-pair.ensures)

pub returns : goal.returns
returns c =
    let all = all_passed (λ last. (next_pair c.args.references last).read c.args.bytes.now) c.args.count c.args.start
    c.loop-pair._pair c.loop-pair.at c.loop-pair.last (search rules) c.loop-pair.invariant.0 in
    (all.tests, (all.next, c.loop-pair.invariant.1))
