use Rattle.std.proofs.Common.{◌+◌, rules}
use Rattle.invariant_codec.specs.Symbols.{next_row}
use Rattle.invariant_codec.proofs.Passed.{all_passed, judged_err, passed_fault, passed_next}
use Rattle.invariant_codec.proofs.rows.check_each.Goals as goal

pub loop-row-preserved : goal.loop-row-preserved
loop-row-preserved c =
    let read = c.in_ok-row.ensures in (
      passed_next (λ last. (next_row c.args.symbols last).read c.args.bytes.now) c.args.count c.args.start
          c.loop-row._row c.loop-row.at (c.loop-row.at + 12) c.loop-row.last _ (search rules) c.loop-row.invariant.0
          read.0 read.1.0 read.1.1,
      read.1.2,
    )

pub returns-in_err-row : goal.returns-in_err-row
returns-in_err-row c =
    judged_err _ _ _ _ c.from_residual.ensures.1
    (passed_fault (λ last. (next_row c.args.symbols last).read c.args.bytes.now) c.args.count c.args.start
    c.loop-row._row c.loop-row.at c.loop-row.last _ (search rules) c.loop-row.invariant.0
    c.in_err-row.ensures)

pub returns : goal.returns
returns c =
    let all = all_passed (λ last. (next_row c.args.symbols last).read c.args.bytes.now) c.args.count c.args.start
    c.loop-row._row c.loop-row.at c.loop-row.last (search rules) c.loop-row.invariant.0 in
    (all.tests, (all.next, c.loop-row.invariant.1))
