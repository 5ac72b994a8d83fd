use Rattle.std.proofs.Common.{rules}
use Rattle.array_segments.specs.Segments.{lists_of}
use Rattle.cc_base.proofs.TestLemmas.{refusal-carried}
use Rattle.invariant_codec.specs.Segments.{first_of_bounds}
use Rattle.invariant_codec.proofs.SegmentsRead.{joined_all, joined_fault, joined_next}
use Rattle.invariant_codec.proofs.segments.read_each.Goals as goal

pub loop-i-preserved : goal.loop-i-preserved
loop-i-preserved c =
    let read = c.in_ok-segment.ensures in (
      joined_next c.args.bytes.now c.args.symbols c.args.length_is c.args.count c.args.start c.loop-i.i c.loop-i.at
          c.in_ok-segment.next (first_of_bounds (lists_of c.args.segs.now))
          (lists_of c.loop-i.segs) _ c.in_ok-segment.segment
          (search rules) c.loop-i.invariant.0 c.in_ok-add.ensures read.0 read.1.0 read.1.1,
      read.1.2,
    )

pub returns-in_err-segment : goal.returns-in_err-segment
returns-in_err-segment c =
    refusal-carried _ _ _ _ _ _ c.from_residual.ensures.1 c.in_err-segment.ensures
    (λ fault failed. joined_fault c.args.bytes.now c.args.symbols c.args.length_is c.args.count c.args.start c.loop-i.i
    c.loop-i.at (first_of_bounds (lists_of c.args.segs.now)) (lists_of c.loop-i.segs) fault
    (search rules) c.loop-i.invariant.0 failed)

pub returns : goal.returns
returns c =
    let all = joined_all c.args.bytes.now c.args.symbols c.args.length_is c.args.count c.args.start c.loop-i.i
    c.loop-i.at (first_of_bounds (lists_of c.args.segs.now)) (lists_of c.loop-i.segs)
    (search rules) c.loop-i.invariant.0 in
    (all.tests, (all.value, all.next, c.loop-i.invariant.1))
