use Rattle.std.proofs.Common.{None, Some, refl, rules, sym}
use Rattle.cc_base.proofs.TestLemmas.{refusal-carried}
use Rattle.invariant_codec.specs.Segments.{array}
use Rattle.invariant_codec.proofs.Counted.{length-many}
use Rattle.invariant_codec.proofs.Passed.{all_left, all_passed, passed_fault, passed_next}
use Rattle.invariant_codec.proofs.arrays.check_each.Goals as goal

pub loop-array-init : goal.loop-array-init
loop-array-init c = (
  (None, all_left (λ last. (array c.args.symbols).read c.args.bytes.now) c.args.count c.args.start),
  c.requires.inside,
)

pub loop-array-preserved : goal.loop-array-preserved
loop-array-preserved c =
    let read = c.in_ok-next.ensures in
    let before = c.loop-array.invariant.0 in (
      (
        Some ((array c.args.symbols).read c.args.bytes.now c.loop-array.at).value,
        passed_next (λ last. (array c.args.symbols).read c.args.bytes.now) c.args.count c.args.start
            c.loop-array._array c.loop-array.at c.in_ok-next.next before.0 _ (search rules) before.1 read.0 refl
            read.1.1,
      ),
      read.1.2,
    )

pub returns-in_err-next : goal.returns-in_err-next
returns-in_err-next c =
    let before = c.loop-array.invariant.0 in
    refusal-carried _ _ _ _ _ _ c.from_residual.ensures.1 c.in_err-next.ensures
    (λ fault failed. passed_fault (λ last. (array c.args.symbols).read c.args.bytes.now) c.args.count c.args.start
    c.loop-array._array c.loop-array.at before.0 fault (search rules) before.1 failed)

pub returns : goal.returns
returns c =
    let before = c.loop-array.invariant.0 in
    let all = all_passed (λ last. (array c.args.symbols).read c.args.bytes.now) c.args.count c.args.start
    c.loop-array._array c.loop-array.at before.0 (search rules) before.1 in
    (all.tests, (sym (length-many _ _ _ _), (all.next, c.loop-array.invariant.1)))
