use Rattle.std.proofs.Common.{rules, length, ap, ◌∙◌}
use Rattle.std.proofs.lemmas.List.{length-map}
use Rattle.cc_base.proofs.TestLemmas.{refusal-carried}
use Rattle.invariant_codec.specs.Segments.{Arrays, array, arrays_of, in_lists}
use Rattle.invariant_codec.proofs.ArraysRead.{listed_next}
use Rattle.invariant_codec.proofs.Counted.{all_read, read_fault}
use Rattle.invariant_codec.proofs.arrays.read_each.Goals as goal

pub loop-array-preserved : goal.loop-array-preserved
loop-array-preserved c =
    let read = c.in_ok-array.ensures in (
      listed_next (λ before. (array c.args.symbols).read c.args.bytes.now) c.args.count c.args.start
          c.loop-array._array c.loop-array.at c.in_ok-array.next c.loop-array.arrays _ c.in_ok-array.array
          (search rules) c.loop-array.invariant.0 c.in_ok-add.ensures read.0 read.1.0 read.1.1,
      read.1.2,
    )

pub returns-in_err-array : goal.returns-in_err-array
returns-in_err-array c =
    refusal-carried _ _ _ _ _ _ c.from_residual.ensures.1 c.in_err-array.ensures
    (λ fault failed. read_fault (λ before. (array c.args.symbols).read c.args.bytes.now) c.args.count c.args.start
    c.loop-array._array c.loop-array.at (arrays_of c.loop-array.arrays) fault (search rules)
    c.loop-array.invariant.0.read failed)

pub returns : goal.returns
returns c =
    let all = all_read (λ before. (array c.args.symbols).read c.args.bytes.now) c.args.count c.args.start
    c.loop-array._array c.loop-array.at (arrays_of c.loop-array.arrays)
    (search rules) c.loop-array.invariant.0.read in
    let lists = c.loop-array.invariant.0.lists_are ∙ ap in_lists all.value in (
      all.tests,
      (
        lists,
        ap (λ (a : Arrays). length a.references) lists
            ∙ length-map _ (λ a. a.reference),
        all.next,
        c.loop-array.invariant.1,
      ),
    )
