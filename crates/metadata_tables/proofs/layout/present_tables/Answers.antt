use Rattle.std.proofs.Common.{◌≡◌, sym, ◌∙◌, arith, eqb, true, false, length}
use Rattle.std.specs.Int.{bit_at}
use Rattle.std.proofs.lemmas.Bool.{eqb-true}
use Rattle.cc_base.proofs.TestLemmas.{singles_on-next, singles_on-stop, singles_on-done}
use Rattle.metadata_tables.specs.Schema.{columns_of}
use Rattle.metadata_tables.specs.TableTests.{bit_test}
use Rattle.metadata_tables.proofs.LayoutLemmas.{bits_tests-start, bit_test-unset, bit_test-known, bit_test-bad, present_below-zero, present_below-more, bit_at-unset}
use Rattle.metadata_tables.proofs.layout.present_tables.Goals as goal
use Rattle.metadata_tables.proofs.layout.present_tables.Goals.{then-has_bit+else-is_empty, else-has_bit}

pub loop-bit-init : goal.loop-bit-init
loop-bit-init c = (sym (present_below-zero c.args.bits), omega arith, bits_tests-start c.args.bits c.args.at)

pub returns-then-is_empty-clause-judged : goal.returns-then-is_empty-clause-judged
returns-then-is_empty-clause-judged c =
    let none : eqb (length (columns_of c.loop-bit.bit)) 0 ≡ true =
    rw (← c.columns.ensures.value) (sym c.is_empty.ensures ∙ c.if-is_empty.true) in
    singles_on-stop (bit_test c.args.bits c.args.at) c.loop-bit.bit 64 _ _ (omega arith)
    (bit_test-bad c.args.bits c.args.at c.loop-bit.bit (sym c.has_bit.ensures ∙ c.if-has_bit.true) none) c.loop-bit.invariant.2

pub loop-bit-preserved : goal.loop-bit-preserved
loop-bit-preserved c =
    let more = present_below-more c.args.bits c.loop-bit.bit in
    elim c.if-has_bit.branch [
      | then-has_bit+else-is_empty w ↦
          let known : eqb (length (columns_of c.loop-bit.bit)) 0 ≡ false =
          rw (← w.columns.ensures.value) (sym w.is_empty.ensures ∙ w.if-is_empty.false) in
          let set : bit_at c.args.bits c.loop-bit.bit ≡ 1 = eqb-true _ _ (sym c.has_bit.ensures ∙ w.if-has_bit.true) in (
            omega (arith, more, set),
            omega arith,
            singles_on-next (bit_test c.args.bits c.args.at) c.loop-bit.bit 64 _ (omega arith) (bit_test-known c.args.bits c.args.at c.loop-bit.bit known) c.loop-bit.invariant.2,
          )
      | else-has_bit w ↦
          let unset : eqb (bit_at c.args.bits c.loop-bit.bit) 1 ≡ false = sym c.has_bit.ensures ∙ w.if-has_bit.false in (
            omega (arith, more, bit_at-unset c.args.bits c.loop-bit.bit unset),
            omega arith,
            singles_on-next (bit_test c.args.bits c.args.at) c.loop-bit.bit 64 _ (omega arith) (bit_test-unset c.args.bits c.args.at c.loop-bit.bit unset) c.loop-bit.invariant.2,
          )
    ]

pub returns-clause-judged : goal.returns-clause-judged
returns-clause-judged c = (singles_on-done (bit_test c.args.bits c.args.at) c.loop-bit.bit 64 _ (omega arith) c.loop-bit.invariant.2, tt)
