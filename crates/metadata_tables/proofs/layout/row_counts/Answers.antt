use Rattle.std.proofs.Common.{◌≡◌, eqb, true, false, sym, ◌∙◌, below_more, refl, arith}
use Rattle.std.specs.Int.{bit_at}
use Rattle.std.proofs.lemmas.Bool.{eqb-true}
use Rattle.std.proofs.lemmas.List.{length-set}
use Rattle.metadata_tables.specs.Layout.{stored_count}
use Rattle.metadata_tables.proofs.LayoutLemmas.{present_below-zero, present_below-more, present_below-le, bit_at-unset, stored_count-set, stored_count-unset, row_counts-filled, filled-more, zero-behind, zeros-at}
use Rattle.metadata_tables.proofs.layout.row_counts.Goals as goal
use Rattle.metadata_tables.proofs.layout.row_counts.Goals.{then-has_bit, else-has_bit}

pub loop-table-init : goal.loop-table-init
loop-table-init c = record {
  place = omega (arith, present_below-zero c.args.bits);
  long = refl;
  filled = λ k h. absurd (omega arith);
  rest = λ k h. zeros-at 45 k;
}

pub u32_at-requires : goal.u32_at-requires
u32_at-requires c =
    let set : bit_at c.args.bits c.loop-table.table ≡ 1 = eqb-true _ _ (sym c.has_bit.ensures ∙ c.if-has_bit.true) in
    omega (arith, set, present_below-le c.args.bits c.loop-table.table 64 (omega arith))

pub overflow_add-at : goal.overflow_add-at
overflow_add-at c =
    let set : bit_at c.args.bits c.loop-table.table ≡ 1 = eqb-true _ _ (sym c.has_bit.ensures ∙ c.if-has_bit.true) in
    omega (arith, set, present_below-le c.args.bits c.loop-table.table 64 (omega arith))

pub loop-table-preserved : goal.loop-table-preserved
loop-table-preserved c =
    let table = c.loop-table.table in
    let bits = c.args.bits in
    let md = c.args.md.now in
    let more = present_below-more bits table in
    let before = c.loop-table.invariant in
    elim c.if-has_bit.branch [
      | then-has_bit w ↦
          let set : eqb (bit_at bits table) 1 ≡ true = sym c.has_bit.ensures ∙ w.if-has_bit.true in
          let one : bit_at bits table ≡ 1 = eqb-true _ _ set in
          rw (w.counts-is) (record {
            place = omega (arith, more, one);
            long = length-set _ _ _ ∙ before.long;
            filled = filled-more (stored_count md) c.loop-table.counts table _ 0 (omega arith) (w.u32_at.ensures ∙ stored_count-set md bits c.args.start table c.loop-table.at c.requires.bits c.requires.place set before.place) before.filled;
            rest = zero-behind c.loop-table.counts table _ before.rest;
          })
      | else-has_bit w ↦
          let unset : eqb (bit_at bits table) 1 ≡ false = sym c.has_bit.ensures ∙ w.if-has_bit.false in
          rw (w.counts-is) (record {
            place = omega (arith, more, bit_at-unset bits table unset);
            long = before.long;
            filled = below_more _ _ before.filled (before.rest table (omega arith) ∙ stored_count-unset md bits table c.requires.bits unset);
            rest = λ k h. before.rest k (omega arith);
          })
    ]

pub returns : goal.returns
returns c = row_counts-filled c.args.md.now c.loop-table.counts c.loop-table.invariant.long (λ k h. c.loop-table.invariant.filled k (omega arith))
