use Rattle.std.proofs.Common.{sym, ◌∙◌, true≢false}
use Rattle.alias_facts.specs.KeptPairs.{lower_first}
use Rattle.alias_facts.specs.PairsOf.{kept_pairs}
use Rattle.alias_facts.proofs.KeptLaws.{order-kept_pairs}
use Rattle.alias_facts.proofs.TurnedLaws.{same_alone}
use Rattle.alias_facts.proofs.RowLaws.{covers_same, same_covers}
use Rattle.alias_facts.proofs.kept.are_same_pairs.Goals as goal

pub returns-then-covers : goal.returns-then-covers
returns-then-covers c =
    let one = kept_pairs (lower_first c.args.rows.now) c.args.marks.now in
    let other = kept_pairs (lower_first c.args.other_rows.now) c.args.other_marks.now in (
      λ is. covers_same one other (order-kept_pairs (lower_first c.args.rows.now) c.args.marks.now)
          (order-kept_pairs (lower_first c.args.other_rows.now) c.args.other_marks.now) (c.covers.ensures.0 c.if-covers.true) (c.covers-then-covers.ensures.0 is),
      λ same. c.covers-then-covers.ensures.1 (same_covers other one (sym same)),
    )

pub returns-else-covers : goal.returns-else-covers
returns-else-covers c =
    let one = kept_pairs (lower_first c.args.rows.now) c.args.marks.now in
    let other = kept_pairs (lower_first c.args.other_rows.now) c.args.other_marks.now in
    (λ is. absurd (true≢false (sym is ∙ c.if-covers.false)), λ same. c.covers.ensures.1 (same_covers one other same))

pub returns-then-has_no_mark-2 : goal.returns-then-has_no_mark-2
returns-then-has_no_mark-2 c =
    same_alone c.args.rows.now c.args.other_rows.now c.args.marks.now c.args.other_marks.now c.are_equal.result c.requires.one.in_order
    c.requires.other.in_order (c.has_no_mark.ensures c.if-has_no_mark.true) (c.has_no_mark-then-has_no_mark.ensures c.if-has_no_mark-2.true) c.are_equal.ensures
