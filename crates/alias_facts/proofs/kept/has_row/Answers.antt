use Rattle.std.proofs.Common.{sym, ◌∙◌, ◌-◌, arith}
use Rattle.alias_facts.specs.KeptPairs.{lower_first}
use Rattle.alias_facts.specs.PairsOf.{kept_pairs}
use Rattle.alias_facts.proofs.RowLaws.{row_lacks, row_marked}
use Rattle.alias_facts.proofs.kept.has_row.Goals as goal

pub returns-then-is_marked : goal.returns-then-is_marked
returns-then-is_marked c = sym (row_marked (lower_first c.args.rows.now) c.args.marks.now c.args.reference (sym c.is_marked.ensures ∙ c.if-is_marked.true))

pub returns-then-not-is_kept : goal.returns-then-not-is_kept
returns-then-not-is_kept c =
    sym (row_lacks (kept_pairs (lower_first c.args.rows.now) c.args.marks.now) (c.args.reference - 1) c.loop-lower.lower c.args.reference
    (omega arith) (omega arith) (sym c.is_kept.ensures.kept ∙ c.if-not-is_kept.true))
