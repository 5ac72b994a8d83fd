use Rattle.std.proofs.Common.{◌==◌, not, ◌∙◌, sym, ap, rules}
use Rattle.std.specs.List.{list_all}
use Rattle.pentagon_domain.specs.declared.bound_row.BoundRow.{BoundRow}
use Rattle.merged_numbers.proofs.RowLaws.{none_from}
use Rattle.merged_numbers.proofs.side.Side.is_bare.Goals as goal

pub returns-then-rows-lt-FEW : goal.returns-then-rows-lt-FEW
returns-then-rows-lt-FEW c = λ none.
    none_from c.args.self.now.bounds.now c.args.s
    (ap (list_all (λ (row : BoundRow). not (row.s == c.args.s))) (sym c.rows-rows.ensures.value) ∙ sym c.go_from_others.ensures ∙ search rules)
